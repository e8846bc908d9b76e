-- Rows that go up and down, and rows that become blank.
use Rattle.std.proofs.Common.{◌≡◌, refl, ℕ, ◌+◌, ◌-◌, ◌*◌, ◌<◌, ◌≤◌, ◌⊎◌, true, ◌&&◌, ltb, min, inl, inr, List, length, sym, ap, ◌∙◌, arith}
use Rattle.std.proofs.lemmas.Bool.{false≢true, cases_lt}
use Rattle.std.proofs.lemmas.Grind.{common_steps}
use Rattle.roam_cells.specs.Glyph.{Glyph, is_wide, is_right_half, right_of, blank}
use Rattle.roam_cells.specs.Place.{cell_at, AreWhole}
use Rattle.roam_cells.proofs.Places.{table_is}
use Rattle.roam_rows.specs.Row.{mended_glyph}
use Rattle.roam_rows.specs.Places.{Source, From, Fresh, glyph_of_source, are_joined, mapped_cells, moved_at}
use Rattle.roam_rows.specs.Turned.{IsTurned, in_order, brought_back}
use Rattle.roam_rows.specs.Erasing.{rows_blanked}
use Rattle.roam_rows.specs.Scrolling.{up, down}
use Rattle.roam_rows.specs.Vertical.{AreBlanked}
use Rattle.roam_rows.proofs.Mending.{mended_same, mended-blank, is_wide-blank}
use Rattle.roam_rows.proofs.Turning.{turned_at}

-- the cell of a place, by its source and those beside it
abbrev pub shown : ℕ → List Glyph → ℕ → Source → Source → Source → Glyph
shown cols cells c here next before =
    mended_glyph (glyph_of_source cols cells here) (ltb (c + 1) cols && are_joined here next) (ltb 0 c && are_joined before here)

pub shown_by : (cols : ℕ) (cells : List Glyph) (source : ℕ → ℕ → Source) (r c : ℕ) (here next before : Source)
    → source r c ≡ here → source r (c + 1) ≡ next → source r (c - 1) ≡ before → moved_at cols cells source r c ≡ shown cols cells c here next before
shown_by cols cells source r c here next before p q s =
    ap (λ x. shown cols cells c x (source r (c + 1)) (source r (c - 1))) p ∙ ap (λ x. shown cols cells c here x (source r (c - 1))) q
    ∙ ap (λ x. shown cols cells c here next x) s

pub next_joined : (cols s c : ℕ) → c + 1 < cols → (ltb (c + 1) cols && are_joined (From s c) (From s (c + 1))) ≡ true
next_joined cols s c h = grind (arith, common_steps)

pub before_joined : (s c : ℕ) → 0 < c → (ltb 0 c && are_joined (From s (c - 1)) (From s c)) ≡ true
before_joined s c h = grind (arith, common_steps)

-- a row that comes whole from another shows what that one showed
pub row_stays : (rows cols : ℕ) (cells : List Glyph) → AreWhole rows cols cells → (source : ℕ → ℕ → Source) (r c s : ℕ) → s < rows → c < cols
    → ((d : ℕ) → source r d ≡ From s d) → moved_at cols cells source r c ≡ cell_at cols cells s c
row_stays rows cols cells whole source r c s p q e =
    shown_by cols cells source r c (From s c) (From s (c + 1)) (From s (c - 1)) (e c) (e (c + 1)) (e (c - 1))
    ∙ mended_same (cell_at cols cells s c) _ _ (λ w. next_joined cols s c (((whole s p c q).wide w).0)) (λ w. before_joined s c (((whole s p c q).half w).0))

-- a row that comes in blank
pub row_blank : (cols : ℕ) (cells : List Glyph) (source : ℕ → ℕ → Source) (r c : ℕ) → ((d : ℕ) → source r d ≡ Fresh blank) → moved_at cols cells source r c ≡ blank
row_blank cols cells source r c e =
    shown_by cols cells source r c (Fresh blank) (source r (c + 1)) (source r (c - 1)) (e c) refl refl
    ∙ mended-blank (ltb (c + 1) cols && are_joined (Fresh blank) (source r (c + 1))) (ltb 0 c && are_joined (source r (c - 1)) (Fresh blank))

-- each row of the new cells is a row of the old ones, or blank
abbrev pub TakeRows : ℕ → ℕ → List Glyph → List Glyph → Type 0
TakeRows rows cols old new =
    (r : ℕ) → r < rows
    → ((s : ℕ) × (s < rows) × ((c : ℕ) → c < cols → cell_at cols new r c ≡ cell_at cols old s c))
    ⊎ ((c : ℕ) → c < cols → cell_at cols new r c ≡ blank)

-- whole rows leave whole rows
pub rows_whole : (rows cols : ℕ) (old new : List Glyph) → AreWhole rows cols old → TakeRows rows cols old new → AreWhole rows cols new
rows_whole rows cols old new whole takes = λ r p c q. record {
  wide = λ w. elim (takes r p) [
    | inl t ↦
        let h = (whole t.0 t.1 c q).wide (ap is_wide (sym (t.2 c q)) ∙ w) in
        (h.0, t.2 (c + 1) h.0 ∙ h.1 ∙ ap right_of (sym (t.2 c q)))
    | inr t ↦ absurd (false≢true (sym is_wide-blank ∙ ap is_wide (sym (t c q)) ∙ w))
  ];
  half = λ w. elim (takes r p) [
    | inl t ↦
        let h = (whole t.0 t.1 c q).half (ap is_right_half (sym (t.2 c q)) ∙ w) in
        (h.0, ap is_wide (t.2 (c - 1) (omega arith)) ∙ h.1)
    | inr t ↦ absurd (false≢true (ap is_right_half (sym (t c q)) ∙ w))
  ];
}

pub blanked_whole : (rows cols from to : ℕ) (old new : List Glyph) → AreWhole rows cols old → AreBlanked rows cols from to old new → AreWhole rows cols new
blanked_whole rows cols from to old new whole blanked =
    rows_whole rows cols old new whole (λ r p.
    elim (cases_lt r from) [
      | inl above ↦ inl (r, p, λ c q. blanked.above r c above q)
      | inr low ↦ elim (cases_lt r to) [
        | inl inside ↦ inr (λ c q. blanked.inside r c low inside q)
        | inr below ↦ inl (r, p, λ c q. blanked.below r c below p q)
      ]
    ])

rows_blank : (from to r c : ℕ) → from ≤ r → r < to → rows_blanked from to r c ≡ Fresh blank
rows_blank from to r c p q = grind (arith, common_steps)

rows_stay : (from to r c : ℕ) → (r < from) ⊎ (to ≤ r) → rows_blanked from to r c ≡ From r c
rows_stay from to r c p = grind (arith, common_steps)

-- rows between two become blank
pub rows_blanked_is : (rows cols from to : ℕ) (cells new : List Glyph) → AreWhole rows cols cells → length new ≡ rows * cols → AreBlanked rows cols from to cells new → new ≡ mapped_cells rows cols cells (rows_blanked from to)
rows_blanked_is rows cols from to cells new whole len blanked =
    let source = rows_blanked from to in
    table_is rows cols (moved_at cols cells source) new len (λ r c p q.
    elim (cases_lt r from) [
      | inl above ↦ blanked.above r c above q ∙ sym (row_stays rows cols cells whole source r c r p q (λ d. rows_stay from to r d (inl above)))
      | inr low ↦ elim (cases_lt r to) [
        | inl inside ↦ blanked.inside r c low inside q ∙ sym (row_blank cols cells source r c (λ d. rows_blank from to r d low inside))
        | inr below ↦ blanked.below r c below p q ∙ sym (row_stays rows cols cells whole source r c r p q (λ d. rows_stay from to r d (inr below)))
      ]
    ])

pub up_moves : (top bottom n r c : ℕ) → top ≤ r → r + n ≤ bottom → up top bottom n r c ≡ From (r + n) c
up_moves top bottom n r c p q = grind (arith, common_steps)

up_blank : (top bottom n r c : ℕ) → top ≤ r → r ≤ bottom → bottom < r + n → up top bottom n r c ≡ Fresh blank
up_blank top bottom n r c p q h = grind (arith, common_steps)

up_above : (top bottom n r c : ℕ) → r < top → up top bottom n r c ≡ From r c
up_above top bottom n r c p = grind (arith, common_steps)

up_below : (top bottom n r c : ℕ) → bottom < r → up top bottom n r c ≡ From r c
up_below top bottom n r c p = grind (arith, common_steps)

pub down_moves : (top bottom n r c : ℕ) → top + n ≤ r → r ≤ bottom → down top bottom n r c ≡ From (r - n) c
down_moves top bottom n r c p q = grind (arith, common_steps)

down_blank : (top bottom n r c : ℕ) → top ≤ r → r ≤ bottom → r < top + n → down top bottom n r c ≡ Fresh blank
down_blank top bottom n r c p q h = grind (arith, common_steps)

down_above : (top bottom n r c : ℕ) → r < top → down top bottom n r c ≡ From r c
down_above top bottom n r c p = grind (arith, common_steps)

down_below : (top bottom n r c : ℕ) → bottom < r → down top bottom n r c ≡ From r c
down_below top bottom n r c p = grind (arith, common_steps)

module _ (rows cols top bottom n m : ℕ) (cells new : List Glyph) (whole : AreWhole rows cols cells) (len : length new ≡ rows * cols) (ordered : top ≤ bottom) (low : bottom < rows)
    (m_is : m ≡ min n (bottom + 1 - top))
    (above : (r c : ℕ) → r < top → c < cols → cell_at cols new r c ≡ cell_at cols cells r c)
    (below : (r c : ℕ) → bottom < r → r < rows → c < cols → cell_at cols new r c ≡ cell_at cols cells r c) where
  module _ (moves : (r c : ℕ) → top ≤ r → r + m ≤ bottom → c < cols → cell_at cols new r c ≡ cell_at cols cells (r + m) c)
      (fresh : (r c : ℕ) → top ≤ r → r ≤ bottom → bottom < r + m → c < cols → cell_at cols new r c ≡ blank) where
    pub up_is : new ≡ mapped_cells rows cols cells (up top bottom n)
    up_is =
        let source = up top bottom n in
        table_is rows cols (moved_at cols cells source) new len (λ r c p q.
        elim (cases_lt r top) [
          | inl a ↦ above r c a q ∙ sym (row_stays rows cols cells whole source r c r p q (λ d. up_above top bottom n r d a))
          | inr from_top ↦ elim (cases_lt bottom r) [
            | inl b ↦ below r c b p q ∙ sym (row_stays rows cols cells whole source r c r p q (λ d. up_below top bottom n r d b))
            | inr to_bottom ↦ elim (cases_lt bottom (r + n)) [
              | inl in_gap ↦ fresh r c from_top to_bottom (omega arith) q ∙ sym (row_blank cols cells source r c (λ d. up_blank top bottom n r d from_top to_bottom in_gap))
              | inr stays ↦
                  let e : m ≡ n = omega arith in
                  moves r c from_top (omega arith) q ∙ ap (λ j. cell_at cols cells (r + j) c) e
                  ∙ sym (row_stays rows cols cells whole source r c (r + n) (omega arith) q (λ d. up_moves top bottom n r d from_top stays))
            ]
          ]
        ])

  module _ (moves : (r c : ℕ) → top + m ≤ r → r ≤ bottom → c < cols → cell_at cols new r c ≡ cell_at cols cells (r - m) c)
      (fresh : (r c : ℕ) → top ≤ r → r ≤ bottom → r < top + m → c < cols → cell_at cols new r c ≡ blank) where
    pub down_is : new ≡ mapped_cells rows cols cells (down top bottom n)
    down_is =
        let source = down top bottom n in
        table_is rows cols (moved_at cols cells source) new len (λ r c p q.
        elim (cases_lt r top) [
          | inl a ↦ above r c a q ∙ sym (row_stays rows cols cells whole source r c r p q (λ d. down_above top bottom n r d a))
          | inr from_top ↦ elim (cases_lt bottom r) [
            | inl b ↦ below r c b p q ∙ sym (row_stays rows cols cells whole source r c r p q (λ d. down_below top bottom n r d b))
            | inr to_bottom ↦ elim (cases_lt r (top + n)) [
              | inl in_gap ↦ fresh r c from_top to_bottom (omega arith) q ∙ sym (row_blank cols cells source r c (λ d. down_blank top bottom n r d from_top to_bottom in_gap))
              | inr stays ↦
                  let e : m ≡ n = omega arith in
                  moves r c (omega arith) to_bottom q ∙ ap (λ j. cell_at cols cells (r - j) c) e
                  ∙ sym (row_stays rows cols cells whole source r c (r - n) (omega arith) q (λ d. down_moves top bottom n r d stays to_bottom))
            ]
          ]
        ])

-- a buffer whose cells in order are whole
pub turned_by : (rows cols first next : ℕ) (old new : List Glyph) → IsTurned rows cols first old → length new ≡ length old → next < rows
    → AreWhole rows cols (in_order cols next new) → IsTurned rows cols next new
turned_by rows cols first next old new turned len next_in whole = record {
  limits = turned.limits;
  size = len ∙ turned.size;
  first_in = next_in;
  whole = whole;
}

up_index : (rows first n r : ℕ) → first < rows → n ≤ rows → r + n < rows → brought_back rows (brought_back rows (first + n) + r) ≡ brought_back rows (first + (r + n))
up_index rows first n r p q h = grind (arith, common_steps)

pub next_in : (rows first n : ℕ) → first < rows → n ≤ rows → brought_back rows (first + n) < rows
next_in rows first n p q = grind (arith, common_steps)

-- the first row moves, and the buffer stays
module _ (rows cols first n : ℕ) (buffer : List Glyph) (size : length buffer ≡ rows * cols) (first_in : first < rows) (few : n ≤ rows) where
  pub gone_up : (r c : ℕ) → r + n < rows → c < cols
      → cell_at cols (in_order cols (brought_back rows (first + n)) buffer) r c ≡ cell_at cols (in_order cols first buffer) (r + n) c
  gone_up r c p q =
      turned_at rows cols (brought_back rows (first + n)) buffer r c size (next_in rows first n first_in few) (omega arith) q
      ∙ ap (λ j. cell_at cols buffer j c) (up_index rows first n r first_in few p)
      ∙ sym (turned_at rows cols first buffer (r + n) c size first_in p q)
