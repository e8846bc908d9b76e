-- Rows that go round in a buffer.
use Rattle.std.proofs.Common.{◌≡◌, ◌≢◌, ℕ, ◌+◌, ◌-◌, ◌*◌, ◌<◌, ◌≤◌, ◌⊎◌, inl, inr, List, take, drop, length, get_or, sym, ap, ◌∙◌, arith, length-append, length-take, length-drop}
use Rattle.std.proofs.lemmas.Bool.{cases_lt, cases_eq}
use Rattle.std.proofs.lemmas.List.Edits.{length-between, get_or-between}
use Rattle.std.specs.Prelude.{slice_range}
use Rattle.std.proofs.lemmas.List.{same_lists, get_or_default, get_or_append_left, get_or-append_right, get_or-drop, get_or-take}
use Rattle.std.proofs.lemmas.Grind.{common_steps}
use Rattle.roam_cells.specs.Glyph.{Glyph, blank}
use Rattle.roam_cells.specs.Place.{cell_at}
use Rattle.roam_cells.proofs.Places.{row_from, place_below}
use Rattle.roam_rows.specs.Turned.{in_order, brought_back}
use Rattle.roam_rows.specs.Vertical.{AreBlanked}

pub length-in_order : (cols first : ℕ) (buffer : List Glyph) → length (in_order cols first buffer) ≡ length buffer
length-in_order cols first buffer = simp (length-append, length-take, length-drop) (omega arith)

pub back_low : (rows x : ℕ) → x < rows → brought_back rows x ≡ x
back_low rows x h = grind (arith, common_steps)

pub back_high : (rows x : ℕ) → rows ≤ x → brought_back rows x ≡ x - rows
back_high rows x h = grind (arith, common_steps)

pub back_below : (rows first r : ℕ) → first < rows → r < rows → brought_back rows (first + r) < rows
back_below rows first r p q = grind (arith, common_steps)

pub back_apart : (rows first r s : ℕ) → first < rows → r < rows → s < rows → r ≢ s → brought_back rows (first + r) ≢ brought_back rows (first + s)
back_apart rows first r s p q t ne = grind (arith, common_steps)

-- row r of the screen is a row of the buffer
pub turned_at : (rows cols first : ℕ) (buffer : List Glyph) (r c : ℕ) → length buffer ≡ rows * cols → first < rows → r < rows → c < cols
    → cell_at cols (in_order cols first buffer) r c ≡ cell_at cols buffer (brought_back rows (first + r)) c
turned_at rows cols first buffer r c size first_in r_in c_in =
    elim (cases_lt (first + r) rows) [
      | inl low ↦
          let k : r * cols + c < length (drop (first * cols) buffer) =
          simp length-drop (omega (arith, size, place_below rows cols (first + r) c low c_in)) in
          let at : first * cols + (r * cols + c) ≡ (first + r) * cols + c = omega arith in
          get_or_append_left (drop (first * cols) buffer) (take (first * cols) buffer) blank (r * cols + c) k
          ∙ get_or-drop (first * cols) buffer (r * cols + c) blank
          ∙ ap (λ j. get_or buffer j blank) at ∙ sym (ap (λ j. cell_at cols buffer j c) (back_low rows (first + r) low))
      | inr high ↦
          let d : length (drop (first * cols) buffer) ≡ rows * cols - first * cols = simp length-drop (omega (arith, size)) in
          let past : rows * cols - first * cols ≤ r * cols + c = omega (arith, row_from cols rows (first + r) c high) in
          let split : first + r ≡ (first + r - rows) + rows = omega arith in
          let room : r * cols + c - (rows * cols - first * cols) ≡ (first + r - rows) * cols + c =
          omega (arith, ap (λ j. j * cols) split, row_from cols first rows 0 (omega arith)) in
          let within : (first + r - rows) * cols + c < first * cols = place_below first cols (first + r - rows) c (omega arith) c_in in
          get_or-append_right (drop (first * cols) buffer) (take (first * cols) buffer) (rows * cols - first * cols) (r * cols + c) blank d past
          ∙ get_or-take (first * cols) buffer (r * cols + c - (rows * cols - first * cols)) blank (omega (arith, room, within))
          ∙ ap (λ j. get_or buffer j blank) room ∙ sym (ap (λ j. cell_at cols buffer j c) (back_high rows (first + r) high))
    ]

-- a row of the screen is its row of the buffer
pub row_turned : (rows cols first i at : ℕ) (buffer : List Glyph) → length buffer ≡ rows * cols → first < rows → i < rows → at ≡ brought_back rows (first + i)
    → slice_range buffer (at * cols) ((at + 1) * cols) ≡ slice_range (in_order cols first buffer) (i * cols) ((i + 1) * cols)
row_turned rows cols first i at buffer size first_in i_in at_is =
    let at_in : at < rows = grind (arith, common_steps) in
    let whole = in_order cols first buffer in
    let one : length (slice_range buffer (at * cols) ((at + 1) * cols)) ≡ (at + 1) * cols - at * cols =
    length-between buffer (at * cols) ((at + 1) * cols) (omega (arith, size, row_from cols (at + 1) rows 0 (omega arith))) in
    let two : length (slice_range whole (i * cols) ((i + 1) * cols)) ≡ (i + 1) * cols - i * cols =
    length-between whole (i * cols) ((i + 1) * cols) (omega (arith, size, length-in_order cols first buffer, row_from cols (i + 1) rows 0 (omega arith))) in
    same_lists _ _ (omega (arith, one, two)) (λ k d h.
    let k_in : k < cols = omega (arith, one) in
    let a_in : at * cols + k < length buffer = omega (arith, size, place_below rows cols at k at_in k_in) in
    get_or-between buffer (at * cols) ((at + 1) * cols) k d (omega arith) ∙ get_or_default buffer (at * cols + k) d blank a_in
    ∙ ap (λ j. cell_at cols buffer j k) at_is ∙ sym (turned_at rows cols first buffer i k size first_in i_in k_in)
    ∙ get_or_default whole (i * cols + k) blank d (omega (arith, size, length-in_order cols first buffer, place_below rows cols i k i_in k_in))
    ∙ sym (get_or-between whole (i * cols) ((i + 1) * cols) k d (omega arith)))

-- the places of two rows of the buffer are apart
pub rows_apart : (cols a b c : ℕ) → c < cols → a ≢ b → (a * cols + c < b * cols) ⊎ (b * cols + cols ≤ a * cols + c)
rows_apart cols a b c q ne =
    elim (cases_lt a b) [
      | inl low ↦ inl (place_below b cols a c low q)
      | inr high ↦ inr (omega (arith, row_from cols (b + 1) a c (omega arith)))
    ]

-- a list written over one row of the buffer
module _ (rows cols first R : ℕ) (old new : List Glyph) (size : length old ≡ rows * cols) (size' : length new ≡ rows * cols) (first_in : first < rows) (R_in : R < rows) where
  pub others_stay : ((k : ℕ) → k < brought_back rows (first + R) * cols → get_or new k blank ≡ get_or old k blank)
      → ((k : ℕ) → brought_back rows (first + R) * cols + cols ≤ k → get_or new k blank ≡ get_or old k blank)
      → (r c : ℕ) → r < rows → c < cols → r ≢ R → cell_at cols (in_order cols first new) r c ≡ cell_at cols (in_order cols first old) r c
  others_stay before after r c p q ne =
      let at = brought_back rows (first + r) in
      turned_at rows cols first new r c size' first_in p q
      ∙ elim (rows_apart cols at (brought_back rows (first + R)) c q (back_apart rows first r R first_in p R_in ne)) [
        | inl low ↦ before (at * cols + c) low
        | inr high ↦ after (at * cols + c) high
      ]
      ∙ sym (turned_at rows cols first old r c size first_in p q)

-- one more blank row
pub blanked_more : (rows cols from r : ℕ) (old mid new : List Glyph) → r < rows → AreBlanked rows cols from r old mid → from ≤ r → ((c : ℕ) → c < cols → cell_at cols new r c ≡ blank)
    → ((s c : ℕ) → s < rows → c < cols → s ≢ r → cell_at cols new s c ≡ cell_at cols mid s c) → AreBlanked rows cols from (r + 1) old new
blanked_more rows cols from r old mid new r_in was low here others = record {
  inside = λ s c p q h. elim (cases_eq s r) [
    | inl e ↦ ap (λ j. cell_at cols new j c) e ∙ here c h
    | inr ne ↦ others s c (omega arith) h ne ∙ was.inside s c p (omega arith) h
  ];
  above = λ s c p q. others s c (omega arith) q (λ e. absurd (omega arith)) ∙ was.above s c p q;
  below = λ s c p q h. others s c q h (λ e. absurd (omega arith)) ∙ was.below s c (omega arith) q h;
}
