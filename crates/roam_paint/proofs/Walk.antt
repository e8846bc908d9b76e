-- A row is painted, place by place.
use Rattle.std.proofs.Common.{◌≡◌, ◌≤◌, ◌<◌, ℕ, zero, suc, ◌+◌, ◌-◌, Bool, true, false, not, ◌&&◌, ◌||◌, inl, inr, List, [], ◌∷◌, ◌++◌, map, Option, None, refl, sym, ap, ◌∙◌, subst, arith}
use Rattle.std.specs.Prelude.{if◌then◌else◌, nat_lt, ⊤}
use Rattle.std.specs.Char.{IsScalar}
use Rattle.std.proofs.lemmas.Bool.{false≢true, cases_eq, cases_Bool, cases_lt, and_parts, ltb-true}
use Rattle.roam_cells.specs.Glyph.{IsColour, Glyph, is_wide, is_wide_text, is_right_half, is_empty_text, is_text, right_of, default_style}
use Rattle.roam_cells.specs.Place.{cell_at}
use Rattle.roam_cells.specs.declared.styles.Style.{Style}
use Rattle.roam_cells.proofs.Places.{get_or-table}
use Rattle.roam_rows.specs.Places.{in_row, mapped_cells, moved_at}
use Rattle.roam_rows.specs.Writing.{writing_source}
use Rattle.roam_grid.specs.Writing.{columns}
use Rattle.roam_text.specs.declared.functions.Function.TheVariants.{Print}
use Rattle.roam_term.specs.Terminal.{Live, changed_by}
use Rattle.roam_term.specs.ControlFunctions.{place_cursor, restyle}
use Rattle.roam_cells.specs.Same.{same_style}
use Rattle.roam_paint.specs.Painting.{Places, is_drawn, goes_on, placing, styling, drawn_cell, style_after, style_in, drawn_row, style_at, drawn_rows}
use Rattle.roam_cells.proofs.SameCells.{style_same}
use Rattle.roam_term.proofs.Cells.{first_of, first_wide, by, written_half, written_other}
use Rattle.roam_term.proofs.Steps.{acted, acted-append, Constants, at_work, goes, restyled, Printed, stands, prints_all}

abbrev pub AreScalars : List ℕ → Type 0
AreScalars [] = ⊤
AreScalars (c ∷ cs) = IsScalar c × AreScalars cs

-- a cell that can be painted
pub record IsPaintable (g : Glyph) : Type 0 where
  pub text : is_text g.points ≡ true
  pub scalars : AreScalars g.points
  pub unguarded : g.guarded ≡ false
  pub foreground : IsColour g.style.foreground
  pub background : IsColour g.style.background

pub wide_text-some : (ps : List ℕ) → is_wide_text ps ≡ true → is_empty_text ps ≡ false
wide_text-some [] h = absurd (false≢true h)
wide_text-some (c ∷ cs) h = refl

pub undrawn_first : (h a w b : Bool) → (not h && (a || (w && b))) ≡ false → h ≡ false → a ≡ false
undrawn_first true a w b e k = absurd (false≢true (sym k))
undrawn_first false true w b e k = absurd (false≢true (sym e))
undrawn_first false false w b e k = refl

undrawn_second : (h a w b : Bool) → (not h && (a || (w && b))) ≡ false → h ≡ false → w ≡ true → b ≡ false
undrawn_second true a w b e k l = absurd (false≢true (sym k))
undrawn_second false true w b e k l = absurd (false≢true (sym e))
undrawn_second false false true b e k l = e
undrawn_second false false false b e k l = absurd (false≢true l)

pub drawn_second : (h a w b : Bool) → h ≡ false → w ≡ true → b ≡ true → (not h && (a || (w && b))) ≡ true
drawn_second true a w b k l m = absurd (false≢true (sym k))
drawn_second false true w b k l m = refl
drawn_second false false true b k l m = m
drawn_second false false false b k l m = absurd (false≢true l)

drawn_some : (h b : Bool) → (not h && b) ≡ true → h ≡ false
drawn_some true b e = absurd (false≢true e)
drawn_some false b e = refl

module _ (still : Constants) (prows pcols : ℕ) (d : ℕ → ℕ → Bool) (new : Places)
    (rows_in : prows ≤ still.rows) (cols_in : pcols ≤ still.cols)
    (wide_in : (r c : ℕ) → is_wide (new r c) ≡ true → (c + 1 < pcols) × (new r (c + 1) ≡ right_of (new r c)))
    (half_in : (r c : ℕ) → is_right_half (new r c) ≡ true → (0 < c) × (is_wide (new r (c - 1)) ≡ true))
    (paintable : (r c : ℕ) → r < prows → c < pcols → IsPaintable (new r c)) where
  abbrev rows : ℕ
  rows = still.rows

  abbrev cols : ℕ
  cols = still.cols

  -- ---- a cell of the new screen is written at its place

  module _ (cells : List Glyph) (r k : ℕ) (r_in : r < prows) (k_in : k < pcols) (some : is_right_half (new r k) ≡ false) (after : List Glyph)
      (hit : cell_at cols after r k ≡ new r k)
      (other : (i j : ℕ) → i < rows → j < cols → (i ≡ r → j ≡ k → ⊥) → cell_at cols after i j ≡ cell_at cols (mapped_cells rows cols cells (in_row r (writing_source (first_of (new r k)) k))) i j) where
    at_table : (i j : ℕ) → i < rows → j < cols → (i ≡ r → j ≡ k → ⊥) → cell_at cols after i j ≡ moved_at cols cells (by (is_wide (new r k)) (first_of (new r k)) r k) i j
    at_table i j p q e =
        other i j p q e ∙ get_or-table rows cols (moved_at cols cells (in_row r (writing_source (first_of (new r k)) k))) i j _ p q
        ∙ ap (λ b. moved_at cols cells (by b (first_of (new r k)) r k) i j) (first_wide (new r k))

    hits_half : is_wide (new r k) ≡ true → cell_at cols after r (k + 1) ≡ new r (k + 1)
    hits_half w =
        let h = wide_in r k w in
        let inside = h.0 in
        at_table r (k + 1) (omega (arith, r_in, rows_in)) (omega (arith, inside, cols_in)) (λ a b. absurd (omega (arith, b)))
        ∙ ap (λ b. moved_at cols cells (by b (first_of (new r k)) r k) r (k + 1)) w ∙ written_half (first_of (new r k)) cols cells r k (first_wide (new r k) ∙ w) ∙ sym h.1

    cuts_left : (i j : ℕ) → is_wide (new i j) ≡ true → i ≡ r → j + 1 ≡ k → ⊥
    cuts_left i j w p q =
        let is : new r k ≡ right_of (new i j) = sym (ap (λ a. new a (j + 1)) p ∙ ap (new r) q) ∙ (wide_in i j w).1 in
        false≢true (sym some ∙ ap is_right_half is)

    cuts_right : (i j : ℕ) → is_right_half (new i j) ≡ true → is_wide (new r k) ≡ true → i ≡ r → j ≡ k + 2 → ⊥
    cuts_right i j h w p q =
        let back : j - 1 ≡ k + 1 = omega (arith, q) in
        let wide : is_wide (new r (k + 1)) ≡ true = sym (ap (λ a. is_wide (new a (j - 1))) p ∙ ap (λ a. is_wide (new r a)) back) ∙ (half_in i j h).1 in
        false≢true (sym (ap is_wide (wide_in r k w).1) ∙ wide)

    over_wide : (i j : ℕ) → is_right_half (new i j) ≡ true → i ≡ r → j ≡ k + 1 → is_wide (new r k) ≡ true
    over_wide i j h p q =
        let back : j - 1 ≡ k = omega (arith, q) in
        sym (ap (λ a. is_wide (new a (j - 1))) p ∙ ap (λ a. is_wide (new r a)) back) ∙ (half_in i j h).1

    keeps_other : (i j : ℕ) → i < rows → j < cols → (i ≡ r → j ≡ k → ⊥) → (is_wide (new r k) ≡ true → i ≡ r → j ≡ k + 1 → ⊥)
        → cell_at cols cells i j ≡ new i j → cell_at cols after i j ≡ new i j
    keeps_other i j p q here right shows =
        at_table i j p q here
        ∙ written_other (is_wide (new r k)) (first_of (new r k)) cols cells r k i j here right
        (λ w. let wide : is_wide (new i j) ≡ true = sym (ap is_wide shows) ∙ w in let h = (wide_in i j wide).0 in (omega (arith, h, cols_in), cuts_left i j wide))
        (λ w. let half : is_right_half (new i j) ≡ true = sym (ap is_right_half shows) ∙ w in
        ((half_in i j half).0, (λ a b. right (over_wide i j half a b) a b), cuts_right i j half))
        ∙ shows

    -- a place with the right cell keeps it
    keeps : (i j : ℕ) → i < rows → j < cols → cell_at cols cells i j ≡ new i j → cell_at cols after i j ≡ new i j
    keeps i j p q shows =
        elim (cases_eq i r) [
          | inr n ↦ keeps_other i j p q (λ a b. n a) (λ w a b. n a) shows
          | inl a ↦
              elim (cases_eq j k) [
                | inl b ↦ ap (λ x. cell_at cols after x j) a ∙ ap (λ x. cell_at cols after r x) b ∙ hit ∙ sym (ap (λ x. new x j) a ∙ ap (λ x. new r x) b)
                | inr m ↦
                    elim (cases_eq j (k + 1)) [
                      | inr o ↦ keeps_other i j p q (λ x y. m y) (λ w x y. o y) shows
                      | inl e ↦
                          elim (cases_Bool (is_wide (new r k))) [
                            | inl w ↦ ap (λ x. cell_at cols after x j) a ∙ ap (λ x. cell_at cols after r x) e ∙ hits_half w ∙ sym (ap (λ x. new x j) a ∙ ap (λ x. new r x) e)
                            | inr w ↦ keeps_other i j p q (λ x y. m y) (λ v x y. false≢true (sym w ∙ v)) shows
                          ]
                    ]
              ]
        ]

  -- ---- the places before one of a row: all above, all before it, its right half if its left half was painted, and all that do not differ

  pub record Shown (r k : ℕ) (cells : List Glyph) : Type 0 where
    pub above : (i j : ℕ) → i < r → i < rows → j < cols → cell_at cols cells i j ≡ new i j
    pub before : (j : ℕ) → j < k → j < cols → cell_at cols cells r j ≡ new r j
    pub half : is_right_half (new r k) ≡ true → k < cols → cell_at cols cells r k ≡ new r k
    pub rest : (i j : ℕ) → i < rows → j < cols → d i j ≡ false → cell_at cols cells i j ≡ new i j

  -- and the cursor: behind the painted cells, while the row goes on
  pub record Walked (r k : ℕ) (g : Style) (t : Live) : Type 0 where
    pub cells : List Glyph
    pub row : ℕ
    pub col : ℕ
    pub pending : Bool
    pub last : Option ℕ
    pub is : t ≡ at_work still cells row col pending g false last
    pub shown : Shown r k cells
    pub stands : 0 < k → k < cols → d r (k - 1) ≡ true → is_right_half (new r k) ≡ false → (row ≡ r) × (col ≡ k) × (pending ≡ false)
    pub middle : k + 1 < cols → is_right_half (new r k) ≡ true → is_drawn d new r (k - 1) ≡ true → (row ≡ r) × (col ≡ k + 1) × (pending ≡ false)

  -- ---- a place that is not drawn

  module _ (r k : ℕ) (g : Style) (t : Live) (r_in : r < prows) (k_in : k < pcols) (w : Walked r k g t) (undrawn : is_drawn d new r k ≡ false) where
    shows_here : k < cols → cell_at cols w.cells r k ≡ new r k
    shows_here q =
        elim (cases_Bool (is_right_half (new r k))) [
          | inl h ↦ w.shown.half h q
          | inr h ↦ w.shown.rest r k (omega (arith, r_in, rows_in)) q (undrawn_first (is_right_half (new r k)) (d r k) (is_wide (new r k)) (d r (k + 1)) undrawn h)
        ]

    back : k + 1 - 1 ≡ k
    back = omega arith

    wide_before : is_right_half (new r (k + 1)) ≡ true → is_wide (new r k) ≡ true
    wide_before h = sym (ap (λ x. is_wide (new r x)) back) ∙ (half_in r (k + 1) h).1

    skipped_before : (j : ℕ) → j < k + 1 → j < cols → cell_at cols w.cells r j ≡ new r j
    skipped_before j p q =
        elim (cases_lt j k) [
          | inl h ↦ w.shown.before j h q
          | inr h ↦
              let e : j ≡ k = omega (arith, p, h) in
              ap (λ x. cell_at cols w.cells r x) e ∙ shows_here (omega (arith, q, e)) ∙ sym (ap (new r) e)
        ]

    skipped_half : is_right_half (new r (k + 1)) ≡ true → k + 1 < cols → cell_at cols w.cells r (k + 1) ≡ new r (k + 1)
    skipped_half h q =
        let wide = wide_before h in
        w.shown.rest r (k + 1) (omega (arith, r_in, rows_in)) q
        (undrawn_second (is_right_half (new r k)) (d r k) (is_wide (new r k)) (d r (k + 1)) undrawn (wide_text-some (new r k).points wide) wide)

    skipped_stands : k + 1 < cols → d r (k + 1 - 1) ≡ true → (w.row ≡ r) × (w.col ≡ k + 1) × (w.pending ≡ false)
    skipped_stands q e =
        let differs : d r k ≡ true = sym (ap (d r) back) ∙ e in
        elim (cases_Bool (is_right_half (new r k))) [
          | inl h ↦
              let low = (half_in r k h).0 in
              let on : k - 1 + 1 ≡ k = omega (arith, low) in
              w.middle q h (drawn_second (is_right_half (new r (k - 1))) (d r (k - 1)) (is_wide (new r (k - 1))) (d r (k - 1 + 1))
              (wide_text-some (new r (k - 1)).points (half_in r k h).1) (half_in r k h).1 (ap (d r) on ∙ differs))
          | inr h ↦
              absurd (false≢true (sym (undrawn_first (is_right_half (new r k)) (d r k) (is_wide (new r k)) (d r (k + 1)) undrawn h) ∙ differs))
        ]

    skip : Walked r (k + 1) g t
    skip = record {
      cells = w.cells;
      row = w.row;
      col = w.col;
      pending = w.pending;
      last = w.last;
      is = w.is;
      shown = record { above = w.shown.above; before = skipped_before; half = skipped_half; rest = w.shown.rest };
      stands = λ p q e h. skipped_stands q e;
      middle = λ p h e. absurd (false≢true (sym undrawn ∙ sym (ap (is_drawn d new r) back) ∙ e));
    }

  -- ---- a place that is drawn

  module _ (r k : ℕ) (g : Style) (t : Live) (r_in : r < prows) (k_in : k < pcols) (w : Walked r k g t) (drawn : is_drawn d new r k ≡ true) where
    some : is_right_half (new r k) ≡ false
    some = drawn_some (is_right_half (new r k)) (d r k || (is_wide (new r k) && d r (k + 1))) drawn

    abbrev ready : Style → Option ℕ → Live
    ready s last = at_work still w.cells r k false s false last

    -- the character that REP repeats after the cursor was placed, and after a style was set
    abbrev last_placed : Option ℕ
    last_placed = if goes_on d r k then w.last else None

    abbrev last_styled : Option ℕ
    last_styled = if same_style (new r k).style g then last_placed else None

    stood : goes_on d r k ≡ true → t ≡ ready g w.last
    stood h =
        let parts = and_parts (nat_lt 0 k) (d r (k - 1) && d r k) h in
        let low : 0 < k = ltb-true 0 k parts.0 in
        let at = w.stands low (omega (arith, k_in, cols_in)) (and_parts (d r (k - 1)) (d r k) parts.1).0 some in
        w.is ∙ ap (λ a. at_work still w.cells a w.col w.pending g false w.last) at.0 ∙ ap (λ a. at_work still w.cells r a w.pending g false w.last) at.1
        ∙ ap (λ a. at_work still w.cells r k a g false w.last) at.2

    went : changed_by (place_cursor (r + 1) (k + 1)) t ≡ ready g None
    went =
        let row_back : r + 1 - 1 ≡ r = omega arith in
        let col_back : k + 1 - 1 ≡ k = omega arith in
        ap (changed_by (place_cursor (r + 1) (k + 1))) w.is
        ∙ goes still w.cells w.row w.col w.pending g false w.last (r + 1) (k + 1) (omega arith) (omega (arith, r_in, rows_in)) (omega arith) (omega (arith, k_in, cols_in))
        ∙ ap (λ a. at_work still w.cells a (k + 1 - 1) false g false None) row_back ∙ ap (λ a. at_work still w.cells r a false g false None) col_back

    placed : acted (placing d r k) t ≡ ready g last_placed
    placed =
        elim (cases_Bool (goes_on d r k)) [
          | inl h ↦
              ap (λ b. acted (if b then [] else place_cursor (r + 1) (k + 1) ∷ []) t) h ∙ stood h
              ∙ sym (ap (λ b. ready g (if b then w.last else None)) h)
          | inr h ↦
              ap (λ b. acted (if b then [] else place_cursor (r + 1) (k + 1) ∷ []) t) h ∙ went
              ∙ sym (ap (λ b. ready g (if b then w.last else None)) h)
        ]

    styled : acted (styling (new r k).style g) (ready g last_placed) ≡ ready (new r k).style last_styled
    styled =
        elim (cases_Bool (same_style (new r k).style g)) [
          | inl h ↦
              ap (λ b. acted (if b then [] else restyle (new r k).style) (ready g last_placed)) h
              ∙ ap (λ s. ready s last_placed) (sym (style_same (new r k).style g h))
              ∙ sym (ap (λ b. ready (new r k).style (if b then last_placed else None)) h)
          | inr h ↦
              ap (λ b. acted (if b then [] else restyle (new r k).style) (ready g last_placed)) h
              ∙ restyled still w.cells r k false false g (new r k).style last_placed (paintable r k r_in k_in).foreground (paintable r k r_in k_in).background
              ∙ sym (ap (λ b. ready (new r k).style (if b then last_placed else None)) h)
        ]

    printed : Printed still w.cells r k (new r k) false (acted (map Print (new r k).points) (ready (new r k).style last_styled))
    printed =
        prints_all still w.cells r k false last_styled (new r k).points (new r k).style (new r k).guarded
        (omega (arith, r_in, rows_in)) (omega (arith, k_in, cols_in)) (paintable r k r_in k_in).text some (paintable r k r_in k_in).unguarded
        (λ h. let inside = (wide_in r k h).0 in omega (arith, inside, cols_in))

    drew : acted (drawn_cell d new r k g) t ≡ acted (map Print (new r k).points) (ready (new r k).style last_styled)
    unfolding drawn_cell
    drew =
        let chars = map Print (new r k).points in
        ap (λ b. acted (if b then placing d r k ++ (styling (new r k).style g ++ chars) else []) t) drawn
        ∙ acted-append (placing d r k) (styling (new r k).style g ++ chars) t
        ∙ ap (acted (styling (new r k).style g ++ chars)) placed
        ∙ acted-append (styling (new r k).style g) chars (ready g last_placed)
        ∙ ap (acted chars) styled

    drawn_before : (j : ℕ) → j < k + 1 → j < cols → cell_at cols printed.cells' r j ≡ new r j
    drawn_before j p q =
        elim (cases_lt j k) [
          | inl h ↦ keeps w.cells r k r_in k_in some printed.cells' printed.hit printed.other r j (omega (arith, r_in, rows_in)) q (w.shown.before j h q)
          | inr h ↦
              let e : j ≡ k = omega (arith, p, h) in
              ap (λ x. cell_at cols printed.cells' r x) e ∙ printed.hit ∙ sym (ap (new r) e)
        ]

    wide_then : is_right_half (new r (k + 1)) ≡ true → is_wide (new r k) ≡ true
    wide_then h = let back : k + 1 - 1 ≡ k = omega arith in sym (ap (λ x. is_wide (new r x)) back) ∙ (half_in r (k + 1) h).1

    narrow_then : is_right_half (new r (k + 1)) ≡ false → (b : Bool) → is_wide (new r k) ≡ b → columns (new r k) ≡ 1
    narrow_then h true e = absurd (false≢true (sym h ∙ ap is_right_half (wide_in r k e).1))
    narrow_then h false e = ap (λ b. if b then 2 else 1) e

    stands_narrow : k + 1 < cols → columns (new r k) ≡ 1 → (r ≡ r) × (printed.col' ≡ k + 1) × (printed.pending' ≡ false)
    stands_narrow q one = let at = stands still w.cells r k (new r k) false _ printed (omega (arith, q, one)) in (refl, at.0 ∙ ap (λ n. k + n) one, at.1)

    stands_wide : k + 1 + 1 < cols → columns (new r k) ≡ 2 → (r ≡ r) × (printed.col' ≡ k + 1 + 1) × (printed.pending' ≡ false)
    stands_wide q two = let at = stands still w.cells r k (new r k) false _ printed (omega (arith, q, two)) in (refl, at.0 ∙ omega (arith, two), at.1)

    draw : Walked r (k + 1) (new r k).style (acted (drawn_cell d new r k g) t)
    draw = record {
      cells = printed.cells';
      row = r;
      col = printed.col';
      pending = printed.pending';
      last = printed.printed';
      is = drew ∙ printed.is;
      shown = record {
        above = λ i j p a b. keeps w.cells r k r_in k_in some printed.cells' printed.hit printed.other i j a b (w.shown.above i j p a b);
        before = drawn_before;
        half = λ h q. hits_half w.cells r k r_in k_in some printed.cells' printed.hit printed.other (wide_then h);
        rest = λ i j p q e. keeps w.cells r k r_in k_in some printed.cells' printed.hit printed.other i j p q (w.shown.rest i j p q e);
      };
      stands = λ p q e h. stands_narrow q (narrow_then h (is_wide (new r k)) refl);
      middle = λ q h e. stands_wide q (ap (λ b. if b then 2 else 1) (wide_then h));
    }

  -- ---- one place, a row, all rows

  pub step_by : (r k : ℕ) (g : Style) (t : Live) → r < prows → k < pcols → Walked r k g t → (b : Bool) → is_drawn d new r k ≡ b
      → Walked r (k + 1) (style_after d new r k g) (acted (drawn_cell d new r k g) t)
  unfolding drawn_cell style_after
  step_by r k g t r_in k_in w true e = subst (λ b. Walked r (k + 1) (if b then (new r k).style else g) (acted (drawn_cell d new r k g) t)) (sym e) (draw r k g t r_in k_in w e)
  step_by r k g t r_in k_in w false e =
      subst (λ b. Walked r (k + 1) (if b then (new r k).style else g) (acted (if b then placing d r k ++ (styling (new r k).style g ++ map Print (new r k).points) else []) t)) (sym e)
      (skip r k g t r_in k_in w e)

  pub row : (r k : ℕ) (g : Style) (t : Live) → r < prows → k ≤ pcols → Walked r 0 g t → Walked r k (style_in d new r g k) (acted (drawn_row d new r g k) t)
  row r zero g t r_in k_in w = w
  row r (suc k) g t r_in k_in w =
      let one : k + 1 ≡ suc k = omega arith in
      let now = row r k g t r_in (omega (arith, k_in)) w in
      let there = acted (drawn_row d new r g k) t in
      let s = style_in d new r g k in
      subst (λ u. Walked r (suc k) (style_after d new r k s) u) (sym (acted-append (drawn_row d new r g k) (drawn_cell d new r k s) t))
      (subst (λ n. Walked r n (style_after d new r k s) (acted (drawn_cell d new r k s) there)) one
      (step_by r k s there r_in (omega (arith, k_in)) now (is_drawn d new r k) refl))

  module _ (outside_row : (r c : ℕ) → prows ≤ r → d r c ≡ false) (outside_col : (r c : ℕ) → pcols ≤ c → d r c ≡ false) where
    next_row : (r : ℕ) (g : Style) (t : Live) → Walked r pcols g t → Walked (r + 1) 0 g t
    next_row r g t w = record {
      cells = w.cells;
      row = w.row;
      col = w.col;
      pending = w.pending;
      last = w.last;
      is = w.is;
      shown = record {
        above = λ i j p a b. elim (cases_lt i r) [
          | inl h ↦ w.shown.above i j h a b
          | inr h ↦
              let e : i ≡ r = omega (arith, p, h) in
              elim (cases_lt j pcols) [
                | inl k ↦ ap (λ x. cell_at cols w.cells x j) e ∙ w.shown.before j k b ∙ sym (ap (λ x. new x j) e)
                | inr k ↦ w.shown.rest i j a b (outside_col i j k)
              ]
        ];
        before = λ j p q. absurd (omega arith);
        half = λ h q. let low = (half_in (r + 1) 0 h).0 in absurd (omega (arith, low));
        rest = w.shown.rest;
      };
      stands = λ p q e h. absurd (omega (arith, p));
      middle = λ q h e. let low = (half_in (r + 1) 0 h).0 in absurd (omega (arith, low));
    }

    pub all_rows : (n : ℕ) (t : Live) → n ≤ prows → Walked 0 0 default_style t → Walked n 0 (style_at d new pcols n) (acted (drawn_rows d new pcols n) t)
    all_rows zero t n_in w = w
    all_rows (suc n) t n_in w =
        let one : n + 1 ≡ suc n = omega arith in
        let there = acted (drawn_rows d new pcols n) t in
        let g = style_at d new pcols n in
        subst (λ u. Walked (suc n) 0 (style_in d new n g pcols) u) (sym (acted-append (drawn_rows d new pcols n) (drawn_row d new n g pcols) t))
        (subst (λ m. Walked m 0 (style_in d new n g pcols) (acted (drawn_row d new n g pcols) there)) one
        (next_row n (style_in d new n g pcols) (acted (drawn_row d new n g pcols) there)
        (row n pcols g there (omega (arith, n_in)) (omega arith) (all_rows n t (omega (arith, n_in)) w))))

    -- after the last row all places have the right cells
    pub all_shown : (g : Style) (t : Live) (w : Walked prows 0 g t) (i j : ℕ) → i < rows → j < cols → cell_at cols w.cells i j ≡ new i j
    all_shown g t w i j p q =
        elim (cases_lt i prows) [
          | inl h ↦ w.shown.above i j h p q
          | inr h ↦ w.shown.rest i j p q (outside_row i j h)
        ]
