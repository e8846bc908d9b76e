-- The cell of a screen at each place, and the places at which it differs from another.
use Rattle.std.proofs.Common.{◌≡◌, ◌≤◌, ◌<◌, ℕ, ◌+◌, ◌*◌, ◌-◌, Bool, true, false, not, ◌&&◌, nat_lt, eqb, inl, inr, get_or, take, drop, length, length-take, length-drop, List, sym, ap, ◌∙◌, refl, arith}
use Rattle.std.specs.Prelude.{if◌then◌else◌}
use Rattle.std.proofs.lemmas.Bool.{cases_lt, and_parts, and_right, lt-ltb, le-ltb, eqb-true, not-false}
use Rattle.std.proofs.lemmas.List.{ext_get_or}
use Rattle.roam_cells.specs.Glyph.{Glyph, blank}
use Rattle.roam_cells.specs.Place.{cell_at, row_of}
use Rattle.roam_screens.specs.Screenshot.{Screenshot}
use Rattle.roam_cells.proofs.Places.{row_from}
use Rattle.roam_rows.proofs.Lifting.{part_at}
use Rattle.roam_cells.specs.Same.{same}
use Rattle.roam_term.specs.Ground.{shown_at}
use Rattle.roam_paint.specs.Painting.{same_size, painted_over, differs}
use Rattle.roam_cells.proofs.SameCells.{glyph_same, glyph_again}

-- ---- the cells of a screen inside it and outside it

pub shown_inside : (p : Screenshot) (r c : ℕ) → r < p.rows → c < p.cols → shown_at p r c ≡ cell_at p.cols p.cells r c
shown_inside p r c a b =
    ap (λ t. if (t && nat_lt c p.cols) then cell_at p.cols p.cells r c else blank) (lt-ltb r p.rows a)
    ∙ ap (λ t. if t then cell_at p.cols p.cells r c else blank) (lt-ltb c p.cols b)

pub shown_below : (p : Screenshot) (r c : ℕ) → p.rows ≤ r → shown_at p r c ≡ blank
shown_below p r c a = ap (λ t. if (t && nat_lt c p.cols) then cell_at p.cols p.cells r c else blank) (le-ltb r p.rows a)

pub shown_right : (p : Screenshot) (r c : ℕ) → p.cols ≤ c → shown_at p r c ≡ blank
shown_right p r c a = ap (λ t. if t then cell_at p.cols p.cells r c else blank) (and_right (nat_lt r p.rows) (nat_lt c p.cols) (le-ltb c p.cols a))

-- the length of a part that a list has
length-part : (a n : ℕ) (xs : List Glyph) → a + n ≤ length xs → length (take n (drop a xs)) ≡ n
length-part a n xs h = simp (length-take, length-drop) (omega (arith, h))

-- ---- what differs

module _ (old new : Screenshot) where
  pub same_rows : same_size old new ≡ true → old.rows ≡ new.rows
  same_rows e = eqb-true old.rows new.rows (and_parts (eqb old.rows new.rows) (eqb old.cols new.cols) e).0

  pub same_cols : same_size old new ≡ true → old.cols ≡ new.cols
  same_cols e = eqb-true old.cols new.cols (and_parts (eqb old.rows new.rows) (eqb old.cols new.cols) e).1

  over_below : (r c : ℕ) → new.rows ≤ r → (b : Bool) → same_size old new ≡ b → (if b then shown_at old r c else blank) ≡ blank
  over_below r c a true e = let rows = same_rows e in shown_below old r c (omega (arith, a, rows))
  over_below r c a false e = refl

  over_right : (r c : ℕ) → new.cols ≤ c → (b : Bool) → same_size old new ≡ b → (if b then shown_at old r c else blank) ≡ blank
  over_right r c a true e = let cols = same_cols e in shown_right old r c (omega (arith, a, cols))
  over_right r c a false e = refl

  pub same_below : (r c : ℕ) → new.rows ≤ r → differs old new r c ≡ false
  same_below r c a =
      ap (λ x. not (same x (shown_at new r c))) (over_below r c a (same_size old new) refl) ∙ ap (λ x. not (same blank x)) (shown_below new r c a)

  pub same_right : (r c : ℕ) → new.cols ≤ c → differs old new r c ≡ false
  same_right r c a =
      ap (λ x. not (same x (shown_at new r c))) (over_right r c a (same_size old new) refl) ∙ ap (λ x. not (same blank x)) (shown_right new r c a)

  pub same_cell : (r c : ℕ) → differs old new r c ≡ false → painted_over old new r c ≡ shown_at new r c
  same_cell r c e = glyph_same (painted_over old new r c) (shown_at new r c) (not-false (same (painted_over old new r c) (shown_at new r c)) e)

  -- a row that shows the same differs nowhere
  pub same_row : same_size old new ≡ true → (r : ℕ) → r < new.rows
      → ((c : ℕ) → c < new.cols → cell_at old.cols old.cells r c ≡ cell_at new.cols new.cells r c) → (c : ℕ) → differs old new r c ≡ false
  same_row e r r_in each c =
      elim (cases_lt c new.cols) [
        | inr a ↦ same_right r c a
        | inl a ↦
            let rows = same_rows e in
            let cols = same_cols e in
            let shows : painted_over old new r c ≡ shown_at new r c =
            ap (λ b. if b then shown_at old r c else blank) e ∙ shown_inside old r c (omega (arith, r_in, rows)) (omega (arith, a, cols))
            ∙ each c a ∙ sym (shown_inside new r c r_in a) in
            ap (λ x. not (same x (shown_at new r c))) shows ∙ ap not (glyph_again (shown_at new r c))
      ]

  -- and so does one whose cells are the same
  pub same_slice : same_size old new ≡ true → (r n : ℕ) → r < new.rows → n ≡ new.cols
      → take (r * n + n - r * n) (drop (r * n) old.cells) ≡ take (r * n + n - r * n) (drop (r * n) new.cells) → (c : ℕ) → differs old new r c ≡ false
  same_slice e r n r_in n_is same_cells =
      let cols = same_cols e in
      let count : r * n + n - r * n ≡ n = omega arith in
      let front : take n (drop (r * n) old.cells) ≡ take n (drop (r * n) new.cells) =
      sym (ap (λ k. take k (drop (r * n) old.cells)) count) ∙ same_cells ∙ ap (λ k. take k (drop (r * n) new.cells)) count in
      same_row e r r_in (λ c c_in.
      let low : c < n = omega (arith, c_in, n_is) in
      ap (λ k. get_or old.cells (r * k + c) blank) (cols ∙ sym n_is)
      ∙ sym (part_at (r * n) n c old.cells low) ∙ ap (λ l. get_or l c blank) front ∙ part_at (r * n) n c new.cells low
      ∙ ap (λ k. get_or new.cells (r * k + c) blank) n_is)

  -- and if a row differs nowhere, its cells are equal
  pub slice_same : same_size old new ≡ true → (r n : ℕ) → r < new.rows → n ≡ new.cols → length old.cells ≡ old.rows * old.cols
      → length new.cells ≡ new.rows * new.cols → ((c : ℕ) → differs old new r c ≡ false)
      → take (r * n + n - r * n) (drop (r * n) old.cells) ≡ take (r * n + n - r * n) (drop (r * n) new.cells)
  slice_same e r n r_in n_is old_size new_size none =
      let rows = same_rows e in
      let cols = same_cols e in
      let old_count : length old.cells ≡ new.rows * n = old_size ∙ ap (λ k. k * old.cols) rows ∙ ap (λ k. new.rows * k) (cols ∙ sym n_is) in
      let new_count : length new.cells ≡ new.rows * n = new_size ∙ ap (λ k. new.rows * k) (sym n_is) in
      let fits = row_from n (r + 1) new.rows 0 (omega (arith, r_in)) in
      let old_in : r * n + n ≤ length old.cells = omega (arith, old_count, fits) in
      let new_in : r * n + n ≤ length new.cells = omega (arith, new_count, fits) in
      let count : r * n + n - r * n ≡ n = omega arith in
      let one = length-part (r * n) n old.cells old_in in
      let two = length-part (r * n) n new.cells new_in in
      ap (λ k. take k (drop (r * n) old.cells)) count
      ∙ ext_get_or blank (take n (drop (r * n) old.cells)) (take n (drop (r * n) new.cells)) (one ∙ sym two) (λ c c_in.
      let low : c < n = omega (arith, c_in, one) in
      part_at (r * n) n c old.cells low ∙ ap (λ k. get_or old.cells (r * k + c) blank) (n_is ∙ sym cols)
      ∙ sym (shown_inside old r c (omega (arith, r_in, rows)) (omega (arith, low, n_is, cols)))
      ∙ sym (ap (λ b. if b then shown_at old r c else blank) e) ∙ same_cell r c (none c)
      ∙ shown_inside new r c r_in (omega (arith, low, n_is)) ∙ ap (λ k. get_or new.cells (r * k + c) blank) (sym n_is)
      ∙ sym (part_at (r * n) n c new.cells low)) ∙ sym (ap (λ k. take k (drop (r * n) new.cells)) count)

  -- the same of whole rows
  as_part : (r n : ℕ) (l : List Glyph) → row_of n l r ≡ take (r * n + n - r * n) (drop (r * n) l)
  as_part r n l = let e : (r + 1) * n ≡ r * n + n = omega arith in ap (λ k. take (k - r * n) (drop (r * n) l)) e

  pub rows_quiet : same_size old new ≡ true → (r : ℕ) → r < new.rows → row_of old.cols old.cells r ≡ row_of new.cols new.cells r
      → (c : ℕ) → differs old new r c ≡ false
  rows_quiet e r p h =
      same_slice e r new.cols p refl
      (sym (as_part r new.cols old.cells) ∙ ap (λ k. row_of k old.cells r) (sym (same_cols e)) ∙ h ∙ as_part r new.cols new.cells)

  pub quiet_rows : same_size old new ≡ true → (r : ℕ) → r < new.rows → length old.cells ≡ old.rows * old.cols → length new.cells ≡ new.rows * new.cols
      → ((c : ℕ) → differs old new r c ≡ false) → row_of old.cols old.cells r ≡ row_of new.cols new.cells r
  quiet_rows e r p m n none =
      ap (λ k. row_of k old.cells r) (same_cols e) ∙ as_part r new.cols old.cells ∙ slice_same e r new.cols p refl m n none
      ∙ sym (as_part r new.cols new.cells)
