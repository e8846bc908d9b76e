-- Marks beside the maps of the selective erasures: which rows they name.
use Rattle.std.proofs.Common.{◌≡◌, ◌≢◌, ℕ, ◌+◌, ◌-◌, ◌*◌, ◌<◌, ◌≤◌, ◌⊎◌, inl, inr, Bool, true, false, not, ◌&&◌, ◌||◌, cond, ltb, leb, List, length, get_or, refl, sym, ap, subst, ◌∙◌, arith, length-take, length-drop}
use Rattle.std.specs.Prelude.{slice_range}
use Rattle.std.proofs.lemmas.Bool.{false≢true, cases_eq, cases_lt}
use Rattle.std.proofs.lemmas.List.{get_or_default}
use Rattle.std.proofs.lemmas.List.Edits.{get_or-between}
use Rattle.std.proofs.lemmas.List.Folds.{Any-from_list_any, list_any_at}
use Rattle.std.proofs.lemmas.Grind.{common_steps}
use Rattle.std.proofs.Math.Nat.{mul-le-mul_right}
use Rattle.roam_cells.specs.Glyph.{Glyph, blank}
use Rattle.roam_cells.specs.Place.{cell_at, row_of}
use Rattle.roam_rows.specs.Places.{Source, From, Fresh, in_row}
use Rattle.roam_rows.specs.Erasing.{unguarded_blanked}
use Rattle.roam_rows.proofs.Lifting.{in_other}
use Rattle.roam_grid.specs.Screen.{Screen, IsScreen}
use Rattle.roam_grid.specs.Erasing.{line_from, line_to, page_from, page_to, is_in_page, page_unguarded_blanked}
use Rattle.roam_grid.specs.Marks.{has_unguarded, unguarded_marked, marks_erased_selectively_in_line, marks_erased_selectively_in_page}
use Rattle.roam_grid.specs.Laws.{IsNamed, AreNamedMarked}
use Rattle.roam_cells.specs.declared.extents.Extent.{Extent}
use Rattle.roam_grid.proofs.Guards.{in_line, in_rows}
use Rattle.roam_grid.proofs.Marked.{marked_twice, range_in}
use Rattle.roam_grid.proofs.Named.{named_by, fresh_not, in_range, few, line_range}
use Rattle.roam_grid.proofs.Pages.{outside, inside, row_agrees}

rows_true : (from to r : ℕ) (g : Bool) → (leb from r && ltb r to && g) ≡ true → (from ≤ r) × (r < to) × (g ≡ true)
rows_true from to r true h = (grind (arith, common_steps), grind (arith, common_steps), refl)
rows_true from to r false h = (grind (arith, common_steps), grind (arith, common_steps), grind (arith, common_steps))

or_parts : (a b : Bool) → (a || b) ≡ true → (a ≡ true) ⊎ (b ≡ true)
or_parts true b h = inl refl
or_parts false b h = inr h

or_neither : (a b : Bool) → (a || b) ≡ false → (a ≡ false) × (b ≡ false)
or_neither true b h = absurd (false≢true (sym h))
or_neither false b h = (refl, h)

-- a part of a row
module _ (cols from to r : ℕ) (cells : List Glyph) (to_in : to ≤ cols) (size : (r + 1) * cols ≤ length cells) where
  abbrev part : List Glyph
  part = slice_range (row_of cols cells r) from to

  abbrev goes : ℕ → Bool
  goes c = not (cell_at cols cells r c).guarded

  abbrev test : Glyph → Bool
  test g = not g.guarded

  row_len : length (row_of cols cells r) ≡ cols
  row_len = simp (length-take, length-drop) (omega (arith, size))

  part_len : length part ≡ to - from
  part_len = simp (length-take, length-drop) (omega (arith, row_len, to_in))

  part_at : (k : ℕ) → from + k < to → get_or part k blank ≡ cell_at cols cells r (from + k)
  part_at k h = get_or-between (row_of cols cells r) from to k blank h ∙ get_or-between cells (r * cols) ((r + 1) * cols) (from + k) blank (omega (arith, h, to_in))

  pub one_goes : has_unguarded cols cells r from to ≡ true → (c : ℕ) × (from ≤ c) × (c < to) × (goes c ≡ true)
  one_goes h =
      let any = Any-from_list_any test part h in
      let k = any.0 in
      let k_in : from + k < to = omega (arith, part_len, any.2) in
      let here : get_or part k blank ≡ any.1 = get_or_default part k blank any.1 any.2 ∙ any.3 in
      (from + k, omega arith, k_in, ap test (sym (part_at k k_in) ∙ here) ∙ any.4)

  pub none_goes : has_unguarded cols cells r from to ≡ false → (c : ℕ) → from ≤ c → c < to → (b : Bool) → goes c ≡ b → goes c ≡ false
  none_goes h c p q false e = e
  none_goes h c p q true e =
      let k_in : from + (c - from) < to = omega arith in
      let there : from + (c - from) ≡ c = omega arith in
      absurd (false≢true (sym h ∙ list_any_at test part (c - from) blank (omega (arith, part_len, p, q)) (ap test (part_at (c - from) k_in ∙ ap (cell_at cols cells r) there) ∙ e)))

module _ (s : Screen) (marks : List Bool) (is : IsScreen s) (e : Extent) where
  abbrev source : ℕ → ℕ → Source
  source = page_unguarded_blanked e s.cols s.cells s.row s.col

  abbrev goes_at : ℕ → ℕ → Bool
  goes_at r c = not (cell_at s.cols s.cells r c).guarded

  abbrev from : ℕ
  from = line_from e s.col

  abbrev to : ℕ
  to = line_to e s.cols s.col

  abbrev in_one : ℕ → Bool
  in_one r = leb s.row r && ltb r (s.row + 1) && has_unguarded s.cols s.cells r from to

  abbrev in_two : ℕ → Bool
  in_two r = leb (page_from e s.row) r && ltb r (page_to e s.rows s.row) && has_unguarded s.cols s.cells r 0 s.cols

  size : (r : ℕ) → r < s.rows → (r + 1) * s.cols ≤ length s.cells
  size r h = let k : (r + 1) * s.cols ≤ s.rows * s.cols = mul-le-mul_right s.cols (omega (arith, h)) in omega (arith, is.size, k)

  blank_at : (r c : ℕ) → is_in_page e s.row s.col r c ≡ true → goes_at r c ≡ true → source r c ≡ Fresh blank
  blank_at r c p q = ap (λ b. cond (b && goes_at r c) (Fresh blank) (From r c)) p ∙ ap (λ b. cond b (Fresh blank) (From r c)) q

  stays_at : (r c : ℕ) → goes_at r c ≡ false → (b : Bool) → is_in_page e s.row s.col r c ≡ b → source r c ≡ From r c
  stays_at r c q true p = ap (λ b. cond (b && goes_at r c) (Fresh blank) (From r c)) p ∙ ap (λ b. cond b (Fresh blank) (From r c)) q
  stays_at r c q false p = ap (λ b. cond (b && goes_at r c) (Fresh blank) (From r c)) p

  out_at : (r c : ℕ) → is_in_page e s.row s.col r c ≡ false → source r c ≡ From r c
  out_at r c p = ap (λ b. cond (b && goes_at r c) (Fresh blank) (From r c)) p

  line_in : (c : ℕ) → from ≤ c → c < to → is_in_page e s.row s.col s.row c ≡ true
  line_in c p q = sym (row_agrees e s.cols s.row s.col c (omega (arith, q, (line_range s marks is e).1))) ∙ range_in from to c p q

  -- a place of the cursor's row that goes
  one_named : (r : ℕ) → in_one r ≡ true → (r ≡ s.row) × ((c : ℕ) × (c < s.cols) × (source s.row c ≡ Fresh blank))
  one_named r h =
      let t = rows_true s.row (s.row + 1) r (has_unguarded s.cols s.cells r from to) h in
      let e' : r ≡ s.row = omega (arith, t.0, t.1) in
      let g = one_goes s.cols from to s.row s.cells (line_range s marks is e).1 (size s.row is.frame.row_in) (sym (ap (λ j. has_unguarded s.cols s.cells j from to) e') ∙ t.2) in
      (e', (g.0, omega (arith, g.2, (line_range s marks is e).1), blank_at s.row g.0 (line_in g.0 g.1 g.2) g.3))

  one_stays : (c : ℕ) → c < s.cols → in_one s.row ≡ false → source s.row c ≡ From s.row c
  one_stays c q h = by_page (is_in_page e s.row s.col s.row c) refl
    where
      by_page : (b : Bool) → is_in_page e s.row s.col s.row c ≡ b → source s.row c ≡ From s.row c
      by_page false p = out_at s.row c p
      by_page true p =
          let i = in_range from to c (row_agrees e s.cols s.row s.col c q ∙ p) in
          let none : has_unguarded s.cols s.cells s.row from to ≡ false = sym (in_rows s.row (s.row + 1) s.row (has_unguarded s.cols s.cells s.row from to) (omega arith) (omega arith)) ∙ h in
          stays_at s.row c (none_goes s.cols from to s.row s.cells (line_range s marks is e).1 (size s.row is.frame.row_in) none c i.0 i.1 (goes_at s.row c) refl) true p

  two_named : (r : ℕ) → r < s.rows → in_two r ≡ true → IsNamed s.cols source r
  two_named r p h =
      let t = rows_true (page_from e s.row) (page_to e s.rows s.row) r (has_unguarded s.cols s.cells r 0 s.cols) h in
      let g = one_goes s.cols 0 s.cols r s.cells (omega arith) (size r p) t.2 in
      (g.0, g.2, λ k. fresh_not blank r g.0 (sym (blank_at r g.0 (inside e s.rows s.row s.col r g.0 t.0 t.1) g.3) ∙ k))

  two_stays : (r c : ℕ) → r < s.rows → c < s.cols → r ≢ s.row → in_two r ≡ false → source r c ≡ From r c
  two_stays r c p q ne h =
      elim (cases_lt r (page_from e s.row)) [
        | inl a ↦ out_at r c (outside e s.rows s.row s.col r c p ne (inl a))
        | inr low ↦ elim (cases_lt r (page_to e s.rows s.row)) [
          | inl high ↦
              let none : has_unguarded s.cols s.cells r 0 s.cols ≡ false = sym (in_rows (page_from e s.row) (page_to e s.rows s.row) r (has_unguarded s.cols s.cells r 0 s.cols) low high) ∙ h in
              stays_at r c (none_goes s.cols 0 s.cols r s.cells (omega arith) (size r p) none c (omega arith) q (goes_at r c) refl) (is_in_page e s.row s.col r c) refl
          | inr a ↦ out_at r c (outside e s.rows s.row s.col r c p ne (inr a))
        ]
      ]

  pub page_marks_selective : AreNamedMarked s source marks (marks_erased_selectively_in_page e s marks)
  unfolding unguarded_marked
  page_marks_selective =
      let both : ℕ → Bool = λ r. in_one r || in_two r in
      subst (λ (k : List Bool). AreNamedMarked s source marks k) (sym (marked_twice in_one in_two both marks (λ r h. refl)))
      (named_by s source both marks (few s marks is)
      (λ r p h. elim (or_parts (in_one r) (in_two r) h) [
        | inl a ↦
            let o = one_named r a in
            (o.1.0, o.1.1, λ k. fresh_not blank r o.1.0 (sym (ap (λ j. source j o.1.0) o.0 ∙ o.1.2) ∙ k))
        | inr a ↦ two_named r p a
      ])
      (λ r c p q h.
      let n = or_neither (in_one r) (in_two r) h in
      elim (cases_eq r s.row) [
        | inl k ↦ ap (λ j. source j c) k ∙ one_stays c q (sym (ap in_one k) ∙ n.0) ∙ sym (ap (λ j. From j c) k)
        | inr k ↦ two_stays r c p q k n.1
      ]))

  abbrev line : ℕ → ℕ → Source
  line = in_row s.row (unguarded_blanked (row_of s.cols s.cells s.row) from to)

  line_is : (c : ℕ) → c < s.cols → line s.row c ≡ source s.row c
  line_is c q = in_line e s.rows s.cols s.row s.col s.cells s.cells is.whole is.whole is.frame.row_in c q

  pub line_marks_selective : AreNamedMarked s line marks (marks_erased_selectively_in_line e s marks)
  unfolding unguarded_marked
  line_marks_selective =
      named_by s line in_one marks (few s marks is)
      (λ r p h.
      let o = one_named r h in
      (o.1.0, o.1.1, λ k. fresh_not blank r o.1.0 (sym (ap (λ j. line j o.1.0) o.0 ∙ line_is o.1.0 o.1.1 ∙ o.1.2) ∙ k)))
      (λ r c p q h. elim (cases_eq r s.row) [
        | inl k ↦ ap (λ j. line j c) k ∙ line_is c q ∙ one_stays c q (sym (ap in_one k) ∙ h) ∙ sym (ap (λ j. From j c) k)
        | inr k ↦ in_other s.row r c (unguarded_blanked (row_of s.cols s.cells s.row) from to) k
      ])
