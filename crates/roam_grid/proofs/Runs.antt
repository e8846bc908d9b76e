-- Cells of one column that are written one after another.
use Rattle.std.proofs.Common.{◌≡◌, ◌≢◌, ℕ, zero, suc, ◌+◌, ◌-◌, ◌<◌, ◌≤◌, inl, inr, Bool, true, false, not, ◌&&◌, cond, eqb, ltb, leb, List, [], ◌∷◌, ◌++◌, take, drop, length-take, length-drop, length, map, get_or, refl, sym, ap, ◌∙◌, arith}
use Rattle.std.specs.List.{range_with_len}
use Rattle.std.proofs.lemmas.Bool.{false≢true, cases_eq}
use Rattle.std.proofs.lemmas.List.{same_lists, get_or-drop, map-append, take-append-drop}
use Rattle.std.proofs.lemmas.Grind.{common_steps}
use Rattle.roam_cells.specs.Glyph.{Glyph, is_wide, right_of, blank, ascii_in, inked_bytes}
use Rattle.roam_cells.specs.Place.{cell_at, AreWhole, glyph_at, IsWholeRow}
use Rattle.roam_cells.proofs.Places.{table_is, get_or-table, length-table}
use Rattle.roam_rows.specs.Row.{RowSource, Column, Fresh, mended_glyph, row_taken, row_moved, row_moved_at, IsInRow}
use Rattle.roam_rows.specs.Editing.{insertion_source}
use Rattle.roam_rows.specs.Writing.{writing_source, written_run}
use Rattle.roam_rows.specs.Places.{From, mapped_cells, moved_at, at_row, in_row}
use Rattle.roam_rows.specs.Halves.{AreParted, cut_twice}
use Rattle.roam_grid.specs.Screen.{Screen, mapped_screen}
use Rattle.roam_grid.specs.Scrolling.{first_scrolled_up}
use Rattle.roam_grid.specs.Writing.{columns, wrap_done, first_settled, with_room, made_way, after_ink, after_advance, leaves_row, put_on, first_put, put_all, first_put_all}
use Rattle.roam_grid.specs.declared.writing.Writing.{Writing}
use Rattle.roam_rows.proofs.Mending.{mended_same, mended-mended, is_wide-blank}
use Rattle.roam_rows.proofs.Columns.{row_is, row_at, length-row, in_column, agrees_there}
use Rattle.roam_rows.proofs.Inking.{IsNarrow, in_range, over, over_agrees, over_whole}
use Rattle.roam_rows.proofs.Vertical.{row_stays}
use Rattle.roam_rows.proofs.Lifting.{in_row_or, in_other, moved_here, row_whole, put_whole}
use Rattle.roam_grid.proofs.Pages.{moved_same}
use Rattle.roam_grid.proofs.Puts.{settled_same, put_settled, first_put_settled}

-- no cell of a list is wide or a right half
abbrev pub AreNarrow : List Glyph → Type 0
AreNarrow gs = (k : ℕ) → IsNarrow (glyph_at gs k)

-- the row after cells of one column are written over a range of it
module _ (f : ℕ → Glyph) (from to : ℕ) (row : List Glyph) (narrow : (c : ℕ) → IsNarrow (f c)) (whole : IsWholeRow row) (some : from < to) where
  abbrev parted_row : List Glyph
  parted_row = map (λ c. mended_glyph (glyph_at row c) (not (cut_twice from to (c + 1))) (not (cut_twice from to c))) (range_with_len 0 (length row))

  parted_is : AreParted (cut_twice from to) row parted_row
  parted_is = record {
    len = length-row (length row) _;
    each = λ c q. row_at (length row) (λ c. mended_glyph (glyph_at row c) (not (cut_twice from to (c + 1))) (not (cut_twice from to c))) c q;
  }

  shows : (c : ℕ) → c < length row → glyph_at (row_moved row (over f from to)) c ≡ row_taken parted_row (over f from to c)
  shows c q =
      row_at (length row) (row_moved_at row (over f from to)) c q
      ∙ sym (in_column (cut_twice from to) row parted_row whole parted_is c (over f from to c) (over f from to (c + 1)) (over f from to (c - 1))
      (agrees_there row (cut_twice from to) c (over f from to c) (over f from to (c + 1)) (over f from to (c - 1))
      (over_agrees f (length row) from to c (narrow c) q some (in_range from to c) refl)))

  over_in : (c : ℕ) → c < length row → in_range from to c ≡ true → glyph_at (row_moved row (over f from to)) c ≡ f c
  over_in c q h = shows c q ∙ ap (λ b. row_taken parted_row (cond b (Fresh (f c)) (Column c))) h

  over_out : (c : ℕ) → c < length row → in_range from to c ≡ false
      → glyph_at (row_moved row (over f from to)) c ≡ mended_glyph (glyph_at row c) (not (cut_twice from to (c + 1))) (not (cut_twice from to c))
  over_out c q h = shows c q ∙ ap (λ b. row_taken parted_row (cond b (Fresh (f c)) (Column c))) h ∙ parted_is.each c q

grows : (a n c : ℕ) → in_range (a + 1) (a + 1 + n) c ≡ true → in_range a (a + suc n) c ≡ true
grows a n c h = grind (arith, common_steps)

starts_it : (a n c : ℕ) → in_range a (a + 1) c ≡ true → in_range a (a + suc n) c ≡ true
starts_it a n c h = grind (arith, common_steps)

in_neither : (a n c : ℕ) → in_range (a + 1) (a + 1 + n) c ≡ false → in_range a (a + 1) c ≡ false → in_range a (a + suc n) c ≡ false
in_neither a n c h k = grind (arith, common_steps)

cuts_right : (a n c : ℕ) → 0 < n → in_range a (a + suc n) c ≡ false
    → (not (cut_twice a (a + 1) (c + 1)) && not (cut_twice (a + 1) (a + 1 + n) (c + 1))) ≡ not (cut_twice a (a + suc n) (c + 1))
cuts_right a n c pos h = grind (arith, common_steps)

cuts_left : (a n c : ℕ) → 0 < n → in_range a (a + suc n) c ≡ false
    → (not (cut_twice a (a + 1) c) && not (cut_twice (a + 1) (a + 1 + n) c)) ≡ not (cut_twice a (a + suc n) c)
cuts_left a n c pos h = grind (arith, common_steps)

later : (a n c : ℕ) → in_range (a + 1) (a + 1 + n) c ≡ true → c - a ≡ suc (c - (a + 1))
later a n c h = let low : a + 1 ≤ c = grind (arith, common_steps) in omega (arith, low)

only : (a c : ℕ) → in_range a (a + 1) c ≡ true → c - a ≡ 0
only a c h = let low : a ≤ c = grind (arith, common_steps) in let high : c < a + 1 = grind (arith, common_steps) in omega (arith, low, high)

pub one_narrow : (g : Glyph) → IsNarrow g → AreNarrow (g ∷ [])
one_narrow g narrow zero = narrow
one_narrow g narrow (suc k) = (is_wide-blank, refl)

-- one cell, and then a run after it, is one run
module _ (a : ℕ) (g : Glyph) (gs row : List Glyph) (narrow : AreNarrow (g ∷ gs)) (pos : 0 < length gs) (whole : IsWholeRow row) where
  abbrev cell : ℕ → Glyph
  cell c = glyph_at (g ∷ []) (c - a)

  abbrev rest : ℕ → Glyph
  rest c = glyph_at gs (c - (a + 1))

  abbrev all : ℕ → Glyph
  all c = glyph_at (g ∷ gs) (c - a)

  abbrev n : ℕ
  n = length gs

  cell_narrow : (c : ℕ) → IsNarrow (cell c)
  cell_narrow c = one_narrow g (narrow 0) (c - a)

  abbrev M : List Glyph
  M = row_moved row (over cell a (a + 1))

  M_whole : IsWholeRow M
  M_whole = over_whole cell a (a + 1) row row row cell_narrow whole

  len : length M ≡ length row
  len = length-row (length row) _

  step : (c : ℕ) → c < length row → (b d : Bool) → in_range (a + 1) (a + 1 + n) c ≡ b → in_range a (a + 1) c ≡ d
      → glyph_at (row_moved M (over rest (a + 1) (a + 1 + n))) c ≡ glyph_at (row_moved row (over all a (a + suc n))) c
  step c q true d h k =
      over_in rest (a + 1) (a + 1 + n) M (λ j. narrow (suc (j - (a + 1)))) M_whole (omega (arith, pos)) c (omega (arith, len)) h
      ∙ sym (over_in all a (a + suc n) row (λ j. narrow (j - a)) whole (omega arith) c q (grows a n c h) ∙ ap (glyph_at (g ∷ gs)) (later a n c h))
  step c q false true h k =
      over_out rest (a + 1) (a + 1 + n) M (λ j. narrow (suc (j - (a + 1)))) M_whole (omega (arith, pos)) c (omega (arith, len)) h
      ∙ ap (λ x. mended_glyph x (not (cut_twice (a + 1) (a + 1 + n) (c + 1))) (not (cut_twice (a + 1) (a + 1 + n) c)))
      (over_in cell a (a + 1) row cell_narrow whole (omega arith) c q k ∙ ap (glyph_at (g ∷ [])) (only a c k))
      ∙ mended_same g _ _ (λ w. absurd (false≢true (sym (narrow 0).0 ∙ w))) (λ w. absurd (false≢true (sym (narrow 0).1 ∙ w)))
      ∙ sym (over_in all a (a + suc n) row (λ j. narrow (j - a)) whole (omega arith) c q (starts_it a n c k) ∙ ap (glyph_at (g ∷ gs)) (only a c k))
  step c q false false h k =
      let out = in_neither a n c h k in
      over_out rest (a + 1) (a + 1 + n) M (λ j. narrow (suc (j - (a + 1)))) M_whole (omega (arith, pos)) c (omega (arith, len)) h
      ∙ ap (λ x. mended_glyph x (not (cut_twice (a + 1) (a + 1 + n) (c + 1))) (not (cut_twice (a + 1) (a + 1 + n) c))) (over_out cell a (a + 1) row cell_narrow whole (omega arith) c q k)
      ∙ mended-mended (glyph_at row c) (not (cut_twice a (a + 1) (c + 1))) (not (cut_twice a (a + 1) c)) (not (cut_twice (a + 1) (a + 1 + n) (c + 1))) (not (cut_twice (a + 1) (a + 1 + n) c))
      ∙ ap (λ b. mended_glyph (glyph_at row c) b (not (cut_twice a (a + 1) c) && not (cut_twice (a + 1) (a + 1 + n) c))) (cuts_right a n c pos out)
      ∙ ap (λ b. mended_glyph (glyph_at row c) (not (cut_twice a (a + suc n) (c + 1))) b) (cuts_left a n c pos out)
      ∙ sym (over_out all a (a + suc n) row (λ j. narrow (j - a)) whole (omega arith) c q out)

  pub row_run_after : row_moved (row_moved row (written_run (g ∷ []) a)) (written_run gs (a + 1)) ≡ row_moved row (written_run (g ∷ gs) a)
  row_run_after =
      row_is (length row) (row_moved_at row (over all a (a + suc n))) (row_moved M (over rest (a + 1) (a + 1 + n))) (length-row (length M) _ ∙ len) (λ c q.
      step c q (in_range (a + 1) (a + 1 + n) c) (in_range a (a + 1) c) refl refl ∙ row_at (length row) (row_moved_at row (over all a (a + suc n))) c q)

-- a row of the screen as a list
abbrev pub row_of : ℕ → List Glyph → ℕ → List Glyph
row_of cols cells R = map (cell_at cols cells R) (range_with_len 0 cols)

module _ (rows cols R : ℕ) (cells : List Glyph) (whole : AreWhole rows cols cells) (R_in : R < rows) where
  row_len : length (row_of cols cells R) ≡ cols
  row_len = length-row cols (cell_at cols cells R)

  row_same : (c : ℕ) → c < cols → glyph_at (row_of cols cells R) c ≡ cell_at cols cells R c
  row_same c q = row_at cols (cell_at cols cells R) c q

  pub row_of_whole : IsWholeRow (row_of cols cells R)
  row_of_whole = row_whole rows cols R cells (row_of cols cells R) R_in whole row_len row_same

  -- the result of a map of one row, in that row and elsewhere
  here : (one : ℕ → RowSource) → ((c : ℕ) → c < cols → IsInRow cols (one c)) → (c : ℕ) → c < cols
      → cell_at cols (mapped_cells rows cols cells (in_row R one)) R c ≡ glyph_at (row_moved (row_of cols cells R) one) c
  here one stays c q = moved_here rows cols R cells (row_of cols cells R) row_len row_same one stays R_in c q

  elsewhere : (one : ℕ → RowSource) (r c : ℕ) → r < rows → c < cols → r ≢ R → cell_at cols (mapped_cells rows cols cells (in_row R one)) r c ≡ cell_at cols cells r c
  elsewhere one r c p q ne =
      get_or-table rows cols (moved_at cols cells (in_row R one)) r c blank p q ∙ row_stays rows cols cells whole (in_row R one) r c r p q (λ d. in_other R r d one ne)

  pub in_row_whole : (one : ℕ → RowSource) → ((c : ℕ) → c < cols → IsInRow cols (one c)) → IsWholeRow (row_moved (row_of cols cells R) one) → AreWhole rows cols (mapped_cells rows cols cells (in_row R one))
  in_row_whole one stays row_moved_whole =
      put_whole rows cols R cells (row_moved (row_of cols cells R) one) (mapped_cells rows cols cells (in_row R one)) whole row_moved_whole (length-row (length (row_of cols cells R)) _ ∙ row_len)
      (here one stays) (elsewhere one)

-- maps of one row, one after the other
module _ (rows cols R : ℕ) (cells : List Glyph) (one two three : ℕ → RowSource) (whole : AreWhole rows cols cells) (R_in : R < rows)
    (stays : (c : ℕ) → c < cols → IsInRow cols (one c)) (stays' : (c : ℕ) → c < cols → IsInRow cols (two c)) (stays'' : (c : ℕ) → c < cols → IsInRow cols (three c))
    (one_whole : IsWholeRow (row_moved (row_of cols cells R) one))
    (row_same : row_moved (row_moved (row_of cols cells R) one) two ≡ row_moved (row_of cols cells R) three) where
  pub in_row_after : mapped_cells rows cols (mapped_cells rows cols cells (in_row R one)) (in_row R two) ≡ mapped_cells rows cols cells (in_row R three)
  in_row_after =
      let mid = mapped_cells rows cols cells (in_row R one) in
      let mid_whole = in_row_whole rows cols R cells whole R_in one stays one_whole in
      let mid_row : row_of cols mid R ≡ row_moved (row_of cols cells R) one =
      sym (row_is cols (cell_at cols mid R) (row_moved (row_of cols cells R) one) (length-row (length (row_of cols cells R)) _ ∙ row_len rows cols R cells whole R_in) (λ c q. sym (here rows cols R cells whole R_in one stays c q))) in
      table_is rows cols (moved_at cols cells (in_row R three)) (mapped_cells rows cols mid (in_row R two)) (length-table rows cols _) (λ r c p q.
      elim (cases_eq r R) [
        | inl e ↦
            ap (λ j. cell_at cols (mapped_cells rows cols mid (in_row R two)) j c) e
            ∙ here rows cols R mid mid_whole R_in two stays' c q ∙ ap (λ l. glyph_at (row_moved l two) c) mid_row ∙ ap (λ l. glyph_at l c) row_same
            ∙ sym (here rows cols R cells whole R_in three stays'' c q)
            ∙ sym (ap (λ j. cell_at cols (mapped_cells rows cols cells (in_row R three)) j c) e)
        | inr ne ↦ elsewhere rows cols R mid mid_whole R_in two r c p q ne ∙ elsewhere rows cols R cells whole R_in one r c p q ne ∙ sym (elsewhere rows cols R cells whole R_in three r c p q ne)
      ]
      ∙ get_or-table rows cols (moved_at cols cells (in_row R three)) r c blank p q)

run_in_row : (cols a : ℕ) (gs : List Glyph) (c : ℕ) → c < cols → IsInRow cols (written_run gs a c)
run_in_row cols a gs c q = in_row_or cols c (glyph_at gs (c - a)) (leb a c && ltb c (a + length gs)) q

run_row_whole : (a : ℕ) (gs row : List Glyph) → AreNarrow gs → IsWholeRow row → IsWholeRow (row_moved row (written_run gs a))
run_row_whole a gs row narrow whole = over_whole (λ c. glyph_at gs (c - a)) a (a + length gs) row row row (λ c. narrow (c - a)) whole

-- one cell of one column is a run of one
written_one : (a c : ℕ) (g : Glyph) → is_wide g ≡ false → writing_source g a c ≡ written_run (g ∷ []) a c
written_one a c g narrow =
    ap (λ w. cond (eqb c a) (Fresh g) (cond (w && eqb c (a + 1)) (Fresh (right_of g)) (Column c))) narrow ∙ by_test (eqb c a) refl
  where
    by_test : (b : Bool) → eqb c a ≡ b → cond (eqb c a) (Fresh g) (Column c) ≡ cond (leb a c && ltb c (a + 1)) (Fresh (glyph_at (g ∷ []) (c - a))) (Column c)
    by_test true h =
        let e : (leb a c && ltb c (a + 1)) ≡ true = grind (arith, common_steps) in
        let z : c - a ≡ 0 = only a c e in
        ap (λ b. cond b (Fresh g) (Column c)) h ∙ ap (λ j. Fresh (glyph_at (g ∷ []) j)) (sym z) ∙ sym (ap (λ b. cond b (Fresh (glyph_at (g ∷ []) (c - a))) (Column c)) e)
    by_test false h =
        let e : (leb a c && ltb c (a + 1)) ≡ false = grind (arith, common_steps) in
        ap (λ b. cond b (Fresh g) (Column c)) h ∙ sym (ap (λ b. cond b (Fresh (glyph_at (g ∷ []) (c - a))) (Column c)) e)

same_in_row : (R : ℕ) (one two : ℕ → RowSource) (r c : ℕ) → one c ≡ two c → in_row R one r c ≡ in_row R two r c
same_in_row R one two r c e = ap (λ x. cond (eqb r R) (at_row R x) (From r c)) e

moved_one : (rows cols R a : ℕ) (g : Glyph) (cells : List Glyph) → is_wide g ≡ false → mapped_cells rows cols cells (in_row R (writing_source g a)) ≡ mapped_cells rows cols cells (in_row R (written_run (g ∷ []) a))
moved_one rows cols R a g cells narrow =
    table_is rows cols (moved_at cols cells (in_row R (written_run (g ∷ []) a))) (mapped_cells rows cols cells (in_row R (writing_source g a))) (length-table rows cols _) (λ r c p q.
    get_or-table rows cols (moved_at cols cells (in_row R (writing_source g a))) r c blank p q
    ∙ moved_same cols cells (in_row R (writing_source g a)) (in_row R (written_run (g ∷ []) a)) r c q (λ d h. same_in_row R (writing_source g a) (written_run (g ∷ []) a) r d (written_one a d g narrow)))

-- one cell of one column, with no wrap pending
pub put_one : (g : Glyph) (w : Writing) (s : Screen) → w.inserts ≡ false → is_wide g ≡ false → s.pending ≡ false
    → put_on g w s ≡ after_advance 1 w (mapped_screen (in_row s.row (written_run (g ∷ []) s.col)) s)
unfolding put_on with_room made_way after_ink
put_one g w s over narrow none =
    ap (λ t. after_advance (columns g) w (after_ink g (made_way (columns g) w (with_room (columns g) w t)))) (settled_same s none)
    ∙ ap (λ v. after_advance (cond v 2 1) w (after_ink g (made_way (cond v 2 1) w (with_room (cond v 2 1) w s)))) narrow
    ∙ ap (λ b. after_advance 1 w (after_ink g (cond b (mapped_screen (in_row s.row (insertion_source s.col 1)) s) s))) over
    ∙ ap (λ (xs : List Glyph). after_advance 1 w (record s { cells = xs })) (moved_one s.rows s.cols s.row s.col g s.cells narrow)

and_none : (a : Bool) → (a && false) ≡ false
and_none true = refl
and_none false = refl

first_one : (g : Glyph) (w : Writing) (s : Screen) (first : ℕ) → is_wide g ≡ false → s.pending ≡ false → first_put g w s first ≡ first
unfolding first_put leaves_row
first_one g w s first narrow none =
    ap (λ v. cond (eqb s.row s.bottom && cond s.pending true (eqb (cond v 2 1) 2 && eqb (s.col + 1) s.cols && w.wraps)) (first_scrolled_up 1 s first) first) narrow
    ∙ ap (λ v. cond (eqb s.row s.bottom && cond v true false) (first_scrolled_up 1 s first) first) none
    ∙ ap (λ v. cond v (first_scrolled_up 1 s first) first) (and_none (eqb s.row s.bottom))

pub goes_on : (n : ℕ) (w : Writing) (s : Screen) → s.col + n < s.cols → after_advance n w s ≡ record s { col = s.col + n }
unfolding after_advance
goes_on n w s h =
    let e : ltb (s.col + n) s.cols ≡ true = grind (arith, common_steps) in
    ap (λ b. cond b (record s { col = s.col + n }) (record s { col = s.cols - 1; pending = w.wraps })) e

-- cells of one column put one after another in one row are written at once
pub put_all_is : (gs : List Glyph) (g : Glyph) (w : Writing) (s : Screen) (first : ℕ) → w.inserts ≡ false → AreNarrow (g ∷ gs) → s.pending ≡ false → s.col + length (g ∷ gs) ≤ s.cols
    → s.row < s.rows → AreWhole s.rows s.cols s.cells
    → (put_all (g ∷ gs) w s ≡ after_advance (length (g ∷ gs)) w (mapped_screen (in_row s.row (written_run (g ∷ gs) s.col)) s))
    × (first_put_all (g ∷ gs) w s first ≡ first)
unfolding put_all first_put_all after_advance
put_all_is [] g w s first over narrow none fits row_in whole = (put_one g w s over (narrow 0).0 none, first_one g w s first (narrow 0).0 none)
put_all_is (h ∷ gs) g w s first over narrow none fits row_in whole =
    let one = written_run (g ∷ []) s.col in
    let R = s.row in
    let row = row_of s.cols s.cells R in
    let row_is_whole = row_of_whole s.rows s.cols R s.cells whole row_in in
    let alone : AreNarrow (g ∷ []) = one_narrow g (narrow 0) in
    let one_whole = run_row_whole s.col (g ∷ []) row alone row_is_whole in
    let t : Screen = record s { cells = mapped_cells s.rows s.cols s.cells (in_row R one); col = s.col + 1 } in
    let step : put_on g w s ≡ t = put_one g w s over (narrow 0).0 none ∙ goes_on 1 w (mapped_screen (in_row R one) s) (omega arith) in
    let t_whole = in_row_whole s.rows s.cols R s.cells whole row_in one (run_in_row s.cols s.col (g ∷ [])) one_whole in
    let later = put_all_is gs h w t first over (λ k. narrow (suc k)) none (omega arith) row_in t_whole in
    let after : mapped_cells s.rows s.cols (mapped_cells s.rows s.cols s.cells (in_row R one)) (in_row R (written_run (h ∷ gs) (s.col + 1))) ≡ mapped_cells s.rows s.cols s.cells (in_row R (written_run (g ∷ h ∷ gs) s.col)) =
    in_row_after s.rows s.cols R s.cells one (written_run (h ∷ gs) (s.col + 1)) (written_run (g ∷ h ∷ gs) s.col) whole row_in
    (run_in_row s.cols s.col (g ∷ [])) (run_in_row s.cols (s.col + 1) (h ∷ gs)) (run_in_row s.cols s.col (g ∷ h ∷ gs)) one_whole
    (row_run_after s.col g (h ∷ gs) row narrow (omega arith) row_is_whole) in (
      ap (put_all (h ∷ gs) w) step ∙ later.0
          ∙ ap (λ (xs : List Glyph). after_advance (length (h ∷ gs)) w (record t { cells = xs })) after
          ∙ ap (λ k. cond (ltb k s.cols) (record s { cells = mapped_cells s.rows s.cols s.cells (in_row R (written_run (g ∷ h ∷ gs) s.col)); col = k })
          (record s { cells = mapped_cells s.rows s.cols s.cells (in_row R (written_run (g ∷ h ∷ gs) s.col)); col = s.cols - 1; pending = w.wraps })) (omega arith),
      ap (λ u. first_put_all (h ∷ gs) w u (first_put g w s first)) step ∙ ap (first_put_all (h ∷ gs) w t) (first_one g w s first (narrow 0).0 none) ∙ later.1,
    )

pub put_some_is : (gs : List Glyph) (w : Writing) (s : Screen) (first : ℕ) → w.inserts ≡ false → 0 < length gs → AreNarrow gs → s.pending ≡ false → s.col + length gs ≤ s.cols
    → s.row < s.rows → AreWhole s.rows s.cols s.cells
    → (put_all gs w s ≡ after_advance (length gs) w (mapped_screen (in_row s.row (written_run gs s.col)) s))
    × (first_put_all gs w s first ≡ first)
put_some_is [] w s first over pos narrow none fits row_in whole = absurd (omega arith)
put_some_is (g ∷ gs) w s first over pos narrow none fits row_in whole = put_all_is gs g w s first over narrow none fits row_in whole

-- a run in two parts
pub put_all-append : (xs ys : List Glyph) (w : Writing) (s : Screen) → put_all (xs ++ ys) w s ≡ put_all ys w (put_all xs w s)
unfolding put_all
put_all-append [] ys w s = refl
put_all-append (x ∷ xs) ys w s = put_all-append xs ys w (put_on x w s)

pub first_put_all-append : (xs ys : List Glyph) (w : Writing) (s : Screen) (first : ℕ) → first_put_all (xs ++ ys) w s first ≡ first_put_all ys w (put_all xs w s) (first_put_all xs w s first)
unfolding put_all first_put_all
first_put_all-append [] ys w s first = refl
first_put_all-append (x ∷ xs) ys w s first = first_put_all-append xs ys w (put_on x w s) (first_put x w s first)

-- a pending wrap may be done before a run
pub put_all_settled : (xs : List Glyph) (w : Writing) (s : Screen) → 0 < length xs → put_all xs w (wrap_done s) ≡ put_all xs w s
unfolding put_all
put_all_settled [] w s pos = absurd (omega arith)
put_all_settled (x ∷ xs) w s pos = ap (put_all xs w) (put_settled x w s)

pub first_put_all_settled : (xs : List Glyph) (w : Writing) (s : Screen) (first : ℕ) → 0 < length xs → 4 ≤ s.cols → first_put_all xs w (wrap_done s) (first_settled s first) ≡ first_put_all xs w s first
unfolding first_put_all
first_put_all_settled [] w s first pos wide = absurd (omega arith)
first_put_all_settled (x ∷ xs) w s first pos wide = ap (λ t. first_put_all xs w t (first_put x w (wrap_done s) (first_settled s first))) (put_settled x w s) ∙ ap (first_put_all xs w (put_on x w s)) (first_put_settled x w s first wide)

-- a run of bytes in two parts
drop_drop : (xs : List ℕ) (a m : ℕ) → drop m (drop a xs) ≡ drop (a + m) xs
drop_drop xs a m =
    same_lists (drop m (drop a xs)) (drop (a + m) xs) (simp length-drop (omega arith)) (λ k d h.
    get_or-drop m (drop a xs) k d ∙ get_or-drop a xs (m + k) d ∙ ap (λ j. get_or xs j d) (omega arith) ∙ sym (get_or-drop (a + m) xs k d))

pub bytes_split : (pen : Glyph) (bytes : List ℕ) (at m n : ℕ) → n ≡ m
    → inked_bytes pen (drop at bytes) ≡ inked_bytes pen (take n (drop at bytes)) ++ inked_bytes pen (drop (at + m) bytes)
bytes_split pen bytes at m n e =
    let two : drop n (drop at bytes) ≡ drop (at + m) bytes = ap (λ k. drop k (drop at bytes)) e ∙ drop_drop bytes at m in
    ap (inked_bytes pen) (sym (take-append-drop n (drop at bytes)))
    ∙ map-append (λ byte. ascii_in byte pen) (take n (drop at bytes)) (drop n (drop at bytes))
    ∙ ap (λ l. inked_bytes pen (take n (drop at bytes)) ++ inked_bytes pen l) two

pub bytes_some : (bytes : List ℕ) (at m n : ℕ) → n ≡ m → at + m ≤ length bytes → length (take n (drop at bytes)) ≡ m
bytes_some bytes at m n e h = simp (length-take, length-drop) (omega (arith, e, h))

pub bytes_none : (pen : Glyph) (bytes : List ℕ) (at : ℕ) → length bytes ≤ at → inked_bytes pen (drop at bytes) ≡ []
bytes_none pen bytes at h = ap (inked_bytes pen) (drop_none bytes at h)
  where
    drop_none : (xs : List ℕ) (n : ℕ) → length xs ≤ n → drop n xs ≡ []
    drop_none xs n h = same_lists (drop n xs) [] (simp length-drop (omega arith)) (λ k d p. absurd (omega (arith, length-drop n xs)))
