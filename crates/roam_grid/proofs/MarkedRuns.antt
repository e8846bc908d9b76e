-- Marks of cells that are written, one or many.
use Rattle.std.proofs.Common.{◌≡◌, ℕ, suc, ◌+◌, ◌-◌, ◌<◌, ◌≤◌, Bool, true, false, ◌&&◌, cond, eqb, List, [], ◌∷◌, ◌++◌, length, refl, sym, ap, ◌∙◌, arith}
use Rattle.std.proofs.Math.Bool.{or_self}
use Rattle.roam_cells.specs.Glyph.{Glyph, is_wide}
use Rattle.roam_rows.specs.Editing.{insertion_source}
use Rattle.roam_rows.specs.Places.{in_row}
use Rattle.roam_rows.specs.Writing.{written_run}
use Rattle.roam_grid.specs.Screen.{Screen, mapped_screen}
use Rattle.roam_grid.specs.Writing.{columns, after_wrap, wrap_done, with_room, made_way, leaves_row, put_on, put_all}
use Rattle.roam_grid.specs.Marks.{row_marked, marks_scrolled, marks_indexed, marks_settled, marks_with_room, marks_put, marks_put_all}
use Rattle.roam_grid.specs.declared.writing.Writing.{Writing}
use Rattle.roam_grid.proofs.Marked.{marked_twice}
use Rattle.roam_grid.proofs.Puts.{and_false, and_true, cond_and, not_last, settled_same, settled_none, put_settled, wrapped_place, not_edge, leaves_inside}
use Rattle.roam_grid.proofs.Runs.{AreNarrow, put_one, goes_on}

-- a row that is marked twice is marked
pub row_twice : (row : ℕ) (marks : List Bool) → row_marked row (row_marked row marks) ≡ row_marked row marks
row_twice row marks = marked_twice (λ r. eqb r row) (λ r. eqb r row) (λ r. eqb r row) marks (λ r h. or_self (eqb r row))

made_by : (n : ℕ) (w : Writing) (s : Screen) (b : Bool) → w.inserts ≡ b → (made_way n w s).row ≡ s.row
unfolding made_way
made_by n w s true e = ap (λ b. (cond b (mapped_screen (in_row s.row (insertion_source s.col n)) s) s).row) e
made_by n w s false e = ap (λ b. (cond b (mapped_screen (in_row s.row (insertion_source s.col n)) s) s).row) e

-- the cursor's row stays when cells make way
pub made_row : (n : ℕ) (w : Writing) (s : Screen) → (made_way n w s).row ≡ s.row
made_row n w s = made_by n w s w.inserts refl

-- nothing is marked if no wrap is pending
pub marks_settled_same : (s : Screen) (marks : List Bool) → s.pending ≡ false → marks_settled s marks ≡ marks
unfolding marks_settled
marks_settled_same s marks e = ap (λ b. cond b (marks_indexed s marks) marks) e

-- a pending wrap may be done before
pub marks_put_settled : (x : Glyph) (w : Writing) (s : Screen) (marks : List Bool) → marks_put x w (wrap_done s) (marks_settled s marks) ≡ marks_put x w s marks
unfolding marks_put
marks_put_settled x w s marks =
    let n = columns x in
    let next = marks_settled s marks in
    ap (λ t. row_marked (with_room n w t).row (marks_with_room n w t (marks_settled (wrap_done s) next))) (settled_same (wrap_done s) (settled_none s))
    ∙ ap (λ m. row_marked (with_room n w (wrap_done s)).row (marks_with_room n w (wrap_done s) m)) (marks_settled_same (wrap_done s) next (settled_none s))

-- one cell of one column, with no wrap pending
marks_one : (g : Glyph) (w : Writing) (s : Screen) (marks : List Bool) → is_wide g ≡ false → s.pending ≡ false → marks_put g w s marks ≡ row_marked s.row marks
unfolding marks_put with_room
marks_one g w s marks narrow none =
    ap (λ t. row_marked (with_room (columns g) w t).row (marks_with_room (columns g) w t (marks_settled s marks))) (settled_same s none)
    ∙ ap (λ m. row_marked (with_room (columns g) w s).row (marks_with_room (columns g) w s m)) (marks_settled_same s marks none)
    ∙ ap (λ v. row_marked (with_room (cond v 2 1) w s).row (marks_with_room (cond v 2 1) w s marks)) narrow

-- cells of one column put one after another in one row mark it
marks_run : (gs : List Glyph) (g : Glyph) (w : Writing) (s : Screen) (marks : List Bool) → w.inserts ≡ false → AreNarrow (g ∷ gs) → s.pending ≡ false
    → s.col + length (g ∷ gs) ≤ s.cols → marks_put_all (g ∷ gs) w s marks ≡ row_marked s.row marks
unfolding marks_put_all
marks_run [] g w s marks over narrow none fits = marks_one g w s marks (narrow 0).0 none
marks_run (h ∷ gs) g w s marks over narrow none fits =
    let mid = mapped_screen (in_row s.row (written_run (g ∷ []) s.col)) s in
    let t : Screen = record mid { col = s.col + 1 } in
    let step : put_on g w s ≡ t = put_one g w s over (narrow 0).0 none ∙ goes_on 1 w mid (omega arith) in
    ap (λ u. marks_put_all (h ∷ gs) w u (marks_put g w s marks)) step ∙ ap (marks_put_all (h ∷ gs) w t) (marks_one g w s marks (narrow 0).0 none)
    ∙ marks_run gs h w t (row_marked s.row marks) over (λ k. narrow (suc k)) none (omega arith) ∙ row_twice s.row marks

pub marks_some : (gs : List Glyph) (w : Writing) (s : Screen) (marks : List Bool) → w.inserts ≡ false → 0 < length gs → AreNarrow gs → s.pending ≡ false
    → s.col + length gs ≤ s.cols → marks_put_all gs w s marks ≡ row_marked s.row marks
marks_some [] w s marks over pos narrow none fits = absurd (omega arith)
marks_some (g ∷ gs) w s marks over pos narrow none fits = marks_run gs g w s marks over narrow none fits

-- a run in two parts
pub marks_put_all-append : (xs ys : List Glyph) (w : Writing) (s : Screen) (marks : List Bool) → marks_put_all (xs ++ ys) w s marks ≡ marks_put_all ys w (put_all xs w s) (marks_put_all xs w s marks)
unfolding put_all marks_put_all
marks_put_all-append [] ys w s marks = refl
marks_put_all-append (x ∷ xs) ys w s marks = marks_put_all-append xs ys w (put_on x w s) (marks_put x w s marks)

-- a pending wrap may be done before a run
pub marks_put_all_settled : (xs : List Glyph) (w : Writing) (s : Screen) (marks : List Bool) → 0 < length xs → marks_put_all xs w (wrap_done s) (marks_settled s marks) ≡ marks_put_all xs w s marks
unfolding marks_put_all
marks_put_all_settled [] w s marks pos = absurd (omega arith)
marks_put_all_settled (x ∷ xs) w s marks pos = ap (λ t. marks_put_all xs w t (marks_put x w (wrap_done s) (marks_settled s marks))) (put_settled x w s) ∙ ap (marks_put_all xs w (put_on x w s)) (marks_put_settled x w s marks)

module _ (n : ℕ) (w : Writing) (s : Screen) (marks : List Bool) (wide : 4 ≤ s.cols) where
  abbrev tests : Bool
  tests = eqb n 2 && eqb (s.col + 1) s.cols && w.wraps

  by_pending : (p : Bool) → s.pending ≡ p → marks_with_room n w (wrap_done s) (marks_settled s marks) ≡ cond (leaves_row n w s) (marks_scrolled 1 s marks) marks
  unfolding marks_settled wrap_done leaves_row marks_indexed
  by_pending true e =
      let t = after_wrap s in
      let place = wrapped_place s in
      ap (λ b. marks_with_room n w (cond b t s) (cond b (marks_indexed s marks) marks)) e
      ∙ ap (λ b. cond (eqb n 2 && b && w.wraps) (marks_indexed t (marks_indexed s marks)) (marks_indexed s marks)) (not_last t.col t.cols s.cols place.0 place.2 wide)
      ∙ ap (λ b. cond b (marks_indexed t (marks_indexed s marks)) (marks_indexed s marks)) (and_false (eqb n 2) w.wraps)
      ∙ sym (ap (λ b. cond (eqb s.row s.bottom && cond b true tests) (marks_scrolled 1 s marks) marks) e ∙ ap (λ b. cond b (marks_scrolled 1 s marks) marks) (and_true (eqb s.row s.bottom)))
  by_pending false e =
      ap (λ b. marks_with_room n w (cond b (after_wrap s) s) (cond b (marks_indexed s marks) marks)) e
      ∙ cond_and tests (eqb s.row s.bottom) (marks_scrolled 1 s marks) marks
      ∙ sym (ap (λ b. cond (eqb s.row s.bottom && cond b true tests) (marks_scrolled 1 s marks) marks) e)

  -- rows go up if one leaves
  pub marks_steps : marks_with_room n w (wrap_done s) (marks_settled s marks) ≡ cond (leaves_row n w s) (marks_scrolled 1 s marks) marks
  marks_steps = by_pending s.pending refl

-- a cell that has room after it, with no wrap pending, marks the cursor's row
pub marks_inside : (x : Glyph) (w : Writing) (s : Screen) (marks : List Bool) → s.pending ≡ false → s.col + columns x < s.cols → 4 ≤ s.cols
    → marks_put x w s marks ≡ row_marked s.row marks
unfolding marks_put with_room
marks_inside x w s marks none room wide =
    let n = columns x in
    ap (row_marked (with_room n w (wrap_done s)).row) (marks_steps n w s marks wide ∙ ap (λ b. cond b (marks_scrolled 1 s marks) marks) (leaves_inside n w s none room))
    ∙ ap (λ t. row_marked (with_room n w t).row marks) (settled_same s none)
    ∙ ap (λ b. row_marked (cond b (cond w.wraps (after_wrap s) (record s { col = s.cols - 2 })) s).row marks) (not_edge n s.col s.cols room)
