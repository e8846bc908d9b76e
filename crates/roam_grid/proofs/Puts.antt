-- The steps of writing a cell.
use Rattle.std.proofs.Common.{◌≡◌, ℕ, ◌+◌, ◌-◌, ◌<◌, ◌≤◌, Bool, true, false, ◌&&◌, cond, eqb, refl, sym, ap, ◌∙◌, arith}
use Rattle.std.proofs.lemmas.Grind.{common_steps}
use Rattle.roam_cells.specs.Glyph.{Glyph}
use Rattle.roam_rows.specs.Editing.{insertion_source}
use Rattle.roam_rows.specs.Places.{in_row}
use Rattle.roam_grid.specs.Screen.{Screen, mapped_screen}
use Rattle.roam_grid.specs.Scrolling.{scrolled_up, first_scrolled_up}
use Rattle.roam_grid.specs.Cursor.{after_carriage_return, after_index, first_indexed}
use Rattle.roam_grid.specs.Writing.{columns, after_wrap, wrap_done, first_settled, with_room, first_with_room, made_way, after_ink, after_advance, leaves_row, put_on, first_put}
use Rattle.roam_grid.specs.declared.writing.Writing.{Writing}

abbrev pub Placed : ℕ → Screen → Type 0
Placed n s = (s.col ≡ 0) × (s.pending ≡ false) × (s.cols ≡ n)

one_of : (n : ℕ) (b d : Bool) (x y z : Screen) → Placed n x → Placed n y → Placed n z → Placed n (cond b x (cond d y z))
one_of n true d x y z p q r = p
one_of n false true x y z p q r = q
one_of n false false x y z p q r = r

-- after a wrap the cursor is in the first column
pub wrapped_place : (s : Screen) → Placed s.cols (after_wrap s)
unfolding after_wrap after_carriage_return after_index scrolled_up
wrapped_place s = one_of s.cols (eqb s.row s.bottom) (eqb (s.row + 1) s.rows) _ _ _ (refl, refl, refl) (refl, refl, refl) (refl, refl, refl)

settled_by : (s : Screen) (p : Bool) → s.pending ≡ p → (wrap_done s).pending ≡ false
unfolding wrap_done
settled_by s true e = ap (λ b. (cond b (after_wrap s) s).pending) e ∙ (wrapped_place s).1
settled_by s false e = ap (λ b. (cond b (after_wrap s) s).pending) e ∙ e

-- no wrap pends once one is done
pub settled_none : (s : Screen) → (wrap_done s).pending ≡ false
settled_none s = settled_by s s.pending refl

pub settled_same : (s : Screen) → s.pending ≡ false → wrap_done s ≡ s
unfolding wrap_done
settled_same s e = ap (λ b. cond b (after_wrap s) s) e

pub first_settled_same : (s : Screen) (first : ℕ) → s.pending ≡ false → first_settled s first ≡ first
unfolding first_settled
first_settled_same s first e = ap (λ b. cond b (first_indexed s first) first) e

pub and_false : (a b : Bool) → (a && false && b) ≡ false
and_false true b = refl
and_false false b = refl

pub cond_and : {X : Type 0} (a b : Bool) (x y : X) → cond a (cond b x y) y ≡ cond (b && a) x y
cond_and true true x y = refl
cond_and true false x y = refl
cond_and false true x y = refl
cond_and false false x y = refl

pub and_true : (b : Bool) → (b && true) ≡ b
and_true true = refl
and_true false = refl

pub not_last : (c n m : ℕ) → c ≡ 0 → n ≡ m → 4 ≤ m → eqb (c + 1) n ≡ false
not_last c n m p q h = grind (arith, common_steps)

module _ (n : ℕ) (w : Writing) (s : Screen) (first : ℕ) (wide : 4 ≤ s.cols) where
  abbrev tests : Bool
  tests = eqb n 2 && eqb (s.col + 1) s.cols && w.wraps

  by_pending : (p : Bool) → s.pending ≡ p → first_with_room n w (wrap_done s) (first_settled s first) ≡ cond (leaves_row n w s) (first_scrolled_up 1 s first) first
  unfolding first_with_room first_settled wrap_done leaves_row first_indexed
  by_pending true e =
      let t = after_wrap s in
      let place = wrapped_place s in
      ap (λ b. first_with_room n w (cond b t s) (cond b (first_indexed s first) first)) e
      ∙ ap (λ b. cond (eqb n 2 && b && w.wraps) (first_indexed t (first_indexed s first)) (first_indexed s first)) (not_last t.col t.cols s.cols place.0 place.2 wide)
      ∙ ap (λ b. cond b (first_indexed t (first_indexed s first)) (first_indexed s first)) (and_false (eqb n 2) w.wraps)
      ∙ sym (ap (λ b. cond (eqb s.row s.bottom && cond b true tests) (first_scrolled_up 1 s first) first) e ∙ ap (λ b. cond b (first_scrolled_up 1 s first) first) (and_true (eqb s.row s.bottom)))
  by_pending false e =
      ap (λ b. first_with_room n w (cond b (after_wrap s) s) (cond b (first_indexed s first) first)) e
      ∙ cond_and tests (eqb s.row s.bottom) (first_scrolled_up 1 s first) first
      ∙ sym (ap (λ b. cond (eqb s.row s.bottom && cond b true tests) (first_scrolled_up 1 s first) first) e)

  -- the first row moves if a row leaves
  pub first_steps : first_with_room n w (wrap_done s) (first_settled s first) ≡ cond (leaves_row n w s) (first_scrolled_up 1 s first) first
  first_steps = by_pending s.pending refl

settled_cols_by : (s : Screen) (p : Bool) → s.pending ≡ p → (wrap_done s).cols ≡ s.cols
unfolding wrap_done
settled_cols_by s true e = ap (λ b. (cond b (after_wrap s) s).cols) e ∙ (wrapped_place s).2
settled_cols_by s false e = ap (λ b. (cond b (after_wrap s) s).cols) e

-- a pending wrap may be done before
pub put_settled : (x : Glyph) (w : Writing) (s : Screen) → put_on x w (wrap_done s) ≡ put_on x w s
unfolding put_on
put_settled x w s = ap (λ t. after_advance (columns x) w (after_ink x (made_way (columns x) w (with_room (columns x) w t)))) (settled_same (wrap_done s) (settled_none s))

pub first_put_settled : (x : Glyph) (w : Writing) (s : Screen) (first : ℕ) → 4 ≤ s.cols → first_put x w (wrap_done s) (first_settled s first) ≡ first_put x w s first
unfolding first_put
first_put_settled x w s first wide =
    let n = columns x in
    let next = first_settled s first in
    let none = settled_none s in
    sym (first_steps n w (wrap_done s) next (omega (arith, settled_cols_by s s.pending refl)))
    ∙ ap (λ t. first_with_room n w t (first_settled (wrap_done s) next)) (settled_same (wrap_done s) none)
    ∙ ap (λ f. first_with_room n w (wrap_done s) f) (first_settled_same (wrap_done s) next none)
    ∙ first_steps n w s first wide

pub settled_cols : (s : Screen) → (wrap_done s).cols ≡ s.cols
settled_cols s = settled_cols_by s s.pending refl

pub not_edge : (n col cols : ℕ) → col + n < cols → (eqb n 2 && eqb (col + 1) cols) ≡ false
not_edge n col cols room = grind (arith, common_steps)

-- a cell that has room after it, with no wrap pending, is written at the cursor
pub put_inside : (x : Glyph) (w : Writing) (s : Screen) → w.inserts ≡ false → s.pending ≡ false → s.col + columns x < s.cols
    → put_on x w s ≡ after_advance (columns x) w (after_ink x s)
unfolding put_on with_room made_way
put_inside x w s over none room =
    let n = columns x in
    ap (λ t. after_advance n w (after_ink x (made_way n w (with_room n w t)))) (settled_same s none)
    ∙ ap (λ b. after_advance n w (after_ink x (made_way n w (cond b (cond w.wraps (after_wrap s) (record s { col = s.cols - 2 })) s)))) (not_edge n s.col s.cols room)
    ∙ ap (λ b. after_advance n w (after_ink x (cond b (mapped_screen (in_row s.row (insertion_source s.col n)) s) s))) over

and_nothing : (a b : Bool) → b ≡ false → (a && b) ≡ false
and_nothing true b e = e
and_nothing false b e = refl

-- and no row leaves
pub leaves_inside : (n : ℕ) (w : Writing) (s : Screen) → s.pending ≡ false → s.col + n < s.cols → leaves_row n w s ≡ false
unfolding leaves_row
leaves_inside n w s none room =
    ap (λ b. eqb s.row s.bottom && cond b true (eqb n 2 && eqb (s.col + 1) s.cols && w.wraps)) none
    ∙ ap (λ b. eqb s.row s.bottom && (b && w.wraps)) (not_edge n s.col s.cols room)
    ∙ and_nothing (eqb s.row s.bottom) false refl

pub first_inside : (x : Glyph) (w : Writing) (s : Screen) (first : ℕ) → s.pending ≡ false → s.col + columns x < s.cols → first_put x w s first ≡ first
unfolding first_put
first_inside x w s first none room = ap (λ b. cond b (first_scrolled_up 1 s first) first) (leaves_inside (columns x) w s none room)
