use Rattle.std.proofs.Common.{◌≡◌, ℕ, ◌∙◌, Bool, List, refl, sym, ap, subst}
use Rattle.roam_grid.specs.Screen.{Screen}
use Rattle.roam_grid.specs.Scrolling.{first_scrolled_up}
use Rattle.roam_grid.specs.Cursor.{after_carriage_return, after_index, first_indexed}
use Rattle.roam_grid.specs.Marks.{marks_indexed}
use Rattle.roam_grid.specs.Writing.{after_wrap}
use Rattle.roam_grid.proofs.Puts.{wrapped_place, Placed}
use Rattle.roam_grid.proofs.grids.Grid.wrap.Goals as goal

pub returns-clause-place : goal.returns-clause-place
unfolding after_wrap
returns-clause-place c =
    let s = c.args.self.now.screen in
    let is : c.index.new.self.screen ≡ after_wrap s = c.index.ensures.screen ∙ ap after_index c.carriage_return.ensures.screen in
    subst (λ (t : Screen). Placed s.cols t) (sym is) (wrapped_place s)

-- the first row goes on after CR as it does without it
first_indexed-carried : (s : Screen) (first : ℕ) → first_indexed (after_carriage_return s) first ≡ first_indexed s first
unfolding after_carriage_return first_indexed first_scrolled_up
first_indexed-carried s first = refl

pub returns-clause-first : goal.returns-clause-first
returns-clause-first c =
    let s = c.args.self.now.screen in
    c.index.ensures.first ∙ ap (λ t. first_indexed t c.carriage_return.new.self.first) c.carriage_return.ensures.screen
    ∙ ap (first_indexed (after_carriage_return s)) c.carriage_return.ensures.first ∙ first_indexed-carried s c.args.self.now.first

-- and marks are put on after CR as they are without it
marks_indexed-carried : (s : Screen) (marks : List Bool) → marks_indexed (after_carriage_return s) marks ≡ marks_indexed s marks
unfolding after_carriage_return marks_indexed
marks_indexed-carried s marks = refl

pub returns-clause-marks : goal.returns-clause-marks
returns-clause-marks c =
    let s = c.args.self.now.screen in
    c.index.ensures.marks ∙ ap (λ t. marks_indexed t c.carriage_return.new.self.marks) c.carriage_return.ensures.screen
    ∙ ap (marks_indexed (after_carriage_return s)) c.carriage_return.ensures.marks ∙ marks_indexed-carried s c.args.self.now.marks
