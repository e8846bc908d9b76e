-- The effect of an act on the terminals: a step for each number, prepared with all its memory and then done.
use Rattle.std.specs.Prelude.{◌≡◌, ℕ, [], ◌∷◌, ◌++◌, List, Option, Some, None, slice_index_or, true, false}
use Rattle.roam_term.specs.Limits.{pane_lines}
use Rattle.roam_cells.specs.Limits.{IsSize}
use Rattle.roam_grid.specs.Marks.{all_off}
use Rattle.roam_text.specs.Log.{Item, Resized}
use Rattle.roam_term.specs.Stands.{TermView, Stands as TermStands, HasSize}
use Rattle.roam_layout.specs.declared.rects.Rect.{Rect}
use Rattle.roam_layout.specs.Rects.{rect_in}
use Rattle.roam_session.specs.Panes.{is_same_size}
use Rattle.roam_session.specs.declared.steps.Step.{Step}
use Rattle.roam_session.specs.declared.steps.Step.TheVariants.{Keep, End, Begin, Fit}

-- ---- what rectangles ask

-- a terminal that begins in a rectangle
pub record IsFresh (t : TermView) (r : Rect) : Type 0 where
  pub stands : TermStands t r.rows r.cols pane_lines []
  pub waiting : t.waiting ≡ []
  pub marks : t.marks ≡ all_off
  pub size : HasSize t r.rows r.cols

-- a terminal that was brought to a size
pub record IsFitted (rows cols : ℕ) (old new : TermView) : Type 0 where
  pub stands : (first wide lines : ℕ) (log : List Item) → TermStands old first wide lines log
      → TermStands new first wide lines (log ++ Resized rows cols ∷ [])
  pub waiting : new.waiting ≡ old.waiting
  pub marks : new.marks ≡ all_off
  pub size : HasSize new rows cols

-- a terminal goes from a rectangle to another
pub record IsMoved (from to : Rect) (old new : TermView) : Type 0 where
  pub stays : is_same_size from to ≡ true → new ≡ old
  pub fitted : is_same_size from to ≡ false → IsFitted to.rows to.cols old new

-- the result of the terminal at a number that has one rectangle before an act and another after it
abbrev pub IsGiven : Option Rect → Option Rect → Option TermView → Option TermView → Type 0
IsGiven from None old None = Unit {0}
IsGiven from None old (Some new) = ⊥
IsGiven None (Some to) old None = ⊥
IsGiven None (Some to) old (Some new) = IsFresh new to
IsGiven (Some from) (Some to) None None = Unit {0}
IsGiven (Some from) (Some to) None (Some new) = ⊥
IsGiven (Some from) (Some to) (Some old) None = ⊥
IsGiven (Some from) (Some to) (Some old) (Some new) = IsMoved from to old new

-- the rectangles of a list are of sizes that a screen may have
abbrev pub AreSizes : List (ℕ × Rect) → Type 0
AreSizes rects = (k : ℕ) (r : Rect) → rect_in k rects ≡ Some r → IsSize r.rows r.cols

-- ---- steps

-- a step can be done at a number
abbrev pub Suits : Step → Option TermView → Type 0
Suits Keep old = Unit {0}
Suits End old = Unit {0}
Suits (Begin t) old = Unit {0}
Suits (Fit f) None = Unit {0}
Suits (Fit f) (Some old) = f.lines ≡ old.history.lines

-- its result
abbrev pub Does : Step → Option TermView → Option TermView → Type 0
Does Keep old new = new ≡ old
Does End old new = new ≡ None
Does (Begin t) old new = new ≡ Some t
Does (Fit f) None new = new ≡ None
Does (Fit f) (Some old) None = ⊥
Does (Fit f) (Some old) (Some new) = IsFitted f.rows f.cols old new

-- a step does the change that the rectangles ask for
pub record Prepares (step : Step) (from to : Option Rect) (old : Option TermView) : Type 0 where
  pub suits : Suits step old
  pub does : (new : Option TermView) → Does step old new → IsGiven from to old new

abbrev pub step_at : List Step → ℕ → Step
step_at steps k = slice_index_or steps k Keep
