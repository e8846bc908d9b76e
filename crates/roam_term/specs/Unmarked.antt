-- The meaning of marks for a terminal's picture, whatever functions come (this project's profile).
use Rattle.std.specs.Prelude.{◌≡◌, ℕ, ◌<◌, Bool, false, ◌||◌, List, ◌++◌}
use Rattle.roam_cells.specs.Limits.{IsSize}
use Rattle.roam_cells.specs.Place.{row_of}
use Rattle.roam_screens.specs.Screenshot.{Screenshot}
use Rattle.roam_grid.specs.Marks.{is_marked, all_off}
use Rattle.roam_text.specs.Functions.{functions_of}
use Rattle.roam_text.specs.Log.{Item}
use Rattle.roam_text.specs.declared.functions.Function.{Function}
use Rattle.roam_term.specs.Marks.{marked_through}
use Rattle.roam_term.specs.Picture.{picture}
use Rattle.roam_term.specs.Screens.{AreSizes}
use Rattle.roam_term.specs.Terminal.{Live, term}

-- functions put on the marks that they put on if none is on, whatever was marked before: so none goes off
abbrev pub MarksAreAdded : Type 0
MarksAreAdded =
    (l : Live) (fs : List Function) (marks : List Bool) (r : ℕ) → r < 200
    → is_marked (marked_through l fs marks) r ≡ (is_marked marks r || is_marked (marked_through l fs all_off) r)

-- a row of two screens of so many columns shows the same
pub record IsSameRow (r : ℕ) (p q : Screenshot) : Type 0 where
  pub cols : q.cols ≡ p.cols
  pub row : row_of q.cols q.cells r ≡ row_of p.cols p.cells r

-- functions between a log and a later one: at view 0 a row without a mark afterwards shows the same cells as before
abbrev pub UnmarkedRowsStay : Type 0
UnmarkedRowsStay =
    (rows cols lines : ℕ) (log later : List Item) (fs : List Function) (marks : List Bool) → IsSize rows cols → AreSizes later
    → functions_of later ≡ functions_of log ++ fs → (r : ℕ) → r < (picture rows cols lines later 0).rows
    → is_marked (marked_through (term rows cols lines log).live fs marks) r ≡ false
    → IsSameRow r (picture rows cols lines log 0) (picture rows cols lines later 0)
