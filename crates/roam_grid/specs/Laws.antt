-- The meaning of marks for a screen before and after a call, and a grid after a scroll.
use Rattle.std.specs.Prelude.{◌≡◌, ◌≢◌, ℕ, ◌<◌, Bool, true, false, List}
use Rattle.roam_cells.specs.Place.{cell_at}
use Rattle.roam_rows.specs.Places.{Source, From}
use Rattle.roam_grid.specs.Screen.{Screen, GridView}
use Rattle.roam_grid.specs.Scrolling.{scrolled_up, scrolled_down, first_scrolled_up, first_scrolled_down}
use Rattle.roam_grid.specs.Marks.{is_marked}

-- a row has a place that doesn't take itself by a map of places
abbrev pub IsNamed : ℕ → (ℕ → ℕ → Source) → ℕ → Type 0
IsNamed cols source r = (c : ℕ) × (c < cols) × (source r c ≢ From r c)

-- no mark goes off, a mark goes on only in a row that has such a place, and a row without a mark has none
pub record AreNamedMarked (s : Screen) (source : ℕ → ℕ → Source) (old new : List Bool) : Type 0 where
  pub stay : (r : ℕ) → r < s.rows → is_marked old r ≡ true → is_marked new r ≡ true
  pub named : (r : ℕ) → r < s.rows → is_marked old r ≡ false → is_marked new r ≡ true → IsNamed s.cols source r
  pub rest : (r c : ℕ) → r < s.rows → c < s.cols → is_marked new r ≡ false → source r c ≡ From r c

-- no mark goes off, and a row without a mark shows the same cells as before
pub record ShowsUnmarked (s t : Screen) (old new : List Bool) : Type 0 where
  pub stay : (r : ℕ) → r < s.rows → is_marked old r ≡ true → is_marked new r ≡ true
  pub shows : (r c : ℕ) → r < s.rows → c < s.cols → is_marked new r ≡ false
      → cell_at s.cols t.cells r c ≡ cell_at s.cols s.cells r c

-- a row has a place that shows something else
abbrev pub IsChanged : Screen → Screen → ℕ → Type 0
IsChanged s t r = (c : ℕ) × (c < s.cols) × (cell_at s.cols t.cells r c ≢ cell_at s.cols s.cells r c)

-- a grid whose rows between the margins went up by n, and down by n
abbrev pub grid_up : ℕ → GridView → GridView
grid_up n v = record v { screen = scrolled_up n v.screen; first = first_scrolled_up n v.screen v.first }

abbrev pub grid_down : ℕ → GridView → GridView
grid_down n v = record v { screen = scrolled_down n v.screen; first = first_scrolled_down n v.screen v.first }
