-- The effect of the text of a row on a terminal.
use Rattle.std.specs.Prelude.{◌≡◌, ℕ, zero, suc, ◌<◌, ◌≤◌, List, [], ◌∷◌, ◌++◌, false, None}
use Rattle.roam_cells.specs.Glyph.{Glyph, is_right_half, default_style}
use Rattle.roam_cells.specs.Place.{cell_at}
use Rattle.roam_screens.specs.Screenshot.{Screenshot, IsScreenshot}
use Rattle.roam_term.specs.Ground.{IsGround, IsSized, shown_at}
use Rattle.roam_term.specs.Terminal.{Live, live_after}
use Rattle.roam_scrollback.specs.RowText.{row_words}

-- the first n cells of a row, each as it is at its column
abbrev pub cells_to : (ℕ → Glyph) → ℕ → List Glyph
cells_to at zero = []
cells_to at (suc n) = cells_to at n ++ at n ∷ []

-- a terminal shows the cells of a screen at every place of the screen
abbrev pub ShowsAt : Live → Screenshot → ℕ → ℕ → Type 0
ShowsAt t p i j = cell_at t.screen.cols t.screen.cells i j ≡ shown_at p i j

-- A ground terminal wider than n columns, with its cursor hidden at the start of a row, as a control function leaves it. It shows a screen
-- except for the first n columns of that row.
pub record Awaits (t : Live) (p : Screenshot) (r n : ℕ) : Type 0 where
  pub ground : IsGround t
  pub hidden : t.modes.cursor_visible ≡ false
  pub forgets : t.printed ≡ None
  pub rows : p.rows ≤ t.screen.rows
  pub cols : p.cols ≤ t.screen.cols
  pub row_in : r < p.rows
  pub few : n ≤ p.cols
  pub room : n < t.screen.cols
  pub whole : is_right_half (shown_at p r n) ≡ false
  pub row : t.screen.row ≡ r
  pub col : t.screen.col ≡ 0
  pub settled : t.screen.pending ≡ false
  pub before : (i j : ℕ) → i < t.screen.rows → j < t.screen.cols → (i ≡ r → n ≤ j) → ShowsAt t p i j

-- a ground terminal of the same size that shows all of it, its cursor in the same row
pub record Shows (t u : Live) (p : Screenshot) (r : ℕ) : Type 0 where
  pub ground : IsGround u
  pub size : IsSized t u
  pub row : u.screen.row ≡ r
  pub places : (i j : ℕ) → i < t.screen.rows → j < t.screen.cols → ShowsAt u p i j

-- the text of a row's first cells leads from the one to the other
abbrev pub RowTextLeads : Type 0
RowTextLeads =
    (t : Live) (p : Screenshot) (r n : ℕ) → IsScreenshot p → Awaits t p r n
    → Shows t (live_after t (row_words default_style (cells_to (shown_at p r) n))) p r
