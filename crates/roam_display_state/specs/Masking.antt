-- The content of masked cells stays while a terminal is painted around them (this project's profile).
use Rattle.std.specs.Prelude.{◌≡◌, ℕ, ◌+◌, Bool, true, false, List}
use Rattle.roam_cells.specs.Glyph.{is_wide, blank}
use Rattle.roam_paint.specs.Painting.{text_between}
use Rattle.roam_viewport.specs.Parts.{is_masked}
use Rattle.roam_viewport.specs.declared.parts.Part.{Part}
use Rattle.roam_screens.specs.Screenshot.{Screenshot, IsScreenshot}
use Rattle.roam_scroll_paint.specs.Leads.{Leads}
use Rattle.roam_term.specs.Ground.{shown_at}

-- one screen is another except for the content of masked cells
pub record IsBeside (masks : List Part) (s other : Screenshot) : Type 0 where
  pub rows : other.rows ≡ s.rows
  pub cols : other.cols ≡ s.cols
  pub cursor_row : other.cursor_row ≡ s.cursor_row
  pub cursor_col : other.cursor_col ≡ s.cursor_col
  pub visible : other.visible ≡ s.visible
  pub places : (r c : ℕ) → is_masked masks r c ≡ false → shown_at other r c ≡ shown_at s r c

-- A terminal is painted from one screen to another of its size, both with blank masked cells. If it shows other content in them, of which
-- no wide character crosses the edge, it shows that content afterwards, and the other screen around it.
abbrev pub MaskedCellsStay : Type 0
MaskedCellsStay =
    (masks : List Part) (before view there later : Screenshot) → view.rows ≡ before.rows → view.cols ≡ before.cols
    → ((r c : ℕ) → is_masked masks r c ≡ true → (shown_at before r c ≡ blank) × (shown_at view r c ≡ blank))
    → IsBeside masks before there → IsBeside masks view later → IsScreenshot later
    → ((r c : ℕ) → is_masked masks r c ≡ true → shown_at there r c ≡ shown_at later r c)
    → ((r c : ℕ) → is_masked masks r c ≡ true → is_wide (shown_at later r c) ≡ true → is_masked masks r (c + 1) ≡ true)
    → Leads there later (text_between before view)
