-- Rows whose text is as short as that of a painter which writes each place that differs, but for CUP behind doubtful cells.
use Rattle.std.specs.Prelude.{◌≡◌, ℕ, ◌+◌, ◌*◌, ◌≤◌, if◌then◌else◌, List, length}
use Rattle.roam_cells.specs.declared.styles.Style.{Style}
use Rattle.roam_screens.specs.Screenshot.{Screenshot}
use Rattle.roam_term.specs.Ground.{shown_at}
use Rattle.roam_paint.specs.Painting.{differs, text_between}
use Rattle.roam_paint.specs.Texts.{row_text, row_style, rows_text, rows_style}
use Rattle.roam_scroll_paint.specs.Doubts.{doubts_in, doubts_to, doubts_between, longest_placing}

-- a text is longer by a row, with the style that is set before it and after it
pub record AddsShortRow (old new : Screenshot) (r : ℕ) (g h : Style) (before after : List ℕ) : Type 0 where
  pub style : h ≡ row_style old new r g new.cols
  pub few : length after
      ≤ length before + (length (row_text old new r g new.cols) + longest_placing * doubts_in (differs old new) (shown_at new) r new.cols)

-- a text is longer by the first rows
pub record AddsShortRows (old new : Screenshot) (r : ℕ) (h : Style) (before after : List ℕ) : Type 0 where
  pub style : h ≡ rows_style old new r
  pub few : length after
      ≤ length before + (length (rows_text old new r) + longest_placing * doubts_to (differs old new) (shown_at new) new.cols r)

-- and by all but what hides the cursor, which has six bytes, and shows it
abbrev pub AddsShortBody : Screenshot → Screenshot → List ℕ → List ℕ → Type 0
AddsShortBody old new before after =
    length after + (6 + (if new.visible then 6 else 0))
    ≤ length before + (length (text_between old new) + longest_placing * doubts_between old new)

-- a text is no longer than that of a painter which writes each place that differs, but for CUP behind doubtful cells among these
abbrev pub IsShort : Screenshot → Screenshot → List ℕ → Type 0
IsShort old new text = length text ≤ length (text_between old new) + longest_placing * doubts_between old new
