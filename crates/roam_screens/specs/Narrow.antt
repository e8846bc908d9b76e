-- The part of a screen that version 1 shows: at most 100 rows of 250 columns, and no mixtures (this project's profile).
use Rattle.std.specs.Prelude.{◌≡◌, ℕ, ◌+◌, ◌-◌, ◌*◌, ◌/◌, ◌≤◌, min, Bool, true, false, not, ◌&&◌, ◌||◌, ◌==◌, nat_lt, EachIndex, slice_index_or, if◌then◌else◌}
use Rattle.roam_cells.specs.Glyph.{Glyph, is_wide, space_in, blank}
use Rattle.roam_cells.specs.Limits.{most_old_rows, most_old_columns}
use Rattle.roam_cells.specs.Place.{cell_at, table}
use Rattle.roam_screens.specs.Screenshot.{Screenshot, IsScreenshot}
use Rattle.roam_cells.specs.declared.styles.Style.{Style}
use Rattle.roam_cells.specs.declared.styles.Colour.{Colour}
use Rattle.roam_cells.specs.declared.styles.Colour.TheVariants.{Default, Index, Rgb}

-- a colour that is no mixture
abbrev pub is_plain_colour : Colour → Bool
is_plain_colour Default = true
is_plain_colour (Index n) = true
is_plain_colour (Rgb r g b) = false

-- a style without mixtures
abbrev pub is_plain_style : Style → Bool
is_plain_style s = is_plain_colour s.foreground && is_plain_colour s.background

-- a screen of version 1
pub record IsOldScreenshot (s : Screenshot) : Type 0 where
  pub screenshot : IsScreenshot s
  pub rows : s.rows ≤ most_old_rows
  pub cols : s.cols ≤ most_old_columns
  pub plain : EachIndex s.cells (λ k. is_plain_style (slice_index_or s.cells k blank).style ≡ true)

-- one of six steps of red, green or blue
abbrev pub step : ℕ → ℕ
step n = 6 * n / 256

-- a mixture as the nearest place in the cube of 216 that the table of 256 colours has from 16 on
abbrev pub narrow_colour : Colour → Colour
narrow_colour Default = Default
narrow_colour (Index n) = Index n
narrow_colour (Rgb r g b) = Index (16 + 36 * step r + 6 * step g + step b)

abbrev pub narrow_style : Style → Style
narrow_style s = record s { foreground = narrow_colour s.foreground; background = narrow_colour s.background }

-- a cell, in the last column that is shown or before it: a wide one that is cut in two becomes a space in its style
abbrev pub narrow_glyph : Bool → Glyph → Glyph
narrow_glyph last g =
    if last && is_wide g then record (space_in g) { style = narrow_style g.style } else record g { style = narrow_style g.style }

-- how many rows and columns are shown
abbrev pub narrow_rows : ℕ → ℕ
narrow_rows rows = min rows most_old_rows

abbrev pub narrow_cols : ℕ → ℕ
narrow_cols cols = min cols most_old_columns

-- the row, from 0, that a row shows: the last one shows the last, each other one itself
abbrev pub row_shown : ℕ → ℕ → ℕ
row_shown rows r = if r + 1 == narrow_rows rows then rows - 1 else r

-- the cell at a row and a column, from 0
abbrev pub narrow_at : Screenshot → ℕ → ℕ → Glyph
narrow_at s r c = narrow_glyph (c + 1 == narrow_cols s.cols) (cell_at s.cols s.cells (row_shown s.rows r) c)

-- whether the cursor's row, from 1, is left out: it is neither one of the first 99 nor the last
abbrev pub is_row_out : ℕ → ℕ → Bool
is_row_out rows row = nat_lt (most_old_rows - 1) row && not (row == rows)

-- whether the cursor's column, from 1, is left out
abbrev pub is_col_out : ℕ → Bool
is_col_out col = nat_lt most_old_columns col

-- the cursor's row: the last one stays the last, one that is left out goes to 99
abbrev pub narrow_row : ℕ → ℕ → ℕ
narrow_row rows row = if row == rows then narrow_rows rows else min row (most_old_rows - 1)

-- a screen as one of version 1; the cursor is hidden if its row or column is left out
abbrev pub narrow : Screenshot → Screenshot
narrow s =
    record {
      rows = narrow_rows s.rows;
      cols = narrow_cols s.cols;
      cells = table (narrow_rows s.rows) (narrow_cols s.cols) (narrow_at s);
      cursor_row = narrow_row s.rows s.cursor_row;
      cursor_col = min s.cursor_col most_old_columns;
      visible = s.visible && not (is_row_out s.rows s.cursor_row || is_col_out s.cursor_col);
    }
