-- The picture of a terminal.
use Rattle.std.specs.Prelude.{ℕ, ◌+◌, ◌-◌, ◌*◌, Bool, false, not, ◌&&◌, nat_le, min, if◌then◌else◌, List, ◌++◌, length, map, take, drop}
use Rattle.std.specs.List.{flat_map}
use Rattle.roam_cells.specs.Glyph.{Glyph}
use Rattle.roam_screens.specs.Screenshot.{Screenshot}
use Rattle.roam_cells.specs.declared.styles.Style.{Style}
use Rattle.roam_text.specs.Log.{Item}
use Rattle.roam_history.specs.Histories.{Scrollback}
use Rattle.roam_term.specs.Terminal.{Live, term}

-- a style with its reverse flag turned if the whole screen is reversed (DECSCNM, VT220 Programmer Reference)
abbrev pub shown_style : Bool → Style → Style
shown_style reversed style = if reversed then record style { reverse = not style.reverse } else style

-- a cell as it is shown: a guard is no part of it
abbrev pub shown_glyph : Bool → Glyph → Glyph
shown_glyph reversed g = record { points = g.points; style = shown_style reversed g.style; guarded = false }

-- how many rows of the history a view shows: at most those that are there, and none on the alternate screen
abbrev pub rows_in_view : Live → Scrollback → ℕ → ℕ
rows_in_view l h view = if l.alternate then 0 else min view (length h.rows)

-- the last v rows of the history, and below them the screen, as far as they fit
abbrev pub cells_in_view : ℕ → Live → Scrollback → List Glyph
cells_in_view v l h =
    take (l.screen.rows * l.screen.cols) (flat_map (λ (row : List Glyph). row) (drop (length h.rows - v) h.rows) ++ l.screen.cells)

-- the cursor goes down with the screen; below the last row it is hidden
abbrev pub picture_with : ℕ → Live → Scrollback → Screenshot
picture_with v l h =
    record {
      rows = l.screen.rows;
      cols = l.screen.cols;
      cells = map (shown_glyph l.modes.reverse_screen) (cells_in_view v l h);
      cursor_row = min (l.screen.row + 1 + v) l.screen.rows;
      cursor_col = l.screen.col + 1;
      visible = l.modes.cursor_visible && nat_le (l.screen.row + 1 + v) l.screen.rows;
    }

-- the picture of a live state and a history, scrolled back by a view
abbrev pub picture_of : Live → Scrollback → ℕ → Screenshot
picture_of l h view = picture_with (rows_in_view l h view) l h

-- the picture of a log
unfoldable pub picture : ℕ → ℕ → ℕ → List Item → ℕ → Screenshot
picture rows cols lines log view = picture_of (term rows cols lines log).live (term rows cols lines log).history view
