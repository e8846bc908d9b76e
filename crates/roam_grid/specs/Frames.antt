-- Changes of a whole screen at once: an alignment pattern, a frame taken over, another size.
use Rattle.std.specs.Prelude.{ℕ, ◌+◌, ◌-◌, ◌*◌, false, ◌∷◌, [], replicate, min}
use Rattle.roam_cells.specs.Glyph.{Glyph, default_style, blank}
use Rattle.roam_rows.specs.Sizing.{sized_rows}
use Rattle.roam_grid.specs.Screen.{Screen, start}

-- E in the default style
abbrev pub letter_e : Glyph
letter_e = record { points = 0x45 ∷ []; style = default_style; guarded = false }

-- every cell is an E, the margins are full, the cursor is at the start (DECALN, VT220 Programmer Reference)
unfoldable pub after_alignment : Screen → Screen
after_alignment s =
    record s { cells = replicate (s.rows * s.cols) letter_e; row = 0; col = 0; pending = false; top = 0; bottom = s.rows - 1 }

-- every cell is blank; all else stays
unfoldable pub all_blank : Screen → Screen
all_blank s = record s { cells = replicate (s.rows * s.cols) blank }

-- every cell is blank; the cursor, the margins and the tab stops are as at the start (RIS, ECMA-48 8.3.105)
unfoldable pub after_restart : Screen → Screen
after_restart s = start s.rows s.cols

-- the cursor, the margins and the tab stops of another screen, with no wrap pending (a switch of screens; this project's profile)
unfoldable pub framed_as : Screen → Screen → Screen
framed_as t s = record s { row = t.row; col = t.col; pending = false; top = t.top; bottom = t.bottom; stops = t.stops }

-- how many rows more leave at the top, so that the cursor's row stays on a screen of so many rows (this project's profile)
abbrev pub leaving : ℕ → Screen → ℕ
leaving rows s = s.row + 1 - rows

-- Another size, after `off` rows have left at the top. Rows come in or are cut at the bottom and columns at the right. Margins are full,
-- the cursor is pushed into the screen, and no wrap is pending (this project's profile).
unfoldable pub after_resizing : ℕ → ℕ → ℕ → Screen → Screen
after_resizing rows cols off s =
    record {
      rows = rows;
      cols = cols;
      cells = (sized_rows rows cols off (record { rows = s.rows; cols = s.cols; cells = s.cells; first = 0 })).cells;
      row = min (s.row - off) (rows - 1);
      col = min s.col (cols - 1);
      pending = false;
      top = 0;
      bottom = rows - 1;
      stops = s.stops;
    }
