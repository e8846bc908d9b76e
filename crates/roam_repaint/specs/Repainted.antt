-- The effect of the text of a screen on a terminal.
use Rattle.std.specs.Prelude.{◌≡◌, ℕ, ◌+◌, ◌-◌, ◌<◌, true, false, if◌then◌else◌, List, ◌++◌, map, None}
use Rattle.roam_cells.specs.Glyph.{Glyph, IsStyle, is_right_half}
use Rattle.roam_cells.specs.Place.{cell_at}
use Rattle.roam_charset.specs.declared.charsets.Charset.TheVariants.{Ascii}
use Rattle.roam_charset.specs.declared.sets.Element.TheVariants.{G0}
use Rattle.roam_screens.specs.Screenshot.{IsScreenshot}
use Rattle.roam_text.specs.Functions.{functions_of}
use Rattle.roam_text.specs.Log.{Item, Byte}
use Rattle.roam_text.specs.Resting.{AtRest}
use Rattle.roam_term.specs.Ground.{shown_at}
use Rattle.roam_term.specs.Terminal.{Live, live_after}
use Rattle.roam_grid.specs.Writing.{columns}
use Rattle.roam_repaint.specs.Repainting.{Repaint, cell_there, repainting, repaint_text}

-- a terminal that shows its main screen, without a single shift, with IRM, DECOM and DECSCNM reset and the guard off; the rest is arbitrary
pub record IsPlain (t : Live) : Type 0 where
  pub main : t.alternate ≡ false
  pub single : t.sets.single ≡ None
  pub replaces : t.modes.insert ≡ false
  pub origin : t.modes.origin ≡ false
  pub reverse : t.modes.reverse_screen ≡ false
  pub unguarded : t.pen.guarded ≡ false

-- for a pending wrap, lines wrap, and the cell at the cursor ends in the last column
pub record MayPend (r : Repaint) : Type 0 where
  pub wraps : r.wraps ≡ true
  pub whole : is_right_half (cell_there r.shot) ≡ false
  pub last : r.shot.cursor_col - 1 + columns (cell_there r.shot) ≡ r.shot.cols

-- a screen that can be painted, of a terminal's size
pub record IsRepaint (t : Live) (r : Repaint) : Type 0 where
  pub shot : IsScreenshot r.shot
  pub rows : r.shot.rows ≡ t.screen.rows
  pub cols : r.shot.cols ≡ t.screen.cols
  pub pends : r.pending ≡ true → MayPend r
  pub style : IsStyle r.style

-- the cursor's column afterwards, from 0
abbrev pub column_after : Repaint → ℕ
column_after r = if r.pending then r.shot.cols - 1 else r.shot.cursor_col - 1

-- the terminal shows the screen at each place; its cursor, pending wrap, style and DECAWM are the wanted ones; the margins are full, G0 is
-- ASCII, and all else is as before
pub record IsRepainted (t : Live) (r : Repaint) (u : Live) : Type 0 where
  pub cells : List Glyph
  pub is : u ≡ record {
    screen =
        record {
          rows = t.screen.rows;
          cols = t.screen.cols;
          cells = cells;
          row = r.shot.cursor_row - 1;
          col = column_after r;
          pending = r.pending;
          top = 0;
          bottom = t.screen.rows - 1;
          stops = t.screen.stops;
        };
    other = t.other;
    alternate = false;
    pen = record { style = r.style; guarded = false };
    modes = record t.modes { autowrap = r.wraps; cursor_visible = r.shot.visible };
    sets = record t.sets { g0 = Ascii; locked = G0 };
    saved = t.saved;
    saved_alternate = t.saved_alternate;
    printed = None;
  }
  pub places : (i j : ℕ) → i < t.screen.rows → j < t.screen.cols → cell_at t.screen.cols cells i j ≡ shown_at r.shot i j

-- from any plain terminal of the screen's size, whatever it shows
abbrev pub TextRepaints : Type 0
TextRepaints = (t : Live) (r : Repaint) → IsPlain t → IsRepaint t r → IsRepainted t r (live_after t (repainting r))

-- a reader between characters and sequences reads the text as these functions, and is between them again behind it
pub record IsRead (log : List Item) (r : Repaint) : Type 0 where
  pub functions : functions_of (log ++ map Byte (repaint_text r)) ≡ functions_of log ++ repainting r
  pub rests : AtRest (log ++ map Byte (repaint_text r))

abbrev pub TextIsRead : Type 0
TextIsRead = (t : Live) (log : List Item) (r : Repaint) → IsRepaint t r → AtRest log → IsRead log r
