-- A ground terminal, and the screen that it shows.
use Rattle.std.specs.Prelude.{◌≡◌, ℕ, ◌+◌, ◌-◌, ◌<◌, ◌≤◌, ◌&&◌, nat_lt, if◌then◌else◌, true, false, None}
use Rattle.roam_cells.specs.Glyph.{Glyph, blank}
use Rattle.roam_cells.specs.Place.{cell_at}
use Rattle.roam_screens.specs.Screenshot.{Screenshot}
use Rattle.roam_cells.specs.declared.styles.Style.{Style}
use Rattle.roam_charset.specs.declared.charsets.Charset.TheVariants.{Ascii}
use Rattle.roam_charset.specs.declared.sets.Element.TheVariants.{G0}
use Rattle.roam_term.specs.Pens.{plain_pen}
use Rattle.roam_term.specs.Terminal.{Live}

-- The main screen is shown, with the cursor on it and full margins. ASCII is in G0, G0 is invoked, and no single shift is pending. IRM,
-- DECOM and DECSCNM are reset, DECAWM is set. The style is the default, and the guard is off. Everything else is free: the other screen,
-- tab stops, the state that DECSC saved, the other sets and modes, REP's character.
pub record IsGround (t : Live) : Type 0 where
  pub main : t.alternate ≡ false
  pub row_in : t.screen.row < t.screen.rows
  pub col_in : t.screen.col < t.screen.cols
  pub top : t.screen.top ≡ 0
  pub bottom : t.screen.bottom ≡ t.screen.rows - 1
  pub ascii : t.sets.g0 ≡ Ascii
  pub locked : t.sets.locked ≡ G0
  pub single : t.sets.single ≡ None
  pub replaces : t.modes.insert ≡ false
  pub origin : t.modes.origin ≡ false
  pub reverse : t.modes.reverse_screen ≡ false
  pub wraps : t.modes.autowrap ≡ true
  pub pen : t.pen ≡ plain_pen

-- the same terminal in a style, guard off
abbrev pub in_style : Style → Live → Live
in_style g t = record t { pen = record { style = g; guarded = false } }

-- the cell of a screen at a row and a column, both from 0; outside it a blank
abbrev pub shown_at : Screenshot → ℕ → ℕ → Glyph
shown_at p r c = if (nat_lt r p.rows && nat_lt c p.cols) then cell_at p.cols p.cells r c else blank

-- the terminal has the screen's size at least; the screen's places, cursor and visibility are its own, and every place outside is blank
pub record ShowsScreen (t : Live) (p : Screenshot) : Type 0 where
  pub rows : p.rows ≤ t.screen.rows
  pub cols : p.cols ≤ t.screen.cols
  pub places : (r c : ℕ) → r < t.screen.rows → c < t.screen.cols → cell_at t.screen.cols t.screen.cells r c ≡ shown_at p r c
  pub cursor_row : t.screen.row + 1 ≡ p.cursor_row
  pub cursor_col : t.screen.col + 1 ≡ p.cursor_col
  pub visible : t.modes.cursor_visible ≡ p.visible

-- one terminal has the size of another
pub record IsSized (t u : Live) : Type 0 where
  pub rows : u.screen.rows ≡ t.screen.rows
  pub cols : u.screen.cols ≡ t.screen.cols
