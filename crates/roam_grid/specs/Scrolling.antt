-- Scrolls between the margins, and the margins.
use Rattle.std.specs.Prelude.{ℕ, if◌then◌else◌}
use Rattle.roam_rows.specs.Scrolling.{up, down, turned_up, turned_down}
use Rattle.roam_grid.specs.Screen.{Screen, mapped_screen, has_full_margins}

-- the rows between the margins go up by n (SU, ECMA-48 8.3.147)
unfoldable pub scrolled_up : ℕ → Screen → Screen
scrolled_up n s = mapped_screen (up s.top s.bottom n) s

-- the rows between the margins go down by n (SD, ECMA-48 8.3.113)
unfoldable pub scrolled_down : ℕ → Screen → Screen
scrolled_down n s = mapped_screen (down s.top s.bottom n) s

-- the place of the first row after a scroll up or down by n: only with full margins it goes on or back
unfoldable pub first_scrolled_up : ℕ → Screen → ℕ → ℕ
first_scrolled_up n s first = if has_full_margins s then turned_up s.rows n first else first

unfoldable pub first_scrolled_down : ℕ → Screen → ℕ → ℕ
first_scrolled_down n s first = if has_full_margins s then turned_down s.rows n first else first

-- other margins, of rows from 0 (DECSTBM, VT220 Programmer Reference)
unfoldable pub with_margins : ℕ → ℕ → Screen → Screen
with_margins top bottom s = record s { top = top; bottom = bottom }
