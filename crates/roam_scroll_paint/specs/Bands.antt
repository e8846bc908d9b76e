-- Bands of rows that go up or down, and the control functions that move them.
use Rattle.std.specs.Prelude.{ℕ, ◌+◌, ◌-◌, ◌<◌, ◌≤◌, ◌&&◌, nat_le, nat_lt, Bool, true, false, if◌then◌else◌, List, [], ◌∷◌, ◌++◌, replicate, Option, Some, None}
use Rattle.roam_cells.specs.Glyph.{Glyph, blank}
use Rattle.roam_screens.specs.Screenshot.{Screenshot}
use Rattle.roam_text.specs.declared.functions.Function.{Function}
use Rattle.roam_text.specs.declared.functions.Function.TheVariants.{C0, C1}
use Rattle.roam_term.specs.ControlFunctions.{csi, erase_all}
use Rattle.roam_term.specs.Ground.{shown_at}
use Rattle.roam_paint.specs.Painting.{Places, same_size}
use Rattle.roam_scroll_paint.specs.declared.bands.Band.{Band}

-- a band has two rows at least, as DECSTBM wants them (VT220 Programmer Reference), and is on a screen of so many rows
pub record IsBand (rows : ℕ) (b : Band) : Type 0 where
  pub two : b.top + 1 < b.bottom
  pub inside : b.bottom ≤ rows

-- a band, if there is one, is one of so many rows
abbrev pub FitsBand : ℕ → Option Band → Type 0
FitsBand rows None = Unit {0}
FitsBand rows (Some b) = IsBand rows b

-- ---- the result

-- the row, from 0, that a row of a band shows once all its rows went up or down; none: it came in blank
abbrev pub band_source : Band → ℕ → Option ℕ
band_source b r =
    if b.up then (if nat_lt (r + b.count) b.bottom then Some (r + b.count) else None)
    else (if nat_le (b.top + b.count) r then Some (r - b.count) else None)

-- and that a row shows which may be outside the band
abbrev pub moved_source : Band → ℕ → Option ℕ
moved_source b r = if (nat_le b.top r && nat_lt r b.bottom) then band_source b r else Some r

-- the row of the old screen that a row shows before rows are drawn, by whether sizes are equal
abbrev pub source_of : Bool → Option Band → ℕ → Option ℕ
source_of false band r = None
source_of true None r = Some r
source_of true (Some b) r = moved_source b r

-- the cell of a place that takes its row from there
abbrev pub taken : Places → Option ℕ → ℕ → Glyph
taken over (Some r) c = over r c
taken over None c = blank

-- the cells under the drawn rows: the old screen after its band moved, and blanks if sizes differ
abbrev pub drawn_over : Screenshot → Screenshot → Option Band → Places
drawn_over old new band r c = taken (shown_at old) (source_of (same_size old new) band r) c

-- ---- the functions

-- the margins, of rows from 1 (DECSTBM, VT220 Programmer Reference)
abbrev pub set_margins : ℕ → ℕ → Function
set_margins top bottom = csi None (top ∷ bottom ∷ []) 0x72

-- the margins are the first and the last row, and the cursor goes home
abbrev pub reset_margins : Function
reset_margins = csi None (0 ∷ []) 0x72

-- the cursor goes to the first column of a row, from 1 (CUP with one parameter, ECMA-48 8.3.21)
abbrev pub to_row : ℕ → Function
to_row row = csi None (row ∷ []) 0x48

-- one row down, and at the bottom margin the rows between the margins go up (LF, ECMA-48 8.3.74)
abbrev pub line_feed : Function
line_feed = C0 0x0A

-- one row up, and at the top margin the rows between the margins go down (RI, ECMA-48 8.3.104)
abbrev pub reverse_index : Function
reverse_index = C1 0x8D

-- at the edge of a band so many LF or RI
abbrev pub steps : Band → List Function
steps b = if b.up then replicate b.count line_feed else replicate b.count reverse_index

-- the row of the cursor for them, from 1
abbrev pub edge_row : Band → ℕ
edge_row b = if b.up then b.bottom else b.top + 1

-- a band goes up or down
unfoldable pub moves_band : Band → List Function
moves_band b = set_margins (b.top + 1) b.bottom ∷ to_row (edge_row b) ∷ (steps b ++ reset_margins ∷ [])

abbrev pub moving : Option Band → List Function
moving None = []
moving (Some b) = moves_band b

-- the functions before all rows: a band moves, or if sizes differ all is erased
abbrev pub preparing : Bool → Option Band → List Function
preparing true band = moving band
preparing false band = erase_all ∷ []
