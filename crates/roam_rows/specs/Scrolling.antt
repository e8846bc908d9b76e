-- Rows that move up and down.
use Rattle.std.specs.Prelude.{ℕ, ◌+◌, ◌-◌, ◌&&◌, nat_le, min, if◌then◌else◌}
use Rattle.roam_cells.specs.Glyph.{blank}
use Rattle.roam_rows.specs.Places.{Source, From, Fresh}
use Rattle.roam_rows.specs.Rows.{Rows, mapped_rows}
use Rattle.roam_rows.specs.Turned.{brought_back}

-- the rows from top to bottom go n rows up, and blank ones come in below (SU, ECMA-48 8.3.147; DL, 8.3.32)
abbrev pub up : ℕ → ℕ → ℕ → ℕ → ℕ → Source
up top bottom n r c =
    if (nat_le top r && nat_le r bottom) then (if nat_le (r + n) bottom then From (r + n) c else Fresh blank)
    else From r c

-- the rows from top to bottom go n rows down, and blank ones come in above (SD, ECMA-48 8.3.113; IL, 8.3.67)
abbrev pub down : ℕ → ℕ → ℕ → ℕ → ℕ → Source
down top bottom n r c =
    if (nat_le top r && nat_le r bottom) then (if nat_le (top + n) r then From (r - n) c else Fresh blank)
    else From r c

-- the place of the first row after n rows have left at the top, and after n have come in there
abbrev pub turned_up : ℕ → ℕ → ℕ → ℕ
turned_up rows n first = brought_back rows (first + min n rows)

abbrev pub turned_down : ℕ → ℕ → ℕ → ℕ
turned_down rows n first = brought_back rows (first + (rows - min n rows))

-- all rows go up by n, and begin n rows later in the buffer
abbrev pub all_up : ℕ → Rows → Rows
all_up n v = record (mapped_rows (up 0 (v.rows - 1) n) v) { first = turned_up v.rows n v.first }

-- all rows go down by n, and begin n rows earlier in the buffer
abbrev pub all_down : ℕ → Rows → Rows
all_down n v = record (mapped_rows (down 0 (v.rows - 1) n) v) { first = turned_down v.rows n v.first }
