-- Rows brought to another size.
use Rattle.std.specs.Prelude.{◌≡◌, ℕ, ◌+◌, ◌&&◌, nat_lt, if◌then◌else◌}
use Rattle.roam_cells.specs.Glyph.{blank}
use Rattle.roam_cells.specs.Place.{table}
use Rattle.roam_rows.specs.Places.{Source, From, Fresh, recast_at}
use Rattle.roam_rows.specs.Rows.{Rows, blank_rows}
use Rattle.roam_rows.specs.declared.sizing.Fitted.TheInside.{Inside}

-- a number of rows and of columns
pub record Size : Type 0 where
  pub rows : ℕ
  pub cols : ℕ

-- after so many rows have left at the top, each place takes the cell of its row and column; places that come in are blank
abbrev pub kept_places : ℕ → ℕ → ℕ → ℕ → ℕ → Source
kept_places rows cols off r c = if (nat_lt (r + off) rows && nat_lt c cols) then From (r + off) c else Fresh blank

-- rows of another size, after `off` of them have left at the top; they begin with the buffer's first row (this project's profile)
abbrev pub sized_rows : ℕ → ℕ → ℕ → Rows → Rows
sized_rows rows cols off v =
    record {
      rows = rows;
      cols = cols;
      cells = table rows cols (recast_at cols v.cols v.cells (kept_places v.rows v.cols off));
      first = 0;
    }

abbrev pub size_of : Inside → Size
size_of a = record { rows = a.ring.rows; cols = a.ring.cols }

-- nothing is written in the rows yet
pub record IsFresh (a : Inside) : Type 0 where
  pub blank : a.ring ≡ blank_rows a.ring.rows a.ring.cols
