-- Tab stops, and moves to them. Stops are kept for columns 1 to 500, from 0 here, whatever the width of the screen.
use Rattle.std.specs.Prelude.{ℕ, zero, suc, ◌+◌, ◌-◌, ◌%◌, Bool, false, ◌&&◌, ◌==◌, nat_lt, List, map, slice_index_or, if◌then◌else◌}
use Rattle.roam_cells.specs.Limits.{most_columns}
use Rattle.std.specs.List.{range_with_len}

-- true if a column, from 0, has a tab stop at the start: columns 9, 17, 25 and so on, counted from 1 (VT220 Programmer Reference, tab
-- stops)
abbrev pub is_start_stop : ℕ → Bool
is_start_stop c = nat_lt 0 c && (c % 8 == 0)

-- the tab stops at the start, of 500 columns whatever the width of the screen
unfoldable pub start_stops : List Bool
start_stops = map is_start_stop (range_with_len 0 most_columns)

-- the first column from c on that has a stop, among n columns; else the one after them
unfoldable pub stop_from : ℕ → ℕ → List Bool → ℕ
stop_from zero c stops = c
stop_from (suc n) c stops = if slice_index_or stops c false then c else stop_from n (c + 1) stops

-- the next stop after a column, at most the last column
abbrev pub next_stop : ℕ → List Bool → ℕ → ℕ
next_stop last stops c = if nat_lt c last then stop_from (last - (c + 1)) (c + 1) stops else c

-- the last column before c that has a stop, else the first column
unfoldable pub stop_before : ℕ → List Bool → ℕ
stop_before zero stops = 0
stop_before (suc c) stops = if slice_index_or stops c false then c else stop_before c stops

-- n stops on
unfoldable pub stops_on : ℕ → ℕ → List Bool → ℕ → ℕ
stops_on zero last stops c = c
stops_on (suc n) last stops c = stops_on n last stops (next_stop last stops c)

-- n stops back
unfoldable pub stops_back : ℕ → List Bool → ℕ → ℕ
stops_back zero stops c = c
stops_back (suc n) stops c = stops_back n stops (stop_before c stops)
