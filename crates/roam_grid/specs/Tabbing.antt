-- The effect of tabs on a screen.
use Rattle.std.specs.Prelude.{ℕ, ◌-◌, true, false, replicate, slice_set}
use Rattle.roam_cells.specs.Limits.{most_columns}
use Rattle.roam_grid.specs.Screen.{Screen}
use Rattle.roam_grid.specs.Tabs.{stops_on, stops_back}

-- to the nth stop after the cursor, else to the last column (HT, ECMA-48 8.3.60; CHT, 8.3.10)
unfoldable pub after_tabs : ℕ → Screen → Screen
after_tabs n s = record s { col = stops_on n (s.cols - 1) s.stops s.col; pending = false }

-- to the nth stop before the cursor, else to the first column (CBT, ECMA-48 8.3.7)
unfoldable pub after_back_tabs : ℕ → Screen → Screen
after_back_tabs n s = record s { col = stops_back n s.stops s.col; pending = false }

-- a stop in the cursor's column (HTS, ECMA-48 8.3.62)
unfoldable pub stop_set : Screen → Screen
stop_set s = record s { stops = slice_set s.stops s.col true }

-- none in the cursor's column (TBC, ECMA-48 8.3.154)
unfoldable pub stop_cleared : Screen → Screen
stop_cleared s = record s { stops = slice_set s.stops s.col false }

-- none at all (TBC)
unfoldable pub stops_cleared : Screen → Screen
stops_cleared s = record s { stops = replicate most_columns false }
