-- Worked rows of the cursor, the first row and the tab stops compute from the definitions. Those of cells are in the tests, since a
-- character's width is opaque here.
use Rattle.std.proofs.Common.{◌≡◌, ℕ, true, false, refl}
use Rattle.std.specs.Prelude.{slice_index_or}
use Rattle.roam_grid.specs.Tabs.{start_stops}
use Rattle.roam_grid.specs.Screen.{start}
use Rattle.roam_grid.specs.Scrolling.{with_margins, first_scrolled_up, first_scrolled_down}
use Rattle.roam_grid.specs.Cursor.{moved_to, moved_up, moved_down}
use Rattle.roam_grid.specs.Writing.{leaves_row}

pub once : ℕ → ℕ
unfolding first_scrolled_up
once first = first_scrolled_up 1 (start 3 8) first

-- a screen of 3 rows scrolled up by 1 five times begins with row 2 of the buffer
pub five_scrolls : once (once (once (once (once 0)))) ≡ 2
unfolding once first_scrolled_up
five_scrolls = refl

-- scrolled down by 1, a screen begins with the last row of the buffer; scrolled by more rows than it has, with the first
pub one_back : first_scrolled_down 1 (start 3 8) 0 ≡ 2
unfolding first_scrolled_down
one_back = refl

pub all_out : first_scrolled_up 9999 (start 3 8) 1 ≡ 1
unfolding first_scrolled_up
all_out = refl

-- within margins the first row stays
pub margins_keep : first_scrolled_up 1 (with_margins 0 1 (start 3 8)) 1 ≡ 1
unfolding first_scrolled_up with_margins
margins_keep = refl

-- CUD from above the bottom margin stops there, and from below it at the last row
pub down_to_margin : (moved_down 9999 (with_margins 1 3 (start 6 8))).row ≡ 3
unfolding moved_down with_margins
down_to_margin = refl

pub down_to_last : (moved_down 9999 (moved_to 4 0 (with_margins 1 3 (start 6 8)))).row ≡ 5
unfolding moved_down moved_to with_margins
down_to_last = refl

-- CUU from above the top margin stops at the first row
pub up_to_first : (moved_up 9999 (moved_to 1 0 (with_margins 2 4 (start 6 8)))).row ≡ 0
unfolding moved_up moved_to with_margins
up_to_first = refl

-- CUP past the edges stops at the last row and column
pub past_edges : (moved_to 99998 99998 (start 2 8)).row ≡ 1
unfolding moved_to
past_edges = refl

-- a wide cell in the last column of the bottom margin scrolls a row out, but not without DECAWM
pub wide_leaves : leaves_row 2 (record { wraps = true; inserts = false }) (moved_to 1 7 (start 2 8)) ≡ true
unfolding leaves_row moved_to
wide_leaves = refl

pub wide_stays : leaves_row 2 (record { wraps = false; inserts = false }) (moved_to 1 7 (start 2 8)) ≡ false
unfolding leaves_row moved_to
wide_stays = refl

-- there are tab stops at columns 9 and 249, counted from 1, and none at 1 and 10
pub ninth : slice_index_or start_stops 8 false ≡ true
unfolding start_stops
ninth = refl

pub last_stop : slice_index_or start_stops 248 false ≡ true
unfolding start_stops
last_stop = refl

pub no_first : slice_index_or start_stops 0 false ≡ false
unfolding start_stops
no_first = refl

pub no_tenth : slice_index_or start_stops 9 false ≡ false
unfolding start_stops
no_tenth = refl
