-- The test that a value is a screen that can be shown, in a form that computes.
use Rattle.std.specs.Prelude.{ℕ, zero, suc, ◌+◌, ◌-◌, ◌*◌, Bool, true, ◌&&◌, ◌==◌, nat_le, nat_lt, not, length, List, if◌then◌else◌}
use Rattle.std.specs.List.{list_all}
use Rattle.roam_cells.specs.Glyph.{Glyph, is_wide, is_right_half, right_of, is_text}
use Rattle.roam_cells.specs.Limits.{least_rows, most_rows, least_columns, most_columns, most_old_rows, most_old_columns}
use Rattle.roam_screens.specs.Narrow.{is_plain_style}
use Rattle.roam_cells.specs.Place.{cell_at}
use Rattle.roam_screens.specs.Screenshot.{Screenshot}
use Rattle.roam_update.specs.CellText.{is_scalar, is_style}
use Rattle.roam_cells.specs.Same.{same}

-- whether a test answers yes for each number below n
unfoldable pub all_below : ℕ → (ℕ → Bool) → Bool
all_below zero test = true
all_below (suc n) test = all_below n test && test n

-- whether a screen may have this size
abbrev pub is_size : ℕ → ℕ → Bool
is_size rows cols = nat_le least_rows rows && (nat_le rows most_rows && (nat_le least_columns cols && nat_le cols most_columns))

-- whether a screen of this size has the row and the column, both from 1
abbrev pub is_place : ℕ → ℕ → ℕ → ℕ → Bool
is_place rows cols row col = nat_le 1 row && (nat_le row rows && (nat_le 1 col && nat_le col cols))

-- whether a wide cell there is followed by its right half, and a right half there follows a wide cell
abbrev pub is_whole_at : ℕ → (ℕ → Glyph) → ℕ → Bool
is_whole_at cols at c =
    if is_wide (at c) then nat_lt (c + 1) cols && same (at (c + 1)) (right_of (at c))
    else if is_right_half (at c) then nat_lt 0 c && is_wide (at (c - 1))
    else true

-- whether each row has whole characters
abbrev pub are_whole : ℕ → ℕ → List Glyph → Bool
are_whole rows cols cells = all_below rows (λ r. all_below cols (λ c. is_whole_at cols (cell_at cols cells r) c))

-- whether it is what some cell shows, and has no guard
abbrev pub is_plain : Glyph → Bool
is_plain g = is_text g.points && (list_all is_scalar g.points && (is_style g.style && not g.guarded))

-- true if a value meets the facts about each screen that is shown
abbrev pub is_screenshot : Screenshot → Bool
is_screenshot s =
    is_size s.rows s.cols
    && (is_place s.rows s.cols s.cursor_row s.cursor_col
    && ((length s.cells == s.rows * s.cols) && (are_whole s.rows s.cols s.cells && list_all is_plain s.cells)))

-- whether it is a screen of version 1
abbrev pub is_old_screenshot : Screenshot → Bool
is_old_screenshot s =
    is_screenshot s
    && (nat_le s.rows most_old_rows && (nat_le s.cols most_old_columns && list_all (λ (g : Glyph). is_plain_style g.style) s.cells))
