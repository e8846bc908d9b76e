-- A part of a screen as a screen of its own, as a terminal of another size shows it (this project's profile).
use Rattle.std.specs.Prelude.{◌≡◌, ◌≤◌, ℕ, ◌+◌, ◌-◌, min, max, Bool, true, false, ◌&&◌, ◌||◌, ◌==◌, nat_lt, nat_le, List, [], ◌∷◌, if◌then◌else◌}
use Rattle.roam_cells.specs.Glyph.{Glyph, is_wide, is_right_half, space_in, blank}
use Rattle.roam_cells.specs.Limits.{IsSize}
use Rattle.roam_cells.specs.Place.{cell_at, table}
use Rattle.roam_screens.specs.Screenshot.{Screenshot, IsScreenshot}
use Rattle.roam_viewport.specs.declared.parts.Part.{Part}

-- one of so many rows, or columns, from one on, from 0
abbrev pub is_among : ℕ → ℕ → ℕ → Bool
is_among from count at = nat_le from at && nat_lt at (from + count)

-- a part has a place, given by its row and its column, from 0
abbrev pub has_place : Part → ℕ → ℕ → Bool
has_place part r c = is_among part.row part.rows r && is_among part.col part.cols c

-- one of these parts has it
abbrev pub is_masked : List Part → ℕ → ℕ → Bool
is_masked [] r c = false
is_masked (mask ∷ masks) r c = has_place mask r c || is_masked masks r c

-- the cell at a row and a column of a screen, from 0; outside of it a blank
abbrev pub glyph_or_blank : Screenshot → ℕ → ℕ → Glyph
glyph_or_blank s r c = if nat_lt r s.rows && nat_lt c s.cols then cell_at s.cols s.cells r c else blank

-- a cell whose left or right neighbour may be outside: a wide character that is cut in two becomes a space in its style
abbrev pub cut_glyph : Bool → Bool → Glyph → Glyph
cut_glyph left right g = if (left && is_right_half g) || (right && is_wide g) then space_in g else g

-- the place before a column of a row is left out, and the one behind it
abbrev pub is_left_out : List Part → ℕ → ℕ → Bool
is_left_out masks r c = c == 0 || is_masked masks r (c - 1)

abbrev pub is_right_out : ℕ → List Part → ℕ → ℕ → Bool
is_right_out cols masks r c = c + 1 == cols || is_masked masks r (c + 1)

-- the cell at a row and a column of a part, from 0: the screen's cell at that place; a masked cell is blank
abbrev pub part_at : Part → List Part → Screenshot → ℕ → ℕ → Glyph
part_at part masks s r c =
    if is_masked masks r c then blank
    else cut_glyph (is_left_out masks r c) (is_right_out part.cols masks r c) (glyph_or_blank s (part.row + r) (part.col + c))

-- the cursor's row or column, from 1, in a part of so many from one on; a cursor that is outside goes to the edge
abbrev pub cursor_in : ℕ → ℕ → ℕ → ℕ
cursor_in from count at = max 1 (min count (at - from))

-- whether it is inside
abbrev pub is_inside : ℕ → ℕ → ℕ → Bool
is_inside from count at = nat_lt from at && nat_le at (from + count)

-- a part of a screen; the cursor is hidden if it is outside
abbrev pub part_of : Part → List Part → Screenshot → Screenshot
part_of part masks s =
    record {
      rows = part.rows;
      cols = part.cols;
      cells = table part.rows part.cols (part_at part masks s);
      cursor_row = cursor_in part.row part.rows s.cursor_row;
      cursor_col = cursor_in part.col part.cols s.cursor_col;
      visible = s.visible && (is_inside part.row part.rows s.cursor_row && is_inside part.col part.cols s.cursor_col);
    }

-- ---- the part with the cursor

-- The beginning of a part of so many that has the cursor, by its old beginning and the length of the screen. The beginning stays if it is
-- within the screen and the part has the cursor; else it moves as little as possible.
abbrev pub following : ℕ → ℕ → ℕ → ℕ → ℕ
following from count all at = max (at - count) (min (at - 1) (min from (all - count)))

-- the part with the cursor, moved as little as keeps that inside
abbrev pub followed : Part → Screenshot → Part
followed part s =
    record part {
      row = following part.row part.rows s.rows s.cursor_row;
      col = following part.col part.cols s.cols s.cursor_col;
    }

-- ---- the laws

-- The part with the cursor has it, row and column.
abbrev pub FollowedHasCursor : Type 0
FollowedHasCursor =
    (part : Part) (s : Screenshot) → IsSize part.rows part.cols → IsScreenshot s
    → (is_inside (followed part s).row part.rows s.cursor_row ≡ true) × (is_inside (followed part s).col part.cols s.cursor_col ≡ true)

-- how far one number is from another
abbrev pub distance : ℕ → ℕ → ℕ
distance a b = (a - b) + (b - a)

-- It moves as little as possible: no other beginning that has the cursor is nearer to one within the screen.
abbrev pub FollowedIsNear : Type 0
FollowedIsNear =
    (from count all at other : ℕ) → from ≤ all - count → 1 ≤ at → at ≤ all → is_inside other count at ≡ true
    → distance (following from count all at) from ≤ distance other from

-- The part that is the whole screen, with nothing masked, is the screen.
abbrev pub WholeIsScreen : Type 0
WholeIsScreen = (s : Screenshot) → IsScreenshot s → part_of (record { row = 0; col = 0; rows = s.rows; cols = s.cols }) [] s ≡ s
