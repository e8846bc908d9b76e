-- Marks: the rows of the screen that may show something else than when the marks were last cleared. There is a flag for each of 200 rows
-- from 0, whatever the number of rows. A call marks the rows that have a place which doesn't take itself (this project's profile).
use Rattle.std.specs.Prelude.{ℕ, ◌+◌, ◌-◌, Bool, true, false, not, ◌&&◌, ◌||◌, ◌==◌, nat_lt, nat_le, List, [], ◌∷◌, ◌++◌, map, replicate, slice_index_or, slice_range, if◌then◌else◌}
use Rattle.std.specs.List.{range_with_len, list_any}
use Rattle.roam_cells.specs.Limits.{most_rows}
use Rattle.roam_cells.specs.Glyph.{Glyph, is_cell_text}
use Rattle.roam_cells.specs.Place.{cell_at, row_of}
use Rattle.roam_rows.specs.Writing.{base_column}
use Rattle.roam_grid.specs.Screen.{Screen}
use Rattle.roam_grid.specs.Editing.{is_between_margins}
use Rattle.roam_grid.specs.Erasing.{line_from, line_to, page_from, page_to}
use Rattle.roam_grid.specs.Writing.{columns, wrap_done, with_room, put_on}
use Rattle.roam_cells.specs.declared.extents.Extent.{Extent}
use Rattle.roam_grid.specs.declared.writing.Writing.{Writing}

-- whether a row is marked
abbrev pub is_marked : List Bool → ℕ → Bool
is_marked marks r = slice_index_or marks r false

-- every mark is on
unfoldable pub all_on : List Bool
all_on = replicate most_rows true

-- every mark is off
unfoldable pub all_off : List Bool
all_off = replicate most_rows false

-- the rows that a test names are marked too
unfoldable pub also_marked : (ℕ → Bool) → List Bool → List Bool
also_marked names marks = map (λ r. is_marked marks r || names r) (range_with_len 0 most_rows)

-- one row is marked too
abbrev pub row_marked : ℕ → List Bool → List Bool
row_marked row marks = also_marked (λ r. r == row) marks

-- the rows from one on and before another are marked too
abbrev pub rows_marked : ℕ → ℕ → List Bool → List Bool
rows_marked from to marks = also_marked (λ r. nat_le from r && nat_lt r to) marks

-- the same if they move by n; for 0 none moves
abbrev pub moved_marked : ℕ → ℕ → ℕ → List Bool → List Bool
moved_marked n from to marks = if (n == 0) then marks else rows_marked from to marks

-- SU, SD: the rows between the margins
abbrev pub marks_scrolled : ℕ → Screen → List Bool → List Bool
marks_scrolled n s marks = moved_marked n s.top (s.bottom + 1) marks

-- IND: the rows between the margins if they go up
unfoldable pub marks_indexed : Screen → List Bool → List Bool
marks_indexed s marks = if (s.row == s.bottom) then marks_scrolled 1 s marks else marks

-- RI: the rows between the margins if they go down
abbrev pub marks_reverse_indexed : Screen → List Bool → List Bool
marks_reverse_indexed s marks = if (s.row == s.top) then marks_scrolled 1 s marks else marks

-- ICH, DCH: the cursor's row
abbrev pub marks_cells_moved : ℕ → Screen → List Bool → List Bool
marks_cells_moved n s marks = moved_marked n s.row (s.row + 1) marks

-- IL, DL: between the margins the rows from the cursor's to the bottom margin
abbrev pub marks_lines_moved : ℕ → Screen → List Bool → List Bool
marks_lines_moved n s marks = if is_between_margins s then moved_marked n s.row (s.bottom + 1) marks else marks

-- ECH, EL: the cursor's row
abbrev pub marks_in_line : Screen → List Bool → List Bool
marks_in_line s marks = row_marked s.row marks

-- ED: the cursor's row and the rows that the extent names whole
abbrev pub marks_erased_in_page : Extent → Screen → List Bool → List Bool
marks_erased_in_page extent s marks = rows_marked (page_from extent s.row) (page_to extent s.rows s.row) (row_marked s.row marks)

-- whether some cell isn't guarded
abbrev pub is_some_unguarded : List Glyph → Bool
is_some_unguarded cells = list_any (λ (g : Glyph). not g.guarded) cells

-- whether a row has an unguarded cell in the columns from one on and before another
abbrev pub has_unguarded : ℕ → List Glyph → ℕ → ℕ → ℕ → Bool
has_unguarded cols cells r from to = is_some_unguarded (slice_range (row_of cols cells r) from to)

-- of the rows from one on and before another those are marked too that have an unguarded cell in such columns
unfoldable pub unguarded_marked : ℕ → List Glyph → ℕ → ℕ → ℕ → ℕ → List Bool → List Bool
unguarded_marked cols cells top bottom from to marks =
    also_marked (λ r. nat_le top r && nat_lt r bottom && has_unguarded cols cells r from to) marks

-- DECSEL: the cursor's row, if a cell goes
abbrev pub marks_erased_selectively_in_line : Extent → Screen → List Bool → List Bool
marks_erased_selectively_in_line extent s marks =
    unguarded_marked s.cols s.cells s.row (s.row + 1) (line_from extent s.col) (line_to extent s.cols s.col) marks

-- DECSED: the cursor's row and the rows that the extent names whole, each if a cell goes
abbrev pub marks_erased_selectively_in_page : Extent → Screen → List Bool → List Bool
marks_erased_selectively_in_page extent s marks =
    unguarded_marked s.cols s.cells (page_from extent s.row) (page_to extent s.rows s.row) 0 s.cols
    (marks_erased_selectively_in_line extent s marks)

-- a pending wrap is done: the rows that go up for it
unfoldable pub marks_settled : Screen → List Bool → List Bool
marks_settled s marks = if s.pending then marks_indexed s marks else marks

-- a cell of two columns in the last column goes to the next row: the rows that go up for it
abbrev pub marks_with_room : ℕ → Writing → Screen → List Bool → List Bool
marks_with_room width w s marks = if ((width == 2) && (s.col + 1 == s.cols) && w.wraps) then marks_indexed s marks else marks

-- a cell is written: the rows that go up before, and the row that it is written in
unfoldable pub marks_put : Glyph → Writing → Screen → List Bool → List Bool
marks_put x w s marks =
    row_marked (with_room (columns x) w (wrap_done s)).row
    (marks_with_room (columns x) w (wrap_done s) (marks_settled s marks))

-- cells are written one after another
unfoldable pub marks_put_all : List Glyph → Writing → Screen → List Bool → List Bool
marks_put_all [] w s marks = marks
marks_put_all (x ∷ xs) w s marks = marks_put_all xs w (put_on x w s) (marks_put x w s marks)

-- whether a code point joins the character that a column of the cursor's row is part of
abbrev pub joins : ℕ → ℕ → Screen → Bool
joins col c s = is_cell_text ((cell_at s.cols s.cells s.row (base_column s.cols s.cells s.row col)).points ++ c ∷ [])

-- the cursor's row, if it joins
abbrev pub marks_joined_in : ℕ → ℕ → Screen → List Bool → List Bool
marks_joined_in col c s marks = also_marked (λ r. (r == s.row) && joins col c s) marks

-- a character of width 0: the cursor's row, if it joins a cell
unfoldable pub marks_joined : ℕ → Screen → List Bool → List Bool
marks_joined c s marks =
    if s.pending then marks_joined_in s.col c s marks
    else if (s.col == 0) then marks
    else marks_joined_in (s.col - 1) c s marks
