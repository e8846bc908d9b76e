-- Worked rows, each computed from the definitions.
use Rattle.std.proofs.Common.{◌≡◌, true, false, [], ◌∷◌, refl}
use Rattle.roam_rows.specs.Row.{Column, Fresh, are_neighbours}
use Rattle.roam_rows.specs.Places.{From, in_row}
use Rattle.roam_rows.specs.Places as places
use Rattle.roam_rows.specs.Turned.{in_order}
use Rattle.roam_rows.specs.Writing.{written_run}
use Rattle.roam_rows.specs.Erasing.{erasure_source, rows_blanked}
use Rattle.roam_rows.specs.Editing.{insertion_source, deletion_source}
use Rattle.roam_rows.specs.Scrolling.{up, down, turned_up, turned_down}
use Rattle.roam_rows.specs.Sizing.{kept_places}
use Rattle.roam_cells.specs.Glyph.{Glyph, blank, default_style}

-- `x`, in the default style
x : Glyph
x = record { points = 120 ∷ []; style = default_style; guarded = false }

second_of_a_run : written_run (x ∷ blank ∷ []) 3 4 ≡ Fresh blank
second_of_a_run = refl

past_a_run : written_run (x ∷ blank ∷ []) 3 5 ≡ Column 5
past_a_run = refl

last_erased : erasure_source 2 5 4 ≡ Fresh blank
last_erased = refl

first_left : erasure_source 2 5 5 ≡ Column 5
first_left = refl

moved_right : insertion_source 3 2 6 ≡ Column 4
moved_right = refl

came_in : insertion_source 3 2 4 ≡ Fresh blank
came_in = refl

moved_left : deletion_source 8 2 3 4 ≡ Column 7
moved_left = refl

came_in_at_the_edge : deletion_source 8 2 3 5 ≡ Fresh blank
came_in_at_the_edge = refl

a_column_and_the_next : are_neighbours (Column 2) (Column 3) ≡ true
a_column_and_the_next = refl

a_column_and_a_new_cell : are_neighbours (Column 2) (Fresh x) ≡ false
a_column_and_a_new_cell = refl

last_row_between_margins : up 1 3 1 3 0 ≡ places.Fresh blank
last_row_between_margins = refl

below_the_margin : up 1 3 1 4 0 ≡ From 4 0
below_the_margin = refl

first_row_between_margins : down 1 3 2 3 5 ≡ From 1 5
first_row_between_margins = refl

blank_row : rows_blanked 1 3 2 7 ≡ places.Fresh blank
blank_row = refl

other_row : in_row 1 (erasure_source 0 8) 2 7 ≡ From 2 7
other_row = refl

up_and_round : turned_up 3 2 2 ≡ 1
up_and_round = refl

all_the_way_up : turned_up 3 9999 2 ≡ 2
all_the_way_up = refl

down_and_round : turned_down 3 1 0 ≡ 2
down_and_round = refl

two_rows_turned : in_order 2 1 (x ∷ x ∷ blank ∷ blank ∷ []) ≡ blank ∷ blank ∷ x ∷ x ∷ []
two_rows_turned = refl

after_two_have_left : kept_places 4 8 2 1 7 ≡ From 3 7
after_two_have_left = refl

a_new_column : kept_places 4 8 0 1 8 ≡ places.Fresh blank
a_new_column = refl
