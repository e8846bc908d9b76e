-- The predicted effect of a key over this screen (this project's profile, after Mosh's speculative local echo).
use Rattle.std.specs.Prelude.{ℕ, ◌+◌, ◌-◌, ◌==◌, Bool, true, false, not, ◌&&◌, ◌||◌, nat_lt, nat_le, List, [], ◌∷◌, ◌++◌, length, drop, Option, None, Some, is_some, if◌then◌else◌}
use Rattle.std.specs.Str.{bytes_eq}
use Rattle.roam_acts.specs.declared.acts.Act.{Act}
use Rattle.roam_acts.specs.declared.acts.Act.TheVariants as act
use Rattle.roam_cells.specs.Glyph.{Glyph, default_style, is_cell_text}
use Rattle.roam_cells.specs.Place.{glyph_at}
use Rattle.roam_cells.specs.Width.{width_of}
use Rattle.roam_cells.specs.declared.styles.Style.{Style}
use Rattle.roam_keys.specs.declared.keys.Key.{Key}
use Rattle.roam_keys.specs.declared.keys.Key.TheVariants as key
use Rattle.roam_screens.specs.Screenshot.{Screenshot}
use Rattle.roam_prediction.specs.Predictions.{PredictionsOf, most_predictions}
use Rattle.roam_prediction.specs.Overlay.{cursor_line, has_place, last_column}
use Rattle.roam_prediction.specs.declared.predictions.Prediction.{Prediction}
use Rattle.roam_prediction.specs.declared.predictions.Place.{Place}
use Rattle.roam_prediction.specs.declared.typed.Kind.{Kind}
use Rattle.roam_prediction.specs.declared.typed.Kind.TheVariants.{Write, Erase, Back, Forth, Other}

-- ---- acts

abbrev pub kind_of_key : Key → Kind
kind_of_key (key.Char c) = Write c
kind_of_key key.Backspace = Erase
kind_of_key key.Left = Back
kind_of_key key.Right = Forth
kind_of_key _ = Other

-- the effect of an act if it is predicted
abbrev pub kind_of : Act → Kind
kind_of (act.Key k) = kind_of_key k
kind_of _ = Other

-- ---- the row of the cursor

-- a space, in any style
abbrev pub is_space : Glyph → Bool
is_space cell = bytes_eq cell.points (32 ∷ [])

-- U+2502, the border between two panes side by side
abbrev pub is_border : Glyph → Bool
is_border cell = bytes_eq cell.points (0x2502 ∷ [])

-- there are only spaces before the border of the pane, or the end of the row
abbrev pub is_blank_to_edge : List Glyph → Bool
is_blank_to_edge [] = true
is_blank_to_edge (cell ∷ cells) = if is_space cell then is_blank_to_edge cells else is_border cell

-- two spaces, and nothing but spaces before the pane's edge
abbrev pub has_room : List Glyph → Bool
has_room [] = false
has_room (first ∷ []) = false
has_room (first ∷ second ∷ cells) = is_space first && (is_space second && is_blank_to_edge cells)

-- a column, from 1, of a pane, with a cell of one column
abbrev pub is_inside : List Glyph → ℕ → Bool
is_inside row col = has_place row col && not (is_border (glyph_at row (col - 1)))

-- ---- earlier predictions

abbrev pub place_in : Option Place → ℕ → Option Glyph
place_in None col = None
place_in (Some place) col = if place.col == col then Some place.cell else None

-- the cell that a prediction writes in a column
abbrev pub cell_in : Prediction → ℕ → Option Glyph
cell_in prediction col = place_in prediction.place col

abbrev pub or_else : Option Glyph → Option Glyph → Option Glyph
or_else None other = other
or_else (Some cell) other = Some cell

-- the last cell that is predicted in a column
abbrev pub latest : List Prediction → ℕ → Option Glyph
latest [] col = None
latest (prediction ∷ predictions) col = or_else (latest predictions col) (cell_in prediction col)

abbrev pub is_blank : Option Glyph → Bool
is_blank None = true
is_blank (Some cell) = is_space cell

-- the earlier predictions are before a column, or blank in the end
abbrev pub is_place_clear : List Prediction → Option Place → ℕ → Bool
is_place_clear all None col = true
is_place_clear all (Some place) col = nat_lt place.col col || is_blank (latest all place.col)

abbrev pub is_clear : List Prediction → Prediction → ℕ → Bool
is_clear all prediction col = is_place_clear all prediction.place col

-- no prediction leaves a character in a column or behind it
abbrev pub is_free : List Prediction → List Prediction → ℕ → Bool
is_free all [] col = true
is_free all (prediction ∷ predictions) col = is_clear all prediction col && is_free all predictions col

-- ---- a prediction

-- the cell of a character of one column
abbrev pub narrow_cell : ℕ → Style → Option Glyph
narrow_cell c style =
    if width_of c == 1 then (if is_cell_text (c ∷ []) then Some (record { points = c ∷ []; style = style; guarded = false }) else None)
    else None

abbrev pub style_or : Option Glyph → Glyph → Style
style_or None cell = cell.style
style_or (Some predicted) cell = predicted.style

-- the style of the cell left of a column within the pane, else the default
abbrev pub style_left : List Glyph → List Prediction → ℕ → Style
style_left row predictions col =
    if is_inside row (col - 1) then style_or (latest predictions (col - 1)) (glyph_at row (col - 2)) else default_style

-- other code points
abbrev pub differs : Glyph → Glyph → Bool
differs cell predicted = not (bytes_eq cell.points predicted.points)

-- the prediction of a cell in a column
abbrev pub prediction_with : ℕ → List Glyph → ℕ → Glyph → ℕ → Prediction
prediction_with number row col cell after =
    record {
      number = number;
      place = Some (record { col = col; cell = cell });
      after = after;
      credit = differs (glyph_at row (col - 1)) cell;
      since = None;
      told = None;
    }

-- the prediction that the cursor alone moves
abbrev pub moved_prediction : ℕ → ℕ → Prediction
moved_prediction number after = record { number = number; place = None; after = after; credit = false; since = None; told = None }

abbrev pub with_cell : ℕ → List Glyph → ℕ → ℕ → Option Glyph → Option Prediction
with_cell number row col after None = None
with_cell number row col after (Some cell) = Some (prediction_with number row col cell after)

-- a character may be written in a column: the rest of the row is blank and has a place more, and no half of a wide one is beside it
abbrev pub may_write : List Glyph → List Prediction → ℕ → Bool
may_write row predictions col =
    (nat_le 1 col && (nat_le col (length row) && has_room (drop (col - 1) row)))
    && (is_free predictions predictions col && (not (nat_lt 1 col) || has_place row (col - 1)))

abbrev pub written_prediction : ℕ → ℕ → List Glyph → List Prediction → ℕ → Option Prediction
written_prediction number c row predictions col =
    if may_write row predictions col then with_cell number row col (col + 1) (narrow_cell c (style_left row predictions col)) else None

-- the cursor may go to a column
abbrev pub may_go_back : List Glyph → ℕ → Bool
may_go_back row col = nat_le 2 col && is_inside row (col - 1)

-- the earlier prediction there is blank
abbrev pub erased : ℕ → List Glyph → ℕ → Option Glyph → Option Prediction
erased number row col None = Some (moved_prediction number (col - 1))
erased number row col (Some cell) = with_cell number row (col - 1) (col - 1) (narrow_cell 32 cell.style)

abbrev pub erased_prediction : ℕ → List Glyph → List Prediction → ℕ → Option Prediction
erased_prediction number row predictions col = if may_go_back row col then erased number row col (latest predictions (col - 1)) else None

abbrev pub back_prediction : ℕ → List Glyph → ℕ → Option Prediction
back_prediction number row col = if may_go_back row col then Some (moved_prediction number (col - 1)) else None

abbrev pub forth_prediction : ℕ → List Glyph → ℕ → Option Prediction
forth_prediction number row col =
    if nat_lt col (length row) && (is_inside row col && is_inside row (col + 1)) then Some (moved_prediction number (col + 1)) else None

-- the prediction of an act of a kind, with the cursor in a column of a row
abbrev pub prediction_of : ℕ → Kind → List Glyph → List Prediction → ℕ → Option Prediction
prediction_of number (Write c) row predictions col = written_prediction number c row predictions col
prediction_of number Erase row predictions col = erased_prediction number row predictions col
prediction_of number Back row predictions col = back_prediction number row col
prediction_of number Forth row predictions col = forth_prediction number row col
prediction_of number Other row predictions col = None

-- the epoch goes on, and there is room for a prediction
abbrev pub may_grow : PredictionsOf → Bool
may_grow predictions = not (is_some predictions.ends_with) && nat_lt (length predictions.list) most_predictions

abbrev pub prediction_for : ℕ → Act → Screenshot → PredictionsOf → Option Prediction
prediction_for number act s predictions =
    if may_grow predictions && s.visible
    then prediction_of number (kind_of act) (cursor_line s) predictions.list (last_column s.cursor_col predictions.list) else None

-- acts up to this one aren't predicted: the epoch ends with it
abbrev pub ended_with : ℕ → PredictionsOf → PredictionsOf
ended_with number predictions = record predictions { ends_with = Some number }

abbrev pub with_prediction_or_end : ℕ → PredictionsOf → Option Prediction → PredictionsOf
with_prediction_or_end number predictions None = ended_with number predictions
with_prediction_or_end number predictions (Some prediction) = record predictions { list = predictions.list ++ prediction ∷ [] }

-- the predictions after an act: its effect is predicted, or the epoch ends with it
abbrev pub typed_by : ℕ → Act → Screenshot → PredictionsOf → PredictionsOf
typed_by number act s predictions = with_prediction_or_end number predictions (prediction_for number act s predictions)
