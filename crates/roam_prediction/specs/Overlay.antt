-- A screen with predictions over it.
use Rattle.std.specs.Prelude.{ℕ, ◌-◌, Bool, ◌&&◌, nat_le, List, [], ◌∷◌, length, slice_set, Option, None, Some, if◌then◌else◌}
use Rattle.roam_cells.specs.Glyph.{Glyph}
use Rattle.roam_cells.specs.Place.{glyph_at, row_of}
use Rattle.roam_screens.specs.Lines.{with_cursor, with_row}
use Rattle.roam_screens.specs.Screenshot.{Screenshot}
use Rattle.roam_prediction.specs.Predictions.{PredictionsOf, are_shown, is_narrow}
use Rattle.roam_prediction.specs.declared.predictions.Prediction.{Prediction}
use Rattle.roam_prediction.specs.declared.predictions.Place.{Place}

-- true if a row has a column, from 1, with a cell of one column
abbrev pub has_place : List Glyph → ℕ → Bool
has_place row col = nat_le 1 col && (nat_le col (length row) && is_narrow (glyph_at row (col - 1)))

-- a row with a predicted cell, if it has its place
abbrev pub with_place : List Glyph → Option Place → List Glyph
with_place row None = row
with_place row (Some place) = if has_place row place.col then slice_set row (place.col - 1) place.cell else row

-- a row with all predicted cells, one after the other
abbrev pub with_predictions : List Glyph → List Prediction → List Glyph
with_predictions row [] = row
with_predictions row (prediction ∷ predictions) = with_predictions (with_place row prediction.place) predictions

-- the cursor's column after all predictions, from 1
abbrev pub last_column : ℕ → List Prediction → ℕ
last_column col [] = col
last_column col (prediction ∷ predictions) = last_column prediction.after predictions

-- a column if the screen has it, else the cursor's
abbrev pub column_in : ℕ → ℕ → ℕ → ℕ
column_in cols here col = if nat_le 1 col && nat_le col cols then col else here

-- the row of the cursor, from 0
abbrev pub cursor_line : Screenshot → List Glyph
cursor_line s = row_of s.cols s.cells (s.cursor_row - 1)

-- the screen with all predictions, in the row of the cursor alone
abbrev pub predicted : Screenshot → List Prediction → Screenshot
predicted s predictions =
    with_cursor s.cursor_row (column_in s.cols s.cursor_col (last_column s.cursor_col predictions)) s.visible
    (with_row (s.cursor_row - 1) (with_predictions (cursor_line s) predictions) s)

-- the screen with the shown predictions
abbrev pub overlay : PredictionsOf → Screenshot → Screenshot
overlay predictions s = if are_shown predictions then predicted s predictions.list else s
