-- Predictions whose cells are underlined (SGR 4, ECMA-48 8.3.117).
use Rattle.std.specs.Prelude.{true, map, Option, None, Some, if◌then◌else◌}
use Rattle.roam_cells.specs.Glyph.{Glyph, is_cell_text}
use Rattle.roam_prediction.specs.Predictions.{PredictionsOf}
use Rattle.roam_prediction.specs.declared.predictions.Prediction.{Prediction}
use Rattle.roam_prediction.specs.declared.predictions.Place.{Place}

-- a cell that has code points, underlined
abbrev pub underlined_cell : Glyph → Glyph
underlined_cell cell = if is_cell_text cell.points then record cell { style = record cell.style { underline = true } } else cell

abbrev pub underlined_place : Option Place → Option Place
underlined_place None = None
underlined_place (Some place) = Some (record place { cell = underlined_cell place.cell })

-- a prediction, its cell underlined
abbrev pub underlined_prediction : Prediction → Prediction
underlined_prediction prediction = record prediction { place = underlined_place prediction.place }

-- the same predictions, their cells underlined
abbrev pub underlined : PredictionsOf → PredictionsOf
underlined predictions = record predictions { list = map underlined_prediction predictions.list }
