-- The facts about the kept predictions.
use Rattle.std.proofs.Common.{◌≡◌, ℕ, ◌+◌, Bool, true, false, cond, eqb, List, [], ◌∷◌, length, map, Option, Some, None, refl, ap}
use Rattle.std.specs.Prelude.{All, IfSome, is_some, nat_lt, not, ◌&&◌, ◌||◌}
use Rattle.std.proofs.lemmas.List.Elements.{All-cons, All-head, All-nil, All-tail}
use Rattle.std.proofs.lemmas.Bool.{eqb-true}
use Rattle.std.proofs.lemmas.List.{length-map}
use Rattle.roam_cells.specs.Glyph.{Glyph, is_cell_text}
use Rattle.roam_cells.specs.Width.{width_of}
use Rattle.roam_cells.specs.declared.styles.Style.{Style}
use Rattle.roam_prediction.specs.Predictions.{IsPrediction, MayStand, is_narrow}
use Rattle.roam_prediction.specs.Typing.{may_write, narrow_cell, style_left, with_cell, written_prediction}
use Rattle.roam_prediction.specs.Underlined.{underlined_prediction, underlined_place}
use Rattle.roam_prediction.specs.Verdicts.{counts, with_since, with_told}
use Rattle.roam_prediction.specs.declared.predictions.Place.{Place}
use Rattle.roam_prediction.specs.declared.predictions.Prediction.{Prediction}
use Rattle.roam_prediction.specs.declared.predictions.Moment.{Moment}

-- ---- a cell that is written

record IsNarrow (cell : Glyph) : Type 0 where
  narrow : is_narrow cell ≡ true
  unguarded : cell.guarded ≡ false

narrow_by : (c : ℕ) (style : Style) (one text : Bool) → eqb (width_of c) 1 ≡ one
    → IfSome (cond one (cond text (Some (record { points = c ∷ []; style = style; guarded = false })) None) None) IsNarrow
narrow_by c style false text e = tt
narrow_by c style true false e = tt
narrow_by c style true true e =
    let one : width_of c ≡ 1 = eqb-true (width_of c) 1 e in
    record { narrow = ap (λ (n : ℕ). not (eqb n 2) && true) one; unguarded = refl }

cell_narrow : (c : ℕ) (style : Style) → IfSome (narrow_cell c style) IsNarrow
cell_narrow c style = narrow_by c style (eqb (width_of c) 1) (is_cell_text (c ∷ [])) refl

with_cell_kept : (number : ℕ) (row : List Glyph) (col after : ℕ) (cell : Option Glyph) → IfSome cell IsNarrow
    → IfSome (with_cell number row col after cell) IsPrediction
with_cell_kept number row col after None h = tt
with_cell_kept number row col after (Some cell) h = record { narrow = h.narrow; unguarded = h.unguarded }

written_by : (b : Bool) (number c : ℕ) (row : List Glyph) (predictions : List Prediction) (col : ℕ)
    → IfSome (cond b (with_cell number row col (col + 1) (narrow_cell c (style_left row predictions col))) None) IsPrediction
written_by false number c row predictions col = tt
written_by true number c row predictions col =
    with_cell_kept number row col (col + 1) (narrow_cell c (style_left row predictions col)) (cell_narrow c (style_left row predictions col))

pub written_kept : (number c : ℕ) (row : List Glyph) (predictions : List Prediction) (col : ℕ)
    → IfSome (written_prediction number c row predictions col) IsPrediction
written_kept number c row predictions col = written_by (may_write row predictions col) number c row predictions col

-- ---- the notes of a prediction

noted_by : (b d : Bool) (now : ℕ) (prediction : Prediction) → IsPrediction prediction
    → IsPrediction (cond b prediction (cond d (record prediction { told = Some now }) prediction))
noted_by true d now prediction h = h
noted_by false true now prediction h = h
noted_by false false now prediction h = h

pub noted_kept : (moment : Moment) (predictions : List Prediction) → All IsPrediction predictions → All IsPrediction (map (with_told moment) predictions)
noted_kept moment [] all = All-nil IsPrediction
noted_kept moment (prediction ∷ predictions) all =
    All-cons IsPrediction (with_told moment prediction) (map (with_told moment) predictions)
    (noted_by (is_some prediction.told) (counts moment prediction) moment.at prediction (All-head IsPrediction prediction predictions all))
    (noted_kept moment predictions (All-tail IsPrediction prediction predictions all))

pub noted_length : (moment : Moment) (predictions : List Prediction) → length (map (with_told moment) predictions) ≡ length predictions
noted_length moment predictions = length-map predictions (with_told moment)

since_by : (b : Bool) (now : ℕ) (prediction : Prediction) → IsPrediction prediction → IsPrediction (cond b prediction (record prediction { since = Some now }))
since_by true now prediction h = h
since_by false now prediction h = h

pub waiting_kept : (now : ℕ) (predictions : List Prediction) → All IsPrediction predictions → All IsPrediction (map (with_since now) predictions)
waiting_kept now [] all = All-nil IsPrediction
waiting_kept now (prediction ∷ predictions) all =
    All-cons IsPrediction (with_since now prediction) (map (with_since now) predictions)
    (since_by (is_some prediction.since) now prediction (All-head IsPrediction prediction predictions all))
    (waiting_kept now predictions (All-tail IsPrediction prediction predictions all))

pub waiting_length : (now : ℕ) (predictions : List Prediction) → length (map (with_since now) predictions) ≡ length predictions
waiting_length now predictions = length-map predictions (with_since now)

-- ---- underlined

stands_by : (b : Bool) (place : Place) → MayStand place
    → MayStand (record place { cell = cond b (record place.cell { style = record place.cell.style { underline = true } }) place.cell })
stands_by true place h = record { narrow = h.narrow; unguarded = h.unguarded }
stands_by false place h = h

place_stands : (place : Option Place) → IfSome place MayStand → IfSome (underlined_place place) MayStand
place_stands None h = tt
place_stands (Some place) h = stands_by (is_cell_text place.cell.points) place h

pub underlined_kept : (predictions : List Prediction) → All IsPrediction predictions → All IsPrediction (map underlined_prediction predictions)
underlined_kept [] all = All-nil IsPrediction
underlined_kept (prediction ∷ predictions) all =
    All-cons IsPrediction (underlined_prediction prediction) (map underlined_prediction predictions)
    (place_stands prediction.place (All-head IsPrediction prediction predictions all)) (underlined_kept predictions (All-tail IsPrediction prediction predictions all))

pub underlined_length : (predictions : List Prediction) → length (map underlined_prediction predictions) ≡ length predictions
underlined_length predictions = length-map predictions underlined_prediction
