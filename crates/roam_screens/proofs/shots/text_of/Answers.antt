use Rattle.std.proofs.Common.{◌≡◌, ◌<◌, ◌+◌, ◌++◌, [], ℕ, List, length, take, take_all, get_or, ◌∙◌, ap, sym, arith}
use Rattle.std.specs.List.{flat_map}
use Rattle.std.specs.Prelude.{Result, Ok, Err, IsErrAnd, IfErr}
use Rattle.std.proofs.lemmas.Result.{IfOk-from_err}
use Rattle.std.proofs.lemmas.List.{take_more, flat_map_more}
use Rattle.roam_cells.specs.Glyph.{Glyph}
use Rattle.roam_screens.proofs.shots.text_of.Goals as goal

-- a property of the error, if there is one
of_error : {T E : Type 0} (r : Result T E) (P : E → Type 0) → IsErrAnd r P → IfErr r P
of_error (Ok x) P h = absurd h
of_error (Err y) P h = h

pub loop-cell-preserved : goal.loop-cell-preserved
loop-cell-preserved c =
    let row = c.args.row.now in
    let i = c.loop-cell.cell-index in
    let cell = c.cell-item.result in
    let points : Glyph → List ℕ = λ g. g.points in
    let within : i < length row = omega arith in
    let front = flat_map points (take i row) in
    let last : front ++ cell.points ≡ flat_map points (take (i + 1) row) =
    ap (λ g. front ++ points g) c.cell-item.is ∙ flat_map_more points [] (take i row) (get_or row i cell) ∙ ap (flat_map points) (sym (take_more row i cell within)) in
    c.in_ok-extend_from_slice.ensures.items ∙ ap (λ t. t ++ c.as_slice.result.now) c.loop-cell.invariant ∙ ap (λ t. front ++ t) (c.as_slice.ensures.points ∙ c.chars-points.ensures.points) ∙ last

pub returns : goal.returns
returns c =
    let points : Glyph → List ℕ = λ g. g.points in
    let all = take_all c.loop-cell.cell-index c.args.row.now c.loop-cell-test.false in
    record { text = c.loop-cell.invariant ∙ ap (flat_map points) all; fault = tt }

pub returns-in_err-text : goal.returns-in_err-text
returns-in_err-text c = record {
  text = IfOk-from_err c.from_residual.result _ c.from_residual.ensures.0;
  fault = of_error c.from_residual.result _ c.from_residual.ensures.1;
}

pub returns-in_err-extend_from_slice : goal.returns-in_err-extend_from_slice
returns-in_err-extend_from_slice c =
    let gone = c.from_residual-in_err-extend_from_slice in
    record {
      text = IfOk-from_err gone.result _ gone.ensures.0;
      fault = of_error gone.result _ gone.ensures.1;
    }
