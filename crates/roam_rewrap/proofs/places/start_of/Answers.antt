use Rattle.std.proofs.Common.{◌≡◌, ◌+◌, ◌<◌, ◌∷◌, suc, length, drop, drop-cons, sym, ap, subst, ◌∙◌, arith}
use Rattle.std.specs.Prelude.{◌==◌, IfNone, if◌then◌else◌}
use Rattle.std.proofs.lemmas.List.{drop_all}
use Rattle.roam_rewrap.specs.Windows.{LeavesRange, position_after, position_from, start_position}
use Rattle.roam_rewrap.proofs.Positions.{leaves_here, leaves_later, position_step, position_end}
use Rattle.roam_rewrap.proofs.places.start_of.Goals as goal

pub loop-one-preserved : goal.loop-one-preserved
loop-one-preserved c =
    let rows = c.args.rows.now in
    let i = c.loop-one.one-index in
    let row = c.one-item.result in
    let from = c.loop-one.position in
    let left = c.loop-one.left in
    let rest = drop (i + 1) rows in
    let within : i < length rows = omega arith in
    let next : i + 1 ≡ suc i = omega arith in
    let here : drop i rows ≡ row ∷ rest =
    drop-cons rows i row within ∙ ap (λ x. x ∷ drop (suc i) rows) (sym c.one-item.is) ∙ ap (λ n. row ∷ drop n rows) (sym next) in
    record {
      position =
          ap (λ p. position_from p c.saturating_sub-left.result rest) c.in_ok-position.ensures.within
          ∙ ap (λ n. position_from (if left == 0 then from else position_after from row) n rest) c.saturating_sub-left.ensures
          ∙ position_step from left row rest
          ∙ ap (position_from from left) (sym here)
          ∙ c.loop-one.invariant.position;
      none = λ later. c.loop-one.invariant.none (subst (LeavesRange from left) (sym here) (leaves_later from left row rest
          (subst (λ n. LeavesRange (if left == 0 then from else position_after from row) n rest) c.saturating_sub-left.ensures
          (subst (λ p. LeavesRange p c.saturating_sub-left.result rest) c.in_ok-position.ensures.within later))));
    }

pub returns-in_err-position-clause-none : goal.returns-in_err-position-clause-none
returns-in_err-position-clause-none c =
    let rows = c.args.rows.now in
    let i = c.loop-one.one-index in
    let row = c.one-item.result in
    let from = c.loop-one.position in
    let left = c.loop-one.left in
    let within : i < length rows = omega arith in
    let here : drop i rows ≡ row ∷ drop (suc i) rows = drop-cons rows i row within ∙ ap (λ x. x ∷ drop (suc i) rows) (sym c.one-item.is) in
    let left_range : LeavesRange from left (row ∷ drop (suc i) rows) =
    leaves_here from left row (drop (suc i) rows) c.in_err-position.ensures.none in
    subst (λ r. IfNone r (LeavesRange start_position c.args.row rows)) (sym c.from_residual.ensures)
    (c.loop-one.invariant.none (subst (LeavesRange from left) (sym here) left_range))

pub returns : goal.returns
returns c =
    let rows = c.args.rows.now in
    let i = c.loop-one.one-index in
    record {
      position =
          sym (ap (position_from c.loop-one.position c.loop-one.left) (drop_all i rows c.loop-one-test.false)
          ∙ position_end c.loop-one.position c.loop-one.left)
          ∙ c.loop-one.invariant.position;
      none = _;
    }
