use Rattle.std.proofs.Common.{◌∙◌, ℕ, Bool, ◌&&◌, eqb, ap, arith}
use Rattle.roam_grid.specs.Marks.{also_marked}
use Rattle.roam_session.specs.Marks.{is_concerned}
use Rattle.roam_session.proofs.Marked.{upto_none, upto_more, upto_all}
use Rattle.roam_session.proofs.marks.mark_laid.Goals as goal

pub loop-row-init : goal.loop-row-init
loop-row-init c = let a = c.args in record { marks = upto_none a.marks.now (is_concerned a.act.now a.old.now a.new.now) c.told-marks }

pub loop-row-preserved : goal.loop-row-preserved
loop-row-preserved c =
    let a = c.args in
    let l = c.loop-row in
    let on : ℕ → Bool = is_concerned a.act.now a.old.now a.new.now in
    record {
      marks =
          c.mark_where.ensures.marks ∙ ap (λ b. also_marked (λ r. eqb r l.row && b) l.marks) c.is_concerned-on.ensures.concerned
          ∙ ap (also_marked (λ r. eqb r l.row && on l.row)) l.invariant.marks ∙ upto_more a.marks.now l.row on;
    }

pub returns : goal.returns
returns c =
    let a = c.args in
    let l = c.loop-row in
    record { marks = l.invariant.marks ∙ upto_all a.marks.now l.row (is_concerned a.act.now a.old.now a.new.now) (omega (arith, c.loop-row-test.false, l.auto.row-end)) }
