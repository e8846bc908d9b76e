use Rattle.std.proofs.Common.{◌∙◌, ◌&&◌, eqb, sym, ap}
use Rattle.roam_grid.proofs.Marked.{marked_none, marked_same, and_true, and_false}
use Rattle.roam_session.proofs.marks.mark_where.Goals as goal

pub returns-then-on : goal.returns-then-on
returns-then-on c =
    let a = c.args in
    record {
      marks = c.mark_row.ensures.marks
          ∙ marked_same (λ r. eqb r a.row) (λ r. eqb r a.row && a.on) a.marks.now (λ r h. sym (ap (λ b. eqb r a.row && b) c.if-on.true ∙ and_true (eqb r a.row)));
    }

pub returns-else-on : goal.returns-else-on
returns-else-on c =
    let a = c.args in
    record { marks = marked_none (λ r. eqb r a.row && a.on) a.marks.now c.told-marks (λ r. ap (λ b. eqb r a.row && b) c.if-on.false ∙ and_false (eqb r a.row)) }
