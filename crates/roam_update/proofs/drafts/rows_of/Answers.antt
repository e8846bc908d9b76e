use Rattle.std.proofs.Common.{sym, ◌∙◌}
use Rattle.std.proofs.lemmas.Result.{IfOk-weaker}
use Rattle.roam_update.proofs.Sizing.{sized_at_same}
use Rattle.roam_update.proofs.drafts.rows_of.Goals as goal

pub returns-then-cols-clause-cells : goal.returns-then-cols-clause-cells
returns-then-cols-clause-cells c =
    let s = c.args.base.now in
    let own = sized_at_same c.args.rows c.args.cols s c.facts.ensures.screenshot (sym c.rows.ensures.rows ∙ c.if-rows.true) (sym c.cols.ensures.cols ∙ c.if-cols.true) in
    IfOk-weaker c.shared_rows.result _ _ (λ _ e. e ∙ own) c.shared_rows.ensures.cells
