use Rattle.std.proofs.Common.{rules, ◌↔◌}
use Rattle.std.specs.Prelude.{IsErrOf}
use Rattle.std.proofs.lemmas.Result.{IfOk-weaker}
use Rattle.roam_cells.specs.declared.faults.Fault.TheVariants.{BadSize}
use Rattle.roam_faults.specs.declared.faults.RunFault.TheVariants.{Core}
use Rattle.roam_show.proofs.show.text_shown.Goals as goal

pub returns-in_err-term-clause-bad_size : goal.returns-in_err-term-clause-bad_size
returns-in_err-term-clause-bad_size g c =
    let is_size = c.new.ensures.bad_size in
    let same : IsErrOf c.from_residual.result (Core BadSize) ↔ IsErrOf c.new.result BadSize = search rules in
    (λ e. is_size.0 (same.0 e), λ no. same.1 (is_size.1 no))

pub returns-clause-text : goal.returns-clause-text
returns-clause-text g c =
    IfOk-weaker c.text_after.result _ _ (λ _ shown. (shown.0, shown.1, shown.2, shown.3 c.args.rows c.args.cols c.in_ok-term.ensures.stands)) c.text_after.ensures.text

pub returns-clause-size : goal.returns-clause-size
returns-clause-size g c = IfOk-weaker c.text_after.result _ _ (λ _ _. c.in_ok-term.ensures.size) c.text_after.ensures.text

pub returns-clause-bad_size : goal.returns-clause-bad_size
returns-clause-bad_size g c =
    let other : ¬ IsErrOf c.text_after.result (Core BadSize) = search rules in
    (λ e. absurd (other e), λ no. absurd (no c.in_ok-term.ensures.size))
