use Rattle.std.proofs.Common.{◌≡◌, ◌⊎◌, inl, inr, Result, Ok, Err, sym, ap, subst}
use Rattle.std.specs.Prelude.{IfErr, ◌↔◌}
use Rattle.roam_cells.specs.Limits.{IsSize}
use Rattle.roam_screens.specs.Screenshot.{Screenshot}
use Rattle.roam_cells.specs.declared.faults.Fault.{Fault}
use Rattle.roam_cells.specs.declared.faults.Fault.TheVariants.{OutOfMemory, BadSize}
use Rattle.roam_session.proofs.FaceNow.{screen_size}
use Rattle.roam_session.proofs.faces.blank_of.Goals as goal

not_bad : (r : Result Screenshot Fault) (P : Type 0) → P → IfErr r (λ e. (e ≡ BadSize) ⊎ (e ≡ OutOfMemory)) → ((r ≡ Err BadSize) ↔ (P → ⊥))
    → IfErr r (λ e. e ≡ OutOfMemory)
not_bad (Ok s) P p why bad = tt
not_bad (Err e) P p why bad =
    elim why [
      | inl is ↦ absurd (bad.0 (ap Err is) p)
      | inr is ↦ is
    ]

pub returns-clause-fault : goal.returns-clause-fault
returns-clause-fault c =
    let size : IsSize c.rows.result c.cols.result =
    subst (λ n. IsSize n c.cols.result) (sym c.rows.ensures.rows)
    (subst (IsSize c.args.layout.now.rows) (sym c.cols.ensures.cols) (screen_size c.args.layout.now c.facts.ensures.plan)) in
    not_bad c.blank.result (IsSize c.rows.result c.cols.result) size c.blank.ensures.faults c.blank.ensures.bad_size
