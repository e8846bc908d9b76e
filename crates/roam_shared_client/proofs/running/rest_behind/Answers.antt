use Rattle.std.proofs.Common.{subst}
use Rattle.std.specs.Prelude.{IsTrue}
use Rattle.roam_shared_client.specs.Running.{IsIdle, IsNextDue}
use Rattle.roam_shared_client.specs.Running.Rests.{sleeps, waits}
use Rattle.roam_shared_client.proofs.running.rest_behind.Goals as goal

pub returns-then-is_idle-clause-rests : goal.returns-then-is_idle-clause-rests
returns-then-is_idle-clause-rests g c = sleeps (c.is_idle.ensures.idle.0 c.if-is_idle.true) c.sleep.ensures.tells

pub returns-else-is_idle-clause-rests : goal.returns-else-is_idle-clause-rests
returns-else-is_idle-clause-rests g c =
    let busy : IsIdle c.args.shared.now → ⊥ = λ o.
    let yes : IsTrue c.is_idle.result = c.is_idle.ensures.idle.1 o in
    let no = c.if-is_idle.false in
    absurd cc in
    let due : IsNextDue c.args.shared.now.client c.next_due-else-is_idle.result =
    subst (λ k. IsNextDue k c.next_due-else-is_idle.result) c.client-else-is_idle.ensures.client
    (record { before = c.next_due-else-is_idle.ensures.before; at = c.next_due-else-is_idle.ensures.at }) in
    waits c.next_due-else-is_idle.result busy due c.rest.ensures.tells
