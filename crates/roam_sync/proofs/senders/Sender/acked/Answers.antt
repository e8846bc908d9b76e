use Rattle.std.proofs.Common.{rules, refl, arith}
use Rattle.roam_sync.proofs.Sending.{after_ack-none, after_ack-rising}
use Rattle.roam_sync.proofs.senders.Sender.acked.Goals as goal

pub invariant_of-self : goal.invariant_of-self
invariant_of-self g c =
    let later = c.self.inside.later.items in
    let rest = after_ack-rising (c.self.inside.base, later) _ later c.args.number c.self.invariant.1 (search rules) in
    rw (c.drop_before.ensures.base, c.drop_before.ensures.later) (omega (arith, rest.0, c.self.invariant.0), rest.1)

pub returns-else-is_later : goal.returns-else-is_later
returns-else-is_later g c =
    let later = c.self.inside.later.items in
    rw (← c.self.view_is, after_ack-none (c.self.inside.base, later) later c.args.number (search rules)) (record { acked = refl })
