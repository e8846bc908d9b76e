use Rattle.std.proofs.Common.{◌≤◌, [], ◌∷◌, ◌++◌, length, arith}
use Rattle.roam_sync.specs.Receivers.{from_floor}
use Rattle.roam_sync.proofs.Receiving.{AreBelow-push, AreBelow-floor}
use Rattle.roam_sync.proofs.receivers.Receiver.take.Goals as goal

pub invariant_of-self-2 : goal.invariant_of-self-2
invariant_of-self-2 g c =
    let all = AreBelow-push c.self.inside.earlier.items c.self.inside.newest c.args.new c.self.invariant.1 (omega arith) in
    let few : length (from_floor c.args.floor (c.self.inside.earlier.items ++ c.self.inside.newest ∷ [])) ≤ 7 =
    omega (arith, rw c.as_slice-2.ensures.value at c.kept.ensures.count) in
    rw (c.add_above.ensures.pairs, c.try_reserve.ensures.items, c.replace-before.ensures.value, c.replace-before.ensures.after)
    (few, (AreBelow-floor c.args.floor _ _ all).1)
