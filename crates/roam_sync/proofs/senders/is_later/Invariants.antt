use Rattle.std.proofs.Common.{◌≡◌, drop}
use Rattle.roam_sync.specs.Senders.{is_held}
use Rattle.roam_sync.proofs.senders.is_later.Given as goal

abbrev pub invariant-loop-held : goal.invariant-loop-held
invariant-loop-held g l = is_held (drop l.held-index l.later) l.number ≡ is_held l.later l.number
