use Rattle.std.proofs.Common.{◌≡◌, [], ◌∷◌, ◌++◌, drop}
use Rattle.roam_sync.specs.Receivers.{state_at}
use Rattle.roam_sync.proofs.receivers.state_of.Given as goal

abbrev pub invariant-loop-pair : goal.invariant-loop-pair
invariant-loop-pair g l = state_at l.number (drop l.pair-index l.earlier ++ l.newest ∷ []) ≡ state_at l.number (l.earlier ++ l.newest ∷ [])
