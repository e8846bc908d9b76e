use Rattle.std.proofs.Common.{◌≡◌, ◌≤◌, [], ◌∷◌, ◌++◌, ◌+◌, length, drop}
use Rattle.roam_sync.specs.Receivers.{from_floor}
use Rattle.roam_sync.proofs.receivers.kept.Given as goal

abbrev pub invariant-loop-pair : goal.invariant-loop-pair
invariant-loop-pair g l =
    record {
      same : l.count + length (from_floor l.floor (drop l.pair-index l.earlier ++ l.newest ∷ []))
          ≡ length (from_floor l.floor (l.earlier ++ l.newest ∷ []));
      few : l.count ≤ l.pair-index;
    }
