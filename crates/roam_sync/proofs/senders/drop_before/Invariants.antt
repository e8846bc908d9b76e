use Rattle.std.proofs.Common.{◌≡◌, true, length}
use Rattle.roam_sync.specs.Senders.{is_held, after_ack}
use Rattle.roam_sync.proofs.senders.drop_before.Given as goal

abbrev pub invariant-loop-base : goal.invariant-loop-base
invariant-loop-base g l =
    record {
      there : is_held l.later.items l.number ≡ true;
      same : after_ack (l.fn.base, l.fn.later.items) l.later.items l.number
          ≡ after_ack (l.fn.base, l.fn.later.items) l.fn.later.items l.number;
    }

abbrev pub decreases-loop-base : goal.decreases-loop-base
decreases-loop-base g l = length l.later.items
