use Rattle.std.proofs.Common.{◌≡◌, ◌≤◌, length, take}
use Rattle.std.specs.List.{flat_map}
use Rattle.roam_simulation.specs.Networks.{texts_in}
use Rattle.roam_simulation.proofs.networks.Network.text.Given as goal

abbrev pub decreases-loop-at : goal.decreases-loop-at
decreases-loop-at l = l.at

-- the number is among the batches before this place
abbrev pub invariant-loop-at : goal.invariant-loop-at
invariant-loop-at l =
    record {
      sent : l.sent ≡ length (flat_map texts_in (take l.at l.self-inside.batches.items));
      number : l.number ≤ l.sent;
      at : l.at ≤ length l.self-inside.batches.items;
    }
