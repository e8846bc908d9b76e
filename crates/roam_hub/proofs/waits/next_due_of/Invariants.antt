use Rattle.std.proofs.Common.{◌≡◌, ◌≤◌, ◌<◌, ◌^◌, ℕ, max, true, false, take}
use Rattle.std.specs.Prelude.{IfSome}
use Rattle.std.specs.List.{list_any}
use Rattle.roam_hub.specs.Waits.{has_come, is_entry_due}
use Rattle.roam_hub.proofs.waits.next_due_of.Given as goal

-- that of the records so far
abbrev pub invariant-loop-at : goal.invariant-loop-at
invariant-loop-at l =
    record {
      before : (now : ℕ) → l.clock ≤ now → now < 2 ^ 64 → has_come l.due now ≡ false
          → list_any (is_entry_due l.number now) (take l.at l.records.entries) ≡ false;
      then : IfSome l.due (λ due. list_any (is_entry_due l.number (max due l.clock)) (take l.at l.records.entries) ≡ true);
    }
