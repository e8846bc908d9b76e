use Rattle.std.proofs.Common.{length, ◌≤◌}
use Rattle.roam_pane_subscribers.specs.Subscribing.{HaveCome, most_taken}
use Rattle.roam_pane_subscribers.proofs.subscribing.accept_all.Given as goal

abbrev pub invariant-loop : goal.invariant-loop
invariant-loop l = record {
  came : HaveCome l.initial.all.items l.all.items;
  few : length l.initial.all.items ≤ most_taken → length l.all.items ≤ most_taken;
}
