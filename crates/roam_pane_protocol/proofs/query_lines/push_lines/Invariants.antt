use Rattle.std.proofs.Common.{◌≡◌, ◌-◌, ◌++◌, length, drop}
use Rattle.roam_pane_protocol.specs.Queries.{query_texts}
use Rattle.roam_pane_protocol.proofs.query_lines.push_lines.Given as goal

abbrev pub invariant-loop-at : goal.invariant-loop-at
invariant-loop-at l =
    l.text.items ++ query_texts l.pane l.generation (drop l.at l.queries) ≡ l.initial.text.items ++ query_texts l.pane l.generation l.queries

abbrev pub decreases-loop-at : goal.decreases-loop-at
decreases-loop-at l = length l.queries - l.at
