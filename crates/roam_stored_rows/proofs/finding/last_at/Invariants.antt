use Rattle.std.proofs.Common.{◌≡◌, ◌≤◌, ℕ, List, encode_utf8_all}
use Rattle.roam_stored_rows.specs.Finding.{NoneBegins}
use Rattle.roam_stored_rows.proofs.finding.last_at.Given as goal

abbrev pub invariant-loop-at : goal.invariant-loop-at
invariant-loop-at l = record {
  within : l.at ≤ l.high;
  none : (text : List ℕ) → l.sought.needle.items ≡ encode_utf8_all text → NoneBegins l.sought.folded text l.rows l.at l.high;
}

abbrev pub decreases-loop-at : goal.decreases-loop-at
decreases-loop-at l = l.at
