use Rattle.std.proofs.Common.{◌≡◌, ◌++◌, drop, false}
use Rattle.roam_stored_rows.specs.Finding.{plain_from}
use Rattle.roam_stored_rows.proofs.finding.push_plain.Given as goal

abbrev pub invariant-loop-byte : goal.invariant-loop-byte
invariant-loop-byte l =
    l.plain.items ++ plain_from l.styled (drop l.byte-index l.text) ≡ l.initial.plain.items ++ plain_from false l.text
