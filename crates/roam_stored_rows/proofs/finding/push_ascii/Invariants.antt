use Rattle.std.proofs.Common.{◌≡◌, ◌++◌, drop, map}
use Rattle.std.specs.Char.{to_ascii_lowercase}
use Rattle.roam_stored_rows.proofs.finding.push_ascii.Given as goal

abbrev pub invariant-loop-byte : goal.invariant-loop-byte
invariant-loop-byte l =
    l.line.items ++ map to_ascii_lowercase (drop l.byte-index l.plain) ≡ l.initial.line.items ++ map to_ascii_lowercase l.plain
