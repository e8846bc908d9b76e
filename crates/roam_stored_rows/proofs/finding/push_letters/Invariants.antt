use Rattle.std.proofs.Common.{◌≡◌, ◌++◌, encode_utf8_all, map}
use Rattle.bstr.specs.Utf8.{lossy_chars}
use Rattle.roam_stored_rows.specs.Finding.{compared}
use Rattle.roam_stored_rows.proofs.finding.push_letters.Given as goal

abbrev pub invariant-loop-letter : goal.invariant-loop-letter
invariant-loop-letter l = l.line.items ++ encode_utf8_all (map (compared l.folded) l.letter-iterator)
    ≡ l.initial.line.items ++ encode_utf8_all (map (compared l.folded) (lossy_chars l.fn.plain))
