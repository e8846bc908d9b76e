use Rattle.std.proofs.Common.{◌≡◌, ◌++◌, ◌&&◌, encode_utf8_all}
use Rattle.roam_stored_rows.specs.Finding.{is_folded, letters_in}
use Rattle.roam_stored_rows.proofs.finding.Sought.new.Given as goal

abbrev pub invariant-loop-letter : goal.invariant-loop-letter
invariant-loop-letter l = record {
  needle : l.needle.items ++ encode_utf8_all l.letter-iterator ≡ encode_utf8_all (letters_in l.fn.text);
  folded : (l.folded && is_folded l.letter-iterator) ≡ is_folded (letters_in l.fn.text);
}
