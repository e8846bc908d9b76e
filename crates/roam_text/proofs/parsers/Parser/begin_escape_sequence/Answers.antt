use Rattle.roam_text.proofs.Entries.{escape_sequence-begins}
use Rattle.roam_text.proofs.parsers.Parser.begin_escape_sequence.Goals as goal

pub returns : goal.returns
returns c = record {
  given = λ rest. escape_sequence-begins c.clear_inter.new.self rest c.clear_inter.ensures.inter c.clear_inter.ensures.ignored;
}
