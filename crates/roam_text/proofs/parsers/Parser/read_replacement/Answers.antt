use Rattle.roam_text.proofs.Replacements.{graphic-printed}
use Rattle.roam_text.proofs.parsers.Parser.read_replacement.Goals as goal

pub returns-in_default : goal.returns-in_default
returns-in_default c = record {
  given = λ rest. graphic-printed c.args.self.now.phase c.args.self.now.sequence 0xFFFD rest c.in_default.not-InControlString;
}
