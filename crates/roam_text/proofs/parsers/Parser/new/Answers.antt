use Rattle.std.proofs.Common.{rules}
use Rattle.roam_text.proofs.parsers.Parser.new.Goals as goal

pub returns : goal.returns
returns c = search rules
