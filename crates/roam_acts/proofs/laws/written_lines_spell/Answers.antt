use Rattle.roam_acts.proofs.Spelling.{written}
use Rattle.roam_acts.proofs.laws.written_lines_spell.Goals as goal

pub returns : goal.returns
returns c = record { spells = written }
