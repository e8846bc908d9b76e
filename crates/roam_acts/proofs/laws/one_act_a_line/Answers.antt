use Rattle.roam_acts.proofs.Spelling.{one_act}
use Rattle.roam_acts.proofs.laws.one_act_a_line.Goals as goal

pub returns : goal.returns
returns c = record { one = one_act }
