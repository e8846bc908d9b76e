use Rattle.roam_world_script.proofs.Heads.{one_value}
use Rattle.roam_world_script.proofs.laws.one_value_a_line.Goals as goal

pub returns : goal.returns
returns c = record { one = one_value c.one_act_a_line.ensures.one }
