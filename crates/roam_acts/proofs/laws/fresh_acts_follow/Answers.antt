use Rattle.roam_acts.proofs.Stretches.{follow}
use Rattle.roam_acts.proofs.laws.fresh_acts_follow.Goals as goal

pub returns : goal.returns
returns c = record { follow = λ all acts taken first le s. follow all acts taken first le s }
