use Rattle.roam_model.proofs.laws.programs_get_each_byte.Goals as goal
use Rattle.roam_model.proofs.Passing.{passes_on, begins_empty}

pub returns-clause-passes : goal.returns-clause-passes
returns-clause-passes c = passes_on

pub returns-clause-begins : goal.returns-clause-begins
returns-clause-begins c = begins_empty
