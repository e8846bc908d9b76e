use Rattle.roam_scrollback.proofs.Standing.{continues}
use Rattle.roam_scrollback.proofs.laws.rows_are_those_that_left.Goals as goal

pub returns : goal.returns
returns c = record { rows = continues }
