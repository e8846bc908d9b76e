use Rattle.std.proofs.Common.{refl}
use Rattle.roam_cells.specs.Inks.{is_odd}
use Rattle.roam_cells.proofs.inks.is_odd.Goals as goal

pub returns : goal.returns
unfolding is_odd
returns c = record { odd = refl }
