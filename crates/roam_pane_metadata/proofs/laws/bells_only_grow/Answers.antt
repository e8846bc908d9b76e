use Rattle.roam_pane_metadata.proofs.Resets.{bells-grow}
use Rattle.roam_pane_metadata.proofs.laws.bells_only_grow.Goals as goal

pub returns : goal.returns
returns c = record { grow = bells-grow }
