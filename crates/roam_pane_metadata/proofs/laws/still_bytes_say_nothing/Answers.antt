use Rattle.roam_pane_metadata.proofs.Silences.{still-silent}
use Rattle.roam_pane_metadata.proofs.laws.still_bytes_say_nothing.Goals as goal

pub returns : goal.returns
returns c = record { silent = still-silent }
