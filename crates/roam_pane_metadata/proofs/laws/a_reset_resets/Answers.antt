use Rattle.std.proofs.Common.{refl}
use Rattle.roam_pane_metadata.proofs.Resets.{reset-modes, reset-sets}
use Rattle.roam_pane_metadata.proofs.TakenBack.{reset-untitles, reset-emitted}
use Rattle.roam_pane_metadata.proofs.laws.a_reset_resets.Goals as goal

pub returns : goal.returns
returns c = record { reset = reset-sets; modes = reset-modes; uttered = reset-emitted; title = reset-untitles; stays = λ s. refl }
