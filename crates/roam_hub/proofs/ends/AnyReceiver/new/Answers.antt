use Rattle.std.proofs.Common.{◌∙◌, ap}
use Rattle.roam_screens.specs.Screenshot.{Screenshot}
use Rattle.roam_sync.specs.Receivers.{start}
use Rattle.roam_hub.proofs.ends.AnyReceiver.new.Goals as goal

pub returns-in_ok-receiver-in-Two-clause-first : goal.returns-in_ok-receiver-in-Two-clause-first
returns-in_ok-receiver-in-Two-clause-first c =
    c.in_ok-receiver-in-Two.ensures.ok ∙ ap (λ (s : Screenshot). start s) c.in_ok-blank-in-Two.ensures.blank
