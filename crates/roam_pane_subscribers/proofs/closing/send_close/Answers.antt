use Rattle.std.proofs.Common.{rules}
use Rattle.roam_pane_subscribers.proofs.Asked.{types_close}
use Rattle.roam_pane_subscribers.proofs.closing.send_close.Goals as goal

pub returns : goal.returns
returns c = record { types = types_close _ _ _ _ _ _ _ (search rules) c.tick.ensures.sent }
