use Rattle.std.proofs.Common.{arith}
use Rattle.roam_pane_sockets.proofs.Framing.{no-mark}
use Rattle.roam_pane_sockets.proofs.frames.has_no_mark.Goals as goal

pub returns-in-None : goal.returns-in-None
returns-in-None c = record { none = λ h. no-mark c.args.bytes.now (λ k less. c.in-None.ensures k (omega arith) less) }
