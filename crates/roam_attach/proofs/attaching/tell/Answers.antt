use Rattle.std.proofs.Common.{refl}
use Rattle.roam_attach.proofs.Running.{still_known}
use Rattle.roam_attach.proofs.attaching.tell.Goals as goal

pub returns-else-tell_silence-clause-tells : goal.returns-else-tell_silence-clause-tells
returns-else-tell_silence-clause-tells g c =
    still_known g.W.Write.contents c.args.shown.now c.args.ports.now c.tell_silence.new.self (c.if-tell_silence.ensures.known refl)
