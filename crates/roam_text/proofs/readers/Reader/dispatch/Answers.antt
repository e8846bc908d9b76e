use Rattle.std.proofs.Common.{[], ◌∷◌}
use Rattle.roam_text.specs.Dispatched.{functions_by}
use Rattle.roam_text.proofs.Logs.{bytes-stand, bytes-gained}
use Rattle.roam_text.proofs.readers.Reader.dispatch.Goals as goal

pub returns-clause-stands : goal.returns-clause-stands
returns-clause-stands c log stands =
    let new = c.advance.new.self in
    bytes-stand c.args.self.now new (c.args.byte ∷ []) (functions_by c.advance.result new.parameters new.intermediates) c.advance.ensures.pending c.advance.ensures.given log stands

pub returns-clause-gained : goal.returns-clause-gained
returns-clause-gained c log stands =
    let new = c.advance.new.self in
    bytes-gained c.args.self.now new (c.args.byte ∷ []) (functions_by c.advance.result new.parameters new.intermediates) c.advance.ensures.pending c.advance.ensures.given log stands
