use Rattle.std.proofs.Common.{ap, refl}
use Rattle.roam_screens.specs.Screenshot.{Screenshot}
use Rattle.roam_sync.specs.Receivers.{Receiving}
use Rattle.roam_turns.proofs.Starts.{sends_same}
use Rattle.roam_turns.proofs.cores.ClientClientCore.tick.Goals as goal

pub returns-clause-step : goal.returns-clause-step
returns-clause-step c = (c.tick.result, refl, c.tick.ensures.sent)

pub returns-clause-number : goal.returns-clause-number
returns-clause-number c =
    ap (λ (r : Receiving Screenshot). r.newest.number) (sends_same c.args.self.now _ _ _ c.tick.ensures.sent)

pub returns-clause-screen : goal.returns-clause-screen
returns-clause-screen c =
    ap (λ (r : Receiving Screenshot). r.newest.state) (sends_same c.args.self.now _ _ _ c.tick.ensures.sent)
