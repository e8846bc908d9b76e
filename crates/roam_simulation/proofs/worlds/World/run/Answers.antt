use Rattle.roam_simulation.specs.Events.{reply_of}
use Rattle.roam_simulation.proofs.Stepping.{run_one}
use Rattle.roam_simulation.proofs.worlds.World.run.Goals as goal

pub loop-event-preserved : goal.loop-event-preserved
loop-event-preserved c =
    run_one _ _ c.args.session _ c.args.events.now c.loop-event.event-index c.event-item.result (reply_of c.step-reply.result)
    c.loop-event-test.true c.event-item.is c.loop-event.invariant (λ es rs st. c.step-reply.ensures.stands c.args.session _ es rs st)
