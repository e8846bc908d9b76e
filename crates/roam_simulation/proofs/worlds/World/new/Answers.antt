use Rattle.roam_simulation.proofs.Beginning.{stands_for_new}
use Rattle.roam_simulation.proofs.worlds.World.new.Goals as goal

pub returns-clause-stands : goal.returns-clause-stands
returns-clause-stands c =
    stands_for_new c.args.session _ c.in_ok-server.server c.in_ok-slots.slots.items c.new-2.result.items c.new-3.result.texts
    c.ranges.session.fits c.in_ok-server.ensures.size c.in_ok-server.ensures.stands c.in_ok-slots.ensures.none c.new-2.ensures.items
    c.new-3.ensures.texts
