use Rattle.std.proofs.Common.{arith}
use Rattle.roam_model.specs.Numbers.{first_screen}
use Rattle.roam_hub.proofs.Serving.{stands_new}
use Rattle.roam_hub.proofs.Sharing.{have_first}
use Rattle.roam_hub.proofs.servers.Server.new.Goals as goal

pub returns-clause-stands : goal.returns-clause-stands
unfolding first_screen
returns-clause-stands c = stands_new c.args.session _ c.in_ok-panes.panes c.in_ok-screen.screen c.new-2.result.entries
    c.in_ok-panes.ensures.stands c.in_ok-screen.ensures.blank c.new-2.ensures.empty

pub invariant_of-result : goal.invariant_of-result
unfolding first_screen
invariant_of-result c =
    let fits = c.ranges.session.fits in (
      omega arith,
      omega (arith, fits),
      have_first 0 c.in_ok-screen.screen c.new-2.result.entries c.in_ok-screen.ensures.blank c.new-2.ensures.empty,
    )
