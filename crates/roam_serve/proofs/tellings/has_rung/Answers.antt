use Rattle.std.proofs.Common.{arith, rules}
use Rattle.roam_serve.specs.Tellings.{has_rung}
use Rattle.roam_serve.proofs.Rung.{rung_on}
use Rattle.roam_serve.proofs.tellings.has_rung.Goals as goal

pub loop-pane-init : goal.loop-pane-init
unfolding has_rung
loop-pane-init c = search rules

pub loop-pane-preserved : goal.loop-pane-preserved
loop-pane-preserved c =
    rung_on c.loop-pane.pane c.args.shown.now c.args.now.now _ _ c.rang_in-rang.result c.get-was.result c.get-is.result (omega arith)
    (search rules) c.loop-pane.invariant c.rang_in-rang.ensures.rang c.get-was.ensures.pane c.get-is.ensures.pane
