use Rattle.std.proofs.Common.{sym, subst, []}
use Rattle.roam_pane_sockets.specs.FilterStages.{Sifts}
use Rattle.roam_pane_sockets.proofs.Sifting.{none-sifted}
use Rattle.roam_pane_sockets.proofs.pane_inputs.filter_stage_for.Goals as goal

pub returns-then-is_normalized-clause-fresh : goal.returns-then-is_normalized-clause-fresh
returns-then-is_normalized-clause-fresh c = subst (λ s. Sifts s [] []) (sym c.new.ensures.new) none-sifted
