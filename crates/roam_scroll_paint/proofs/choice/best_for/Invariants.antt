use Rattle.roam_scroll_paint.specs.Bands.{FitsBand}
use Rattle.roam_scroll_paint.proofs.choice.best_for.Given as goal

abbrev pub invariant-loop-from : goal.invariant-loop-from
invariant-loop-from g l = FitsBand (g.N.Seen.screen l.new).rows l.found.band
