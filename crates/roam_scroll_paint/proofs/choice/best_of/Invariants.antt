use Rattle.roam_scroll_paint.specs.Bands.{FitsBand}
use Rattle.roam_scroll_paint.proofs.choice.best_of.Given as goal

abbrev pub invariant-loop-quarter : goal.invariant-loop-quarter
invariant-loop-quarter g l = FitsBand (g.N.Seen.screen l.new).rows l.best.band
