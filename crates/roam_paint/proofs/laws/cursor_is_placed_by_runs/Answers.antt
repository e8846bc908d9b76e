use Rattle.roam_paint.proofs.Placings as placings
use Rattle.roam_paint.proofs.laws.cursor_is_placed_by_runs.Goals as goal

pub returns : goal.returns
returns c = record { placed = placings.cursor_is_placed_by_runs }
