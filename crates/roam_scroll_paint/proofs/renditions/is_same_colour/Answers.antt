use Rattle.roam_cells.specs.Same.{same_colour}
use Rattle.roam_cells.proofs.SameCells.{tells}
use Rattle.roam_scroll_paint.proofs.Changes.{colour_same, colour_again}
use Rattle.roam_scroll_paint.proofs.renditions.is_same_colour.Goals as goal

pub returns : goal.returns
returns c = record { same = tells same_colour colour_same colour_again c.is_same.result c.args.one c.args.other c.is_same.ensures.same }
