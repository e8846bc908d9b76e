use Rattle.roam_cells.specs.Same.{same_style}
use Rattle.roam_cells.proofs.SameCells.{tells, style_same, style_again}
use Rattle.roam_scrollback.proofs.row_texts.is_same_style.Goals as goal

pub returns : goal.returns
returns c = record { same = tells same_style style_same style_again c.is_same.result c.args.one c.args.other c.is_same.ensures.same }
