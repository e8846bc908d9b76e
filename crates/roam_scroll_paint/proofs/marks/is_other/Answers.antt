use Rattle.std.proofs.Common.{ap, not}
use Rattle.roam_cells.specs.Same.{same}
use Rattle.roam_cells.proofs.SameCells.{tells, glyph_same, glyph_again}
use Rattle.roam_scroll_paint.proofs.marks.is_other.Goals as goal

pub returns-clause-other : goal.returns-clause-other
returns-clause-other c = ap not (tells same glyph_same glyph_again c.is_same.result c.args.one.now c.args.other.now c.is_same.ensures.same)
