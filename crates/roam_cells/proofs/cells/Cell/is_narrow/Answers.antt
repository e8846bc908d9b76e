use Rattle.std.proofs.Common.{sym, ap, ◌∙◌}
use Rattle.roam_cells.specs.Glyph.{is_wide}
use Rattle.roam_cells.proofs.Words.{narrow_says, says_narrow}
use Rattle.roam_cells.proofs.cells.Cell.is_narrow.Goals as goal

pub returns-then-shape-gt0-clause-wide : goal.returns-then-shape-gt0-clause-wide
returns-then-shape-gt0-clause-wide c = λ t. ap is_wide (sym c.self.view_is) ∙ sym c.self.invariant.width ∙ narrow_says c.self.inside.word t

pub returns-then-shape-gt0-clause-narrow : goal.returns-then-shape-gt0-clause-narrow
returns-then-shape-gt0-clause-narrow c =
    λ narrow _. says_narrow c.self.inside.word (c.self.invariant.width ∙ ap is_wide c.self.view_is ∙ narrow)
