use Rattle.std.proofs.Common.{sym, ap, ◌∙◌}
use Rattle.roam_cells.specs.declared.cells.Cell.TheInside.{Inside}
use Rattle.roam_cells.proofs.Words.{fields_same, glyph_same}
use Rattle.roam_cells.proofs.Differences.{none_differs, no_difference}
use Rattle.roam_cells.proofs.cells.Cell.difference.Goals as goal

pub returns : goal.returns
returns c =
    let a = c.self.inside in
    let b = c.other.inside in
    record {
      same = (
        λ t.
            let both = none_differs a.points b.points a.word b.word t in
            sym c.self.view_is ∙ glyph_same a b both.0 both.1 ∙ c.other.view_is,
        λ is.
            let shown = c.self.view_is ∙ is ∙ sym c.other.view_is in
            let fields = fields_same a b c.self.invariant c.other.invariant shown in
            no_difference a.points b.points a.word b.word (ap (λ (x : Inside). x.points) fields) (ap (λ (x : Inside). x.word) fields),
      );
    }
