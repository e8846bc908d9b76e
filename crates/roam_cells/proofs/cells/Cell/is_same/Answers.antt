use Rattle.std.proofs.Common.{sym, ap, ◌∙◌}
use Rattle.std.proofs.lemmas.Bool.{eqb-true, eq-eqb, and_parts, and_from}
use Rattle.roam_cells.specs.declared.cells.Cell.TheInside.{Inside}
use Rattle.roam_cells.proofs.Words.{fields_same, glyph_same}
use Rattle.roam_cells.proofs.cells.Cell.is_same.Goals as goal

pub returns : goal.returns
returns c = record {
  same = (
    λ t.
        let both = and_parts _ _ t in
        sym c.self.view_is ∙ glyph_same c.self.inside c.other.inside (eqb-true _ _ both.0) (eqb-true _ _ both.1) ∙ c.other.view_is,
    λ is.
        let shown = c.self.view_is ∙ is ∙ sym c.other.view_is in
        let fields = fields_same c.self.inside c.other.inside c.self.invariant c.other.invariant shown in
        and_from _ _ (eq-eqb _ _ (ap (λ (a : Inside). a.points) fields)) (eq-eqb _ _ (ap (λ (a : Inside). a.word) fields)),
  );
}
