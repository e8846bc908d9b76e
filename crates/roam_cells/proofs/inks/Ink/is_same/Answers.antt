use Rattle.std.proofs.Common.{sym, ap, ◌∙◌}
use Rattle.std.proofs.lemmas.Bool.{eqb-true, eq-eqb}
use Rattle.roam_cells.specs.Inks.{ink_numbered, number_of_ink, numbered_back}
use Rattle.roam_cells.proofs.inks.Ink.is_same.Goals as goal

pub returns : goal.returns
returns c = record {
  same = (
    λ t. sym c.self.view_is ∙ ap ink_numbered (eqb-true _ _ t) ∙ c.other.view_is,
    λ is.
        let number = ap number_of_ink (c.self.view_is ∙ is ∙ sym c.other.view_is) in
        eq-eqb _ _ (sym (numbered_back c.self.inside.number) ∙ number ∙ numbered_back c.other.inside.number),
  );
}
