use Rattle.std.proofs.Common.{◌/◌, sym, ap, ◌∙◌, subst}
use Rattle.std.specs.Prelude.{All}
use Rattle.std.specs.Char.{IsScalar}
use Rattle.std.proofs.lemmas.List.Elements.{All-take}
use Rattle.roam_cells.specs.Glyph.{Glyph, IsStyle, is_text}
use Rattle.roam_cells.specs.Kept.{places, count_in}
use Rattle.roam_cells.proofs.Colours.{ink_is_style}
use Rattle.roam_cells.proofs.cells.Cell.facts.Goals as goal

pub returns : goal.returns
returns c =
    let points = ap (λ (g : Glyph). g.points) c.self.view_is in
    record {
      text = ap is_text (sym points) ∙ c.self.invariant.text;
      scalars = subst (All IsScalar) points (All-take IsScalar (count_in c.self.inside.word) (places c.self.inside.points) c.self.invariant.scalars);
      style = subst (λ (g : Glyph). IsStyle g.style) c.self.view_is (ink_is_style (c.self.inside.word / 8) c.self.invariant.ink);
    }
