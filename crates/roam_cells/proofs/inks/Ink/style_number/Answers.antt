use Rattle.std.proofs.Common.{ap, ◌∙◌}
use Rattle.roam_cells.specs.Inks.{InkValue}
use Rattle.roam_cells.proofs.Digits.{style_of_ink}
use Rattle.roam_cells.proofs.inks.Ink.style_number.Goals as goal

pub returns : goal.returns
returns c = record {
  style = style_of_ink c.self.inside.number ∙ ap (λ (v : InkValue). v.style) c.self.view_is;
}
