use Rattle.std.proofs.Common.{false, refl, ap, ◌∙◌}
use Rattle.roam_cells.specs.Inks.{InkValue}
use Rattle.roam_cells.proofs.Digits.{ink_unguarded}
use Rattle.roam_cells.proofs.inks.Ink.unguarded.Goals as goal

pub returns : goal.returns
returns c = record {
  ink = ink_unguarded c.self.inside.number _ refl ∙ ap (λ (v : InkValue). record { style = v.style; guarded = false }) c.self.view_is;
}
