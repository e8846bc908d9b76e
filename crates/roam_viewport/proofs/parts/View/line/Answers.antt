use Rattle.std.proofs.Common.{◌≡◌, List, refl, subst, ◌∙◌}
use Rattle.std.specs.Result.{IfOk}
use Rattle.roam_cells.specs.Glyph.{Glyph}
use Rattle.roam_viewport.proofs.Parting.{shared_row}
use Rattle.roam_viewport.proofs.parts.View.line.Goals as goal

pub returns-then-is_shared : goal.returns-then-is_shared
returns-then-is_shared c =
    let view = c.args.self.now in
    let is = c.if-is_shared.ensures.shared refl in
    let same = c.line.ensures.line ∙ shared_row view.shot.now c.facts.ensures.screenshot view.part view.masks.now is.0 is.1 is.2 c.args.row is.3 in
    record { line = subst (λ (cells : List Glyph). IfOk c.share.result (λ line. line ≡ cells)) same c.share.ensures.same }
