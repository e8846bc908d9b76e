use Rattle.std.proofs.Common.{sym, ap, ◌∙◌}
use Rattle.roam_history.specs.Histories.{Scrollback}
use Rattle.roam_rows.specs.Sizing.{Size}
use Rattle.roam_term.specs.Terminal.{Live}
use Rattle.roam_term.proofs.Resizes.{cols-sized}
use Rattle.roam_scrollback.proofs.surfaces.Surface.size.Goals as goal

pub invariant_of-self : goal.invariant_of-self
invariant_of-self c =
    let shown = c.in_ok-shown.shown in
    ap (λ (h : Scrollback). h.cols) c.in_ok-none.ensures.history
    ∙ sym (ap (λ (l : Live). l.screen.cols) c.adopt.ensures.sized ∙ cols-sized shown.rows shown.cols c.self.inside.canvas.live
    ∙ ap (λ (f : Size). f.cols) c.in_ok-shown.ensures.size)
