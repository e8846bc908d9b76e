use Rattle.std.proofs.Common.{◌∙◌, ap}
use Rattle.roam_screens.specs.Screenshot.{Screenshot}
use Rattle.roam_term.specs.Stands.{TermView}
use Rattle.roam_term.proofs.Showing.{picture_is}
use Rattle.roam_term.proofs.terms.Term.cursor_at.Goals as goal

pub returns-clause-picture : goal.returns-clause-picture
returns-clause-picture c rows cols lines log shows =
    let is =
    picture_is rows cols lines log c.args.view c.self.inside.canvas.live c.self.inside.history
    (ap (λ (t : TermView). t.live) c.self.view_is ∙ shows.live) (ap (λ (t : TermView). t.history) c.self.view_is ∙ shows.history) in (
      c.cursor_at.ensures.row ∙ ap (λ (s : Screenshot). s.cursor_row) is,
      c.cursor_at.ensures.col ∙ ap (λ (s : Screenshot). s.cursor_col) is,
      c.cursor_at.ensures.visible ∙ ap (λ (s : Screenshot). s.visible) is,
    )
