use Rattle.std.proofs.Common.{◌∙◌, ap}
use Rattle.roam_term.specs.Stands.{TermView}
use Rattle.roam_term.proofs.Showing.{picture_is}
use Rattle.roam_term.proofs.terms.Term.shot.Goals as goal

pub returns-clause-picture : goal.returns-clause-picture
returns-clause-picture c rows cols lines log shows =
    c.in_ok-shot.ensures.shown
    ∙ picture_is rows cols lines log c.args.view c.self.inside.canvas.live c.self.inside.history
    (ap (λ (t : TermView). t.live) c.self.view_is ∙ shows.live) (ap (λ (t : TermView). t.history) c.self.view_is ∙ shows.history)
