use Rattle.std.proofs.Common.{rules, ◌≡◌, ◌∙◌, Some, ap}
use Rattle.roam_screens.specs.Shown.{shown_by}
use Rattle.roam_turns.specs.Painting.{ShowsSized}
use Rattle.roam_turns.specs.declared.outer.Noted.{Noted}
use Rattle.roam_turns.proofs.Moving.{shown_leads}
use Rattle.roam_turns.proofs.outer.Outer.paint.Goals as goal

pub returns-clause-leads : goal.returns-clause-leads
returns-clause-leads c =
    let screen = shown_by c.args.screen.now in
    let noted : Noted = record { number = c.args.number; screen = screen } in
    let is : c.in_ok-painting.painting.noted ≡ noted = search rules in
    let shows : ShowsSized c.args.self.now c.in_ok-painting.painting.text.items screen = search rules in
    shown_leads c.args.self.now c.note.new.self c.args.number screen c.in_ok-painting.painting.text.items shows
    (c.note.ensures.noted ∙ ap (λ x. Some x) is)
