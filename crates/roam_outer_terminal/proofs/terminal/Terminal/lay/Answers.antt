use Rattle.std.proofs.Common.{sym, ap, subst}
use Rattle.roam_turns.specs.Painting.{LeadsSized}
use Rattle.roam_outer_terminal.specs.Overlaid.{on_show}
use Rattle.roam_outer_terminal.proofs.Showing.{leads_from, leads_laid}
use Rattle.roam_outer_terminal.proofs.terminal.Terminal.lay.Goals as goal

pub returns-in-None-clause-leads : goal.returns-in-None-clause-leads
returns-in-None-clause-leads g c =
    let new = c.lay_over.new.self in
    let old = c.args.self.now in
    λ over outer mid takes h.
    subst (λ x. LeadsSized (on_show over outer) new.waiting (on_show new.over x)) (sym (ap (λ t. t.outer) c.lay_over.ensures.others))
    (leads_laid (on_show over outer) old.outer c.args.wanted new.over old.waiting new.waiting c.lay_over.ensures.lays
    (leads_from over outer mid old.outer c.args.taken old.waiting takes c.in-None.is h))
