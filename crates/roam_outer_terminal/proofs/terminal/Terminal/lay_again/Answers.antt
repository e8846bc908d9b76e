use Rattle.std.proofs.Common.{◌≡◌, ◌++◌, Some, sym, ap, subst, rules}
use Rattle.roam_turns.specs.Painting.{LeadsSized}
use Rattle.roam_outer_terminal.specs.Overlaid.{on_show}
use Rattle.roam_outer_terminal.proofs.Showing.{leads_again}
use Rattle.roam_outer_terminal.proofs.terminal.Terminal.lay_again.Goals as goal

pub returns-clause-leads : goal.returns-clause-leads
returns-clause-leads g c =
    let joined : c.put_before.new.waiting ≡ c.args.taken.text.items ++ c.args.self.now.waiting = search rules in
    let new = c.lay_over.new.self in
    λ over outer same is h.
    subst (λ x. LeadsSized (on_show (Some over) outer) new.waiting (on_show new.over x)) (sym (ap (λ t. t.outer) c.lay_over.ensures.others))
    (leads_again over outer c.args.self.now.outer c.args.wanted new.over c.args.taken.text.items
    c.args.self.now.waiting c.put_before.new.waiting new.waiting is h joined c.lay_over.ensures.lays)
