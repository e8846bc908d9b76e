use Rattle.std.proofs.Common.{◌≡◌, ◌++◌, drop, length, sym, ap, ◌∙◌, subst}
use Rattle.std.proofs.Math.Seq.{drop-append_seam}
use Rattle.roam_scroll_paint.specs.Leads.{Leads, added}
use Rattle.roam_scroll_paint.proofs.painting.paint_moved.Goals as goal

pub returns-clause-leads : goal.returns-clause-leads
returns-clause-leads g c =
    let old = g.O.Seen.screen c.args.old.now in
    let new = g.N.Seen.screen c.args.new.now in
    let before = c.args.out.now.items in
    let text = c.in_ok-text.text.items in
    let is : added before c.extend_from_slice.new.self.items ≡ text =
    ap (drop (length before)) (c.in_ok-extend_from_slice.ensures.items ∙ ap (λ l. before ++ l) c.deref.ensures.value) ∙ drop-append_seam before text in
    subst (Leads old new) (sym is)
    (c.painting_leads.ensures.leads old new text c.facts.ensures.screenshot c.facts-2.ensures.screenshot c.in_ok-text.ensures.painting)
