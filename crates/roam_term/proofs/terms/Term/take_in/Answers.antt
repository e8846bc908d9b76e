use Rattle.std.proofs.Common.{◌++◌, sym, ap, ◌∙◌}
use Rattle.roam_text.specs.Dispatched.{function_of}
use Rattle.roam_term.specs.Marks.{marked_by}
use Rattle.roam_term.specs.Terminal.{changed_by, history_after, answer}
use Rattle.roam_term.proofs.Marking.{marked-print}
use Rattle.roam_term.proofs.Prints.{changed-print, kept-print, answered-after}
use Rattle.roam_term.proofs.terms.Term.take_in.Goals as goal

pub returns-in-AfterReplacement-clause-live : goal.returns-in-AfterReplacement-clause-live
returns-in-AfterReplacement-clause-live c =
    let reader = c.self.inside.reader in
    rw (← c.self.view_is, c.in-AfterReplacement.is)
    (c.perform-in-AfterReplacement.ensures.live
    ∙ ap (changed_by (function_of c.in-AfterReplacement.dispatch reader.parameters reader.intermediates))
    (c.print.ensures.printed ∙ sym (changed-print 0xFFFD c.self.inside.canvas.live)))

pub returns-in-AfterReplacement-clause-marks : goal.returns-in-AfterReplacement-clause-marks
returns-in-AfterReplacement-clause-marks c =
    let reader = c.self.inside.reader in
    let live = c.self.inside.canvas.live in
    let marks = c.self.inside.canvas.marks in
    let f = function_of c.in-AfterReplacement.dispatch reader.parameters reader.intermediates in
    rw (← c.self.view_is, c.in-AfterReplacement.is)
    (c.perform-in-AfterReplacement.ensures.marks
    ∙ ap (λ l. marked_by f l c.print.new.self.marks) (c.print.ensures.printed ∙ sym (changed-print 0xFFFD live))
    ∙ ap (marked_by f (changed_by _ live)) (c.print.ensures.marks ∙ sym (marked-print 0xFFFD live marks)))

pub returns-in-AfterReplacement-clause-history : goal.returns-in-AfterReplacement-clause-history
returns-in-AfterReplacement-clause-history c =
    let reader = c.self.inside.reader in
    let f = function_of c.in-AfterReplacement.dispatch reader.parameters reader.intermediates in
    rw (← c.self.view_is, c.in-AfterReplacement.is)
    (c.perform-in-AfterReplacement.ensures.history
    ∙ ap (λ l. history_after f l c.print.new.history) (c.print.ensures.printed ∙ sym (changed-print 0xFFFD c.self.inside.canvas.live))
    ∙ ap (history_after f (changed_by _ c.self.inside.canvas.live)) (c.print.ensures.history ∙ sym (kept-print 0xFFFD c.self.inside.canvas.live c.self.inside.history)))

pub returns-in-AfterReplacement-clause-waiting : goal.returns-in-AfterReplacement-clause-waiting
returns-in-AfterReplacement-clause-waiting c =
    let reader = c.self.inside.reader in
    let f = function_of c.in-AfterReplacement.dispatch reader.parameters reader.intermediates in
    rw (← c.self.view_is, c.in-AfterReplacement.is)
    (c.perform-in-AfterReplacement.ensures.waiting
    ∙ ap (λ l. c.self.inside.output ++ answer f l) c.print.ensures.printed
    ∙ sym (ap (λ a. c.self.inside.output ++ a) (answered-after 0xFFFD f c.self.inside.canvas.live)))
