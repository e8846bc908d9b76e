use Rattle.std.proofs.Common.{[], ◌∷◌, ◌++◌, sym, subst}
use Rattle.roam_text.specs.Log.{Byte}
use Rattle.roam_text.specs.Stands.{Stands}
use Rattle.roam_text.specs.Dispatched.{functions_by}
use Rattle.roam_term.specs.Stands.{Fed}
use Rattle.roam_term.proofs.Runs.{follows-out}
use Rattle.roam_term.proofs.terms.Term.feed_byte.Goals as goal

pub returns-clause-fed : goal.returns-clause-fed
returns-clause-fed c =
    let b = c.args.byte in
    let reader = c.dispatch-step.new.self in
    subst (λ old. Fed old c.take_in.new.self (b ∷ [])) c.self.view_is
    (follows-out _ c.take_in.new.self (Byte b ∷ []) (functions_by c.dispatch-step.result reader.parameters reader.intermediates)
    (λ log stands. subst (λ r. Stands r (log ++ Byte b ∷ [])) (sym c.take_in.ensures.reader) (c.dispatch-step.ensures.stands log stands))
    c.dispatch-step.ensures.gained c.take_in.ensures.live c.take_in.ensures.history c.take_in.ensures.waiting c.take_in.ensures.marks)
