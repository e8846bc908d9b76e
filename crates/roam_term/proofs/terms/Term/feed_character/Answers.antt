use Rattle.std.proofs.Common.{[], ◌∷◌, ◌++◌, map, take, sym, ap, ◌∙◌}
use Rattle.roam_text.specs.Log.{Byte}
use Rattle.roam_text.specs.declared.functions.Function.TheVariants.{Print}
use Rattle.roam_term.proofs.Lists.{append-nil}
use Rattle.roam_term.proofs.Runs.{follows-out}
use Rattle.roam_term.proofs.Marking.{marked-print}
use Rattle.roam_term.proofs.Prints.{lived-prints, kept-print, answered-prints}
use Rattle.roam_term.proofs.terms.Term.feed_character.Goals as goal

pub returns-in-Some-clause-fed : goal.returns-in-Some-clause-fed
returns-in-Some-clause-fed c =
    let bs = take c.in-Some.size c.args.piece.now in
    let live = c.self.inside.canvas.live in
    let waiting = c.self.inside.output in
    rw (← c.self.view_is)
    (follows-out _ _ (map Byte bs) (Print c.in-Some.c ∷ []) c.in-Some.ensures.stands c.in-Some.ensures.gained
    (c.print.ensures.printed ∙ sym (lived-prints live (c.in-Some.c ∷ [])))
    (c.print.ensures.history ∙ sym (kept-print c.in-Some.c live c.self.inside.history))
    (sym (ap (λ a. waiting ++ a) (answered-prints live (c.in-Some.c ∷ [])) ∙ append-nil waiting))
    (c.print.ensures.marks ∙ sym (marked-print c.in-Some.c live c.self.inside.canvas.marks)))
