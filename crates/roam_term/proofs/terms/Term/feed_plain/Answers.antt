use Rattle.std.proofs.Common.{◌++◌, map, take, sym, ap, ◌∙◌}
use Rattle.roam_text.specs.Log.{Byte}
use Rattle.roam_text.specs.declared.functions.Function.TheVariants.{Print}
use Rattle.roam_term.proofs.Lists.{append-nil}
use Rattle.roam_term.proofs.Runs.{follows-out, fed-none}
use Rattle.roam_term.proofs.Prints.{lived-prints, answered-prints}
use Rattle.roam_term.proofs.terms.Term.feed_plain.Goals as goal

pub returns-then-count-eq0-clause-fed : goal.returns-then-count-eq0-clause-fed
returns-then-count-eq0-clause-fed c = rw (← c.self.view_is) (fed-none _)

pub returns-clause-fed : goal.returns-clause-fed
returns-clause-fed c =
    let bs = take c.plain_run-count.result c.args.piece.now in
    let live = c.self.inside.canvas.live in
    let waiting = c.self.inside.output in
    rw (← c.self.view_is)
    (follows-out _ _ (map Byte bs) (map Print bs) c.plain_run-count.ensures.stands c.plain_run-count.ensures.gained
    (c.print_run.ensures.printed ∙ sym (lived-prints live bs))
    c.print_run.ensures.history
    (sym (ap (λ a. waiting ++ a) (answered-prints live bs) ∙ append-nil waiting))
    c.print_run.ensures.marks)
