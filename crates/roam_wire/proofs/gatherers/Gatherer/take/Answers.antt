use Rattle.std.proofs.Common.{◌≡◌, ◌∙◌, ap, sym, List, ℕ, Option, Some, None, get_or}
use Rattle.roam_wire.specs.Gatherers.{Gathering}
use Rattle.roam_wire.proofs.Places.{none_here, put_back}
use Rattle.roam_wire.proofs.gatherers.Gatherer.take.Goals as goal

pub returns-clause-before : goal.returns-clause-before
returns-clause-before c =
    let ps : List (Option (List ℕ)) = c.self.inside.fragments in
    let made : List (Option (List ℕ)) → Option Gathering = λ xs. Some (record { id = c.self.inside.id; fragments = xs }) in
    let gone : get_or ps c.args.datagram.now.index None ≡ None = none_here _ (sym c.has.ensures.there ∙ c.if-has.false) in
    rw (← c.self.view_is, c.in_ok-answer.ensures.ok) (ap made (put_back ps c.args.datagram.now.index (Some c.as_slice-payload.result.now) gone))
