use Rattle.std.proofs.Common.{◌≡◌, [], length, arith, ap, sym, subst, ◌∙◌}
use Rattle.std.proofs.lemmas.Bool.{eqb-true, eqb-false}
use Rattle.std.proofs.lemmas.List.{nil_from_length}
use Rattle.roam_terminal_input.specs.declared.typing.Stream.{Stream}
use Rattle.roam_terminal_input.specs.Typing.{GoesOn, Reads}
use Rattle.roam_terminal_input.proofs.Standing.{ended_empty, ended_stream, shut}
use Rattle.roam_terminal_input.proofs.typing.ActLines.end.Goals as goal

pub returns-then-is_empty-clause-reads : goal.returns-then-is_empty-clause-reads
returns-then-is_empty-clause-reads c =
    let zero = eqb-true _ _ (sym c.is_empty.ensures ∙ c.if-is_empty.true) in
    let none : c.args.self.now.begun.items ≡ [] = nil_from_length c.args.self.now.begun.items (omega (arith, zero)) in
    ended_empty c.args.self.now c.requires.open none

pub returns-clause-reads : goal.returns-clause-reads
returns-clause-reads c =
    let old = c.args.self.now in
    let mid = c.end_line.new.self in
    let some : old.begun.items ≡ [] → ⊥ = λ none. let n = ap (λ t. length t) none in
    eqb-false _ _ (sym c.is_empty.ensures ∙ c.if-is_empty.false) (omega (arith, n)) in
    subst (λ (x : Stream). Reads old [] (record mid { stream = x })) (sym c.last_of-self.ensures.last)
    (ended_stream old mid c.requires.open some c.in_ok-end_line.ensures.ends)

pub returns-clause-ends : goal.returns-clause-ends
returns-clause-ends c = subst (λ (x : Stream). GoesOn x → ⊥) (sym c.last_of-self.ensures.last) (shut c.end_line.new.self.stream)
