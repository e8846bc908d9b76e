use Rattle.std.proofs.Common.{arith, ◌≡◌, ◌+◌, ◌∷◌, ℕ, [], length, All, sym, ap, inr, ◌∙◌}
use Rattle.std.proofs.lemmas.Bool.{eqb-true}
use Rattle.std.proofs.lemmas.List.{nil_from_length}
use Rattle.std.proofs.lemmas.List.Elements.{All-append}
use Rattle.roam_faults.specs.declared.faults.RunFault.TheVariants.{Act}
use Rattle.roam_acts.specs.declared.acts.Act.{Act as ActOf}
use Rattle.roam_acts.specs.Acts.{IsInRange}
use Rattle.roam_terminal_input.specs.Keys.{lines_of, IsLineOf}
use Rattle.roam_terminal_input.proofs.Reading.{SoFar, one_more, all_found, none_here}
use Rattle.roam_terminal_input.proofs.keys.acts_of.Goals as goal

pub returns-in_default-clause-faults : goal.returns-in_default-clause-faults
returns-in_default-clause-faults c =
    let acts = c.loop-rest.acts.items in
    let line = c.first_line.result.0.now in
    let later = lines_of c.first_line.result.1.now in
    let so_far : SoFar (lines_of c.args.text.now) acts (line ∷ later) = rw (sym c.first_line.ensures.lines) c.loop-rest.invariant.0 in
    let none : (a : ActOf) → IsLineOf line a → ⊥ = λ a is. c.in_default.not-Ok a (c.read_act.ensures.only a is.0 is.1) in
    let fails = none_here (lines_of c.args.text.now) acts line later so_far none in
    let counted : c.len.result ≡ length acts = omega (arith, c.len.ensures, c.loop-rest.acts.ok) in
    inr (length acts, ap (λ (n : ℕ). Act (n + 1)) counted, fails)

pub loop-rest-preserved : goal.loop-rest-preserved
loop-rest-preserved c =
    let acts = c.loop-rest.acts.items in
    let line = c.first_line.result.0.now in
    let later = lines_of c.first_line.result.1.now in
    let act = c.in-Ok.act in
    let so_far : SoFar (lines_of c.args.text.now) acts (line ∷ later) = rw (sym c.first_line.ensures.lines) c.loop-rest.invariant.0 in
    let unique : (a : ActOf) → IsLineOf line a → act ≡ a = λ a is. let e = c.in-Ok.ensures.only a is.0 is.1 in cc in
    let more = one_more (lines_of c.args.text.now) acts line later act so_far c.in-Ok.ensures.found unique in
    let alone : All IsInRange (act ∷ []) = λ k d lt. let first : k ≡ 0 = omega (arith, lt) in rw first c.in-Ok.ensures.in_range in
    let all = All-append IsInRange acts (act ∷ []) c.loop-rest.invariant.1 alone in
    (rw c.in_ok-push.ensures.items more, rw c.in_ok-push.ensures.items all)

pub returns-clause-found : goal.returns-clause-found
returns-clause-found c =
    let none = nil_from_length c.loop-rest.rest.now (eqb-true _ _ (sym c.is_empty.ensures ∙ c.loop-rest-test.false)) in
    let so_far : SoFar (lines_of c.args.text.now) c.loop-rest.acts.items [] = rw (sym (ap lines_of none)) c.loop-rest.invariant.0 in
    all_found (lines_of c.args.text.now) c.loop-rest.acts.items so_far
