use Rattle.roam_acts.proofs.Texts.{SoFar, HasFirst}
use Rattle.roam_acts.proofs.bytes.acts_in.Given as goal

abbrev pub invariant-loop : goal.invariant-loop
invariant-loop l =
    record { so_far : SoFar l.count l.bytes l.counter l.acts.items l.rest; first : HasFirst l.bytes l.counter l.rest }
