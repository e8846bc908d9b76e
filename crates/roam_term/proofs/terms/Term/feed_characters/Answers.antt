use Rattle.std.proofs.Common.{◌≡◌, ◌-◌, ℕ, List, [], length, length-drop, take, drop, refl, ap, sym, subst, ◌∙◌, arith}
use Rattle.std.proofs.Math.Seq.{take-add}
use Rattle.roam_term.specs.Stands.{Fed}
use Rattle.roam_term.proofs.Lists.{all-after, append-nil}
use Rattle.roam_term.proofs.Runs.{fed-none, fed-then}
use Rattle.roam_term.proofs.terms.Term.feed_characters.Goals as goal

-- the length of the rest of a piece
left_long : (at : ℕ) (piece : List ℕ) → length (take (length piece - at) (drop at piece)) ≡ length piece - at
left_long at piece = ap (length {A = ℕ}) (all-after at piece) ∙ length-drop at piece

pub loop-at-init : goal.loop-at-init
loop-at-init c = record { within = omega arith; fed = fed-none c.args.self.now; waiting = refl; screen = (refl, refl) }

pub loop-at-preserved : goal.loop-at-preserved
loop-at-preserved c =
    let piece = c.args.piece.now in
    let at = c.loop-at.at in
    let part = c.feed_character-size in
    let n = part.result in
    let new = part.new.self in
    record {
      within = omega (arith, c.loop-at.invariant.within, part.ensures.within, left_long at piece);
      fed =
          subst (λ seen. Fed c.args.self.now new seen) (sym (take-add at n piece))
          (fed-then c.args.self.now c.loop-at.self new (take at piece) (take n (drop at piece)) c.loop-at.invariant.fed
          (subst (λ rest. Fed c.loop-at.self new (take n rest)) (all-after at piece) part.ensures.fed));
      waiting = part.ensures.waiting ∙ c.loop-at.invariant.waiting;
      screen = (part.ensures.screen.0 ∙ c.loop-at.invariant.screen.0, part.ensures.screen.1 ∙ c.loop-at.invariant.screen.1);
    }

-- the bytes read stay if no character came
pub returns-then-size-eq0-clause-fed : goal.returns-then-size-eq0-clause-fed
returns-then-size-eq0-clause-fed c =
    let piece = c.args.piece.now in
    let at = c.loop-at.at in
    let part = c.feed_character-size in
    let new = part.new.self in
    let rest = take (length piece - at) (drop at piece) in
    let nothing : Fed c.loop-at.self new [] = subst (λ n. Fed c.loop-at.self new (take n rest)) c.if-size-eq0.true part.ensures.fed in
    subst (λ seen. Fed c.args.self.now new seen) (append-nil (take at piece))
    (fed-then c.args.self.now c.loop-at.self new (take at piece) [] c.loop-at.invariant.fed nothing)
