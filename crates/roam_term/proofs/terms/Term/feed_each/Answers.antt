use Rattle.std.proofs.Common.{◌≡◌, ◌-◌, ℕ, List, length, length-drop, take, take_all, drop, refl, ap, sym, subst, ◌∙◌, arith}
use Rattle.std.proofs.Math.Seq.{take-add}
use Rattle.roam_term.specs.Stands.{Fed}
use Rattle.roam_term.proofs.Lists.{all-after}
use Rattle.roam_term.proofs.Runs.{fed-none, fed-then}
use Rattle.roam_term.proofs.terms.Term.feed_each.Goals as goal

-- the length of the rest of a piece
left_long : (at : ℕ) (piece : List ℕ) → length (take (length piece - at) (drop at piece)) ≡ length piece - at
left_long at piece = ap (length {A = ℕ}) (all-after at piece) ∙ length-drop at piece

pub loop-at-init : goal.loop-at-init
loop-at-init c = record { within = omega arith; fed = fed-none c.args.self.now; screen = (refl, refl); room = omega arith }

pub feed_front-count-requires : goal.feed_front-count-requires
feed_front-count-requires c =
    let more = c.loop-at-test.true in
    record {
      some = omega (arith, left_long c.loop-at.at c.args.piece.now, more);
      room = omega (arith, c.requires.room, c.loop-at.invariant.room, more);
    }

pub overflow_add-at : goal.overflow_add-at
overflow_add-at c =
    let long = left_long c.loop-at.at c.args.piece.now in
    omega (arith, c.requires.room, c.loop-at.invariant.within, c.feed_front-count.ensures.within, long)

pub loop-at-smaller : goal.loop-at-smaller
loop-at-smaller c = omega (arith, c.loop-at-test.true, c.feed_front-count.ensures.some)

pub loop-at-preserved : goal.loop-at-preserved
loop-at-preserved c =
    let piece = c.args.piece.now in
    let at = c.loop-at.at in
    let n = c.feed_front-count.result in
    let new = c.feed_front-count.new.self in
    record {
      within = omega (arith, c.loop-at.invariant.within, c.feed_front-count.ensures.within, left_long at piece);
      fed =
          subst (λ seen. Fed c.args.self.now new seen) (sym (take-add at n piece))
          (fed-then c.args.self.now c.loop-at.self new (take at piece) (take n (drop at piece)) c.loop-at.invariant.fed
          (subst (λ rest. Fed c.loop-at.self new (take n rest)) (all-after at piece) c.feed_front-count.ensures.fed));
      screen = (
        c.feed_front-count.ensures.screen.0 ∙ c.loop-at.invariant.screen.0,
        c.feed_front-count.ensures.screen.1 ∙ c.loop-at.invariant.screen.1,
      );
      room = omega (arith, c.loop-at.invariant.room, c.feed_front-count.ensures.short);
    }

pub returns : goal.returns
returns c =
    let l = c.loop-at in
    let piece = c.args.piece.now in
    let all : take l.at piece ≡ piece = take_all l.at piece (omega (arith, c.loop-at-test.false)) in
    record {
      fed = subst (λ seen. Fed c.args.self.now l.self seen) all l.invariant.fed;
      short = omega (arith, l.invariant.room, l.invariant.within);
      screen = l.invariant.screen;
    }
