use Rattle.std.proofs.Common.{◌≡◌, ◌≤◌, ◌+◌, ◌*◌, ◌∙◌, ℕ, List, [], length, take, ap, subst, arith}
use Rattle.roam_term.specs.Stands.{TermView, Fed}
use Rattle.roam_term.proofs.Runs.{fed-then}
use Rattle.roam_term.proofs.terms.Term.feed_ascii.Goals as goal

-- a way that read nothing
nothing_read : (old new : TermView) (n : ℕ) (piece : List ℕ) → n ≤ 0 → Fed old new (take n piece) → Fed old new []
nothing_read old new n piece none fed =
    let zero : n ≡ 0 = omega arith in
    subst (λ m. Fed old new (take m piece)) zero fed

-- if no more bytes wait, they are no more than after an answer
none_more : (xs ys : List ℕ) (n : ℕ) → xs ≡ ys → length xs ≤ length ys + n
none_more xs ys n e = omega (arith, ap (length {A = ℕ}) e)

pub feed_sequence-requires-clause-room : goal.feed_sequence-requires-clause-room
feed_sequence-requires-clause-room c = rw c.feed_plain-plain.ensures.waiting c.requires.room

pub returns-then-plain-gt0 : goal.returns-then-plain-gt0
returns-then-plain-gt0 c =
    let plain = c.feed_plain-plain in
    record {
      some = c.if-plain-gt0.true;
      within = plain.ensures.within;
      fed = plain.ensures.fed;
      short = none_more plain.new.self.waiting c.args.self.now.waiting (12 * plain.result) plain.ensures.waiting;
      screen = plain.ensures.screen;
    }

pub returns : goal.returns
returns c =
    let piece = c.args.piece.now in
    let old = c.args.self.now in
    let plain = c.feed_plain-plain in
    let part = c.feed_sequence in
    record {
      some = part.ensures.some;
      within = part.ensures.within;
      fed =
          fed-then old plain.new.self part.new.self [] (take part.result piece)
          (nothing_read old plain.new.self plain.result piece c.if-plain-gt0.false plain.ensures.fed) part.ensures.fed;
      short = subst (λ xs. length part.new.self.waiting ≤ length xs + 12 * part.result) plain.ensures.waiting part.ensures.short;
      screen = (part.ensures.screen.0 ∙ plain.ensures.screen.0, part.ensures.screen.1 ∙ plain.ensures.screen.1);
    }
