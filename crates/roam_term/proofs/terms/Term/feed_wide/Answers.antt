use Rattle.std.proofs.Common.{◌≡◌, ◌≤◌, ◌+◌, ◌*◌, ◌∙◌, ℕ, List, [], ◌∷◌, length, take, get_or, ap, sym, subst, arith}
use Rattle.std.proofs.lemmas.List.{take_more}
use Rattle.roam_term.specs.Stands.{TermView, Fed}
use Rattle.roam_term.proofs.Runs.{fed-then}
use Rattle.roam_term.proofs.terms.Term.feed_wide.Goals as goal

-- a way that read nothing
nothing_read : (old new : TermView) (n : ℕ) (piece : List ℕ) → n ≤ 0 → Fed old new (take n piece) → Fed old new []
nothing_read old new n piece none fed =
    let zero : n ≡ 0 = omega arith in
    subst (λ m. Fed old new (take m piece)) zero fed

-- if no more bytes wait, they are no more than after an answer
none_more : (xs ys : List ℕ) (n : ℕ) → xs ≡ ys → length xs ≤ length ys + n
none_more xs ys n e = omega (arith, ap (length {A = ℕ}) e)

pub feed_byte-requires : goal.feed_byte-requires
feed_byte-requires c = record { room = rw c.feed_characters-whole.ensures.waiting c.requires.room }

pub returns-then-whole-gt0 : goal.returns-then-whole-gt0
returns-then-whole-gt0 c =
    let whole = c.feed_characters-whole in
    record {
      some = c.if-whole-gt0.true;
      within = whole.ensures.within;
      fed = whole.ensures.fed;
      short = none_more whole.new.self.waiting c.args.self.now.waiting (12 * whole.result) whole.ensures.waiting;
      screen = whole.ensures.screen;
    }

pub returns : goal.returns
returns c =
    let piece = c.args.piece.now in
    let old = c.args.self.now in
    let whole = c.feed_characters-whole in
    let byte = c.feed_byte in
    let read =
    fed-then old whole.new.self byte.new.self [] (get_or piece 0 0 ∷ [])
    (nothing_read old whole.new.self whole.result piece c.if-whole-gt0.false whole.ensures.fed) byte.ensures.fed in
    record {
      some = omega arith;
      within = c.requires.some;
      fed = subst (λ seen. Fed old byte.new.self seen) (sym (take_more piece 0 0 c.requires.some)) read;
      short = subst (λ xs. length byte.new.self.waiting ≤ length xs + 12) whole.ensures.waiting byte.ensures.short;
      screen = (byte.ensures.screen.0 ∙ whole.ensures.screen.0, byte.ensures.screen.1 ∙ whole.ensures.screen.1);
    }
