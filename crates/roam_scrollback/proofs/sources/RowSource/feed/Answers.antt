use Rattle.std.proofs.Common.{◌≡◌, ◌-◌, ℕ, List, true, false, map, length, length-drop, take, drop, ap, sym, subst, ◌∙◌, arith}
use Rattle.std.proofs.Math.Seq.{take-add}
use Rattle.roam_text.specs.Log.{Byte}
use Rattle.roam_term.proofs.Lists.{all-after}
use Rattle.roam_scrollback.specs.Sources.{Sheds}
use Rattle.roam_scrollback.proofs.Shedding.{sheds-then}
use Rattle.roam_scrollback.proofs.sources.RowSource.feed.Goals as goal

-- the length of the rest of a piece
left_long : (at : ℕ) (piece : List ℕ) → length (take (length piece - at) (drop at piece)) ≡ length piece - at
left_long at piece = ap (length {A = ℕ}) (all-after at piece) ∙ length-drop at piece

pub returns-then-fed-clause-sheds : goal.returns-then-fed-clause-sheds
returns-then-fed-clause-sheds c =
    let piece = c.args.piece.now in
    let at = c.loop-at.at in
    let fed = c.feed_front-fed in
    let n = fed.result.count in
    subst (λ seen. Sheds c.args.self.now fed.new.self c.args.lines.now fed.new.lines true (map Byte seen)) (sym (take-add at n piece))
    (sheds-then c.args.self.now c.loop-at.self fed.new.self c.args.lines.now c.loop-at.lines fed.new.lines true (take at piece)
    (take n (drop at piece)) c.loop-at.invariant.sheds
    (subst (λ b. Sheds c.loop-at.self fed.new.self c.loop-at.lines fed.new.lines b (map Byte (take n (drop at piece)))) c.if-fed.true
    (subst (λ rest. Sheds c.loop-at.self fed.new.self c.loop-at.lines fed.new.lines fed.result.cleared (map Byte (take n rest)))
    (all-after at piece) fed.ensures.sheds)))

pub loop-at-preserved : goal.loop-at-preserved
loop-at-preserved c =
    let piece = c.args.piece.now in
    let at = c.loop-at.at in
    let fed = c.feed_front-fed in
    let n = fed.result.count in
    record {
      within = omega (arith, c.loop-at.invariant.within, fed.ensures.within, left_long at piece);
      sheds =
          subst (λ seen. Sheds c.args.self.now fed.new.self c.args.lines.now fed.new.lines false (map Byte seen)) (sym (take-add at n piece))
          (sheds-then c.args.self.now c.loop-at.self fed.new.self c.args.lines.now c.loop-at.lines fed.new.lines false (take at piece)
          (take n (drop at piece)) c.loop-at.invariant.sheds
          (subst (λ b. Sheds c.loop-at.self fed.new.self c.loop-at.lines fed.new.lines b (map Byte (take n (drop at piece)))) c.if-fed.false
          (subst (λ rest. Sheds c.loop-at.self fed.new.self c.loop-at.lines fed.new.lines fed.result.cleared (map Byte (take n rest)))
          (all-after at piece) fed.ensures.sheds)));
      same = λ none. absurd (omega (arith, none, fed.ensures.some));
    }
