use Rattle.std.proofs.Common.{◌≡◌, ◌-◌, ℕ, List, map, length, length-drop, take, take_all, drop, ap, sym, subst, ◌∙◌, arith}
use Rattle.std.proofs.Math.Seq.{take-add}
use Rattle.roam_text.specs.Log.{Byte}
use Rattle.roam_scrollback_stream.specs.Panes.{TellsAll, TellsFrom}
use Rattle.roam_scrollback_stream.proofs.Going.{from-none, from-then}
use Rattle.roam_scrollback_stream.proofs.Telling.{tells-none, tells-then}
use Rattle.roam_scrollback_stream.proofs.panes.feed_all.Goals as goal

all-after : (i : ℕ) (xs : List ℕ) → take (length xs - i) (drop i xs) ≡ drop i xs
all-after i xs = take_all (length xs - i) (drop i xs) (omega (arith, length-drop i xs))

-- the length of the rest of a piece
left_long : (at : ℕ) (piece : List ℕ) → length (take (length piece - at) (drop at piece)) ≡ length piece - at
left_long at piece = ap (length {A = ℕ}) (all-after at piece) ∙ length-drop at piece

pub loop-at-init : goal.loop-at-init
loop-at-init c = record {
  within = omega arith;
  told = tells-none c.args.source.now c.args.number c.args.tellings.now.out;
  from = from-none c.args.source.now c.args.kept.now c.args.number c.args.tellings.now.out;
  none = c.requires.none;
}

pub loop-at-preserved : goal.loop-at-preserved
loop-at-preserved c =
    let piece = c.args.piece.now in
    let at = c.loop-at.at in
    let n = c.in_ok-at.field-0 in
    let old = c.args.tellings.now.out in
    let mid = c.loop-at.tellings.out in
    let new = c.feed_some.new.tellings.out in
    let source = c.feed_some.new.source in
    let kept = c.feed_some.new.kept in
    record {
      within = omega (arith, c.loop-at.invariant.within, c.in_ok-at.ensures.within.1, left_long at piece);
      told =
          subst (λ seen. TellsAll c.args.source.now source c.args.number old new (map Byte seen)) (sym (take-add at n piece))
          (tells-then c.args.source.now c.loop-at.source source c.args.number old mid new (take at piece) (take n (drop at piece))
          c.loop-at.invariant.told
          (subst (λ rest. TellsAll c.loop-at.source source c.args.number mid new (map Byte (take n rest))) (all-after at piece)
          c.in_ok-at.ensures.told));
      from =
          subst (λ seen. TellsFrom c.args.source.now c.args.kept.now source kept c.args.number old new (map Byte seen)) (sym (take-add at n piece))
          (from-then c.args.source.now c.loop-at.source source c.args.kept.now c.loop-at.kept kept c.args.number old mid new (take at piece)
          (take n (drop at piece)) c.loop-at.invariant.from
          (subst (λ rest. TellsFrom c.loop-at.source c.loop-at.kept source kept c.args.number mid new (map Byte (take n rest)))
          (all-after at piece) c.in_ok-at.ensures.from));
      none = c.in_ok-at.ensures.none;
    }
