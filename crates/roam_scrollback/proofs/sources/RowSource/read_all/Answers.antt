use Rattle.std.proofs.Common.{◌≡◌, ◌-◌, ◌++◌, ℕ, List, map, length, length-drop, take, drop, ap, sym, subst, ◌∙◌, arith}
use Rattle.std.proofs.Math.Seq.{take-add}
use Rattle.roam_term.proofs.Lists.{all-after}
use Rattle.roam_text.specs.Log.{Byte}
use Rattle.roam_scrollback.specs.Rewraps.{Follows}
use Rattle.roam_scrollback.proofs.Following.{follows-bytes, follows-none, follows-sheds}
use Rattle.roam_scrollback.proofs.sources.RowSource.read_all.Goals as goal

left_long : (at : ℕ) (piece : List ℕ) → length (take (length piece - at) (drop at piece)) ≡ length piece - at
left_long at piece = ap (length {A = ℕ}) (all-after at piece) ∙ length-drop at piece

pub loop-at-init : goal.loop-at-init
loop-at-init c = record { within = omega arith; follows = λ log reads. follows-none c.args.self.now log reads }

pub loop-at-preserved : goal.loop-at-preserved
loop-at-preserved c =
    let text = c.args.text.now in
    let at = c.loop-at.at in
    let fed = c.feed-at in
    let n = fed.result.count in
    record {
      within = omega (arith, c.loop-at.invariant.within, fed.ensures.within, left_long at text);
      follows = λ log reads.
          let before = c.loop-at.invariant.follows log reads in
          subst (λ (seen : List ℕ). Follows c.args.self.now fed.new.self (map Byte seen) log) (sym (take-add at n text))
          (follows-bytes c.args.self.now c.loop-at.self fed.new.self (take at text) (take n (drop at text)) log before
          (subst (λ (rest : List ℕ). Follows c.loop-at.self fed.new.self (map Byte (take n rest)) (log ++ map Byte (take at text)))
          (all-after at text)
          (follows-sheds c.loop-at.self fed.new.self _ fed.new.lines fed.result.cleared _ fed.ensures.sheds (log ++ map Byte (take at text))
          before.reads)));
    }
