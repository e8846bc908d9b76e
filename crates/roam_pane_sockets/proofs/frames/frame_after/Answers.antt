use Rattle.std.proofs.Common.{◌≤◌, ◌+◌, length, length-drop, drop, take, sym, ap, ◌∙◌, arith, subst}
use Rattle.roam_pane_sockets.specs.Frames.{HasNoEscape, frame_after, frame_with}
use Rattle.roam_pane_sockets.proofs.Framing.{run-over, step-over, within-more}
use Rattle.roam_pane_sockets.proofs.frames.frame_after.Goals as goal

pub loop-at-preserved-then-at-bytes : goal.loop-at-preserved-then-at-bytes
loop-at-preserved-then-at-bytes c =
    let at = c.loop-at.at in
    let run = c.still_run-at.result in
    let bytes = c.args.bytes.now in
    let few : run ≤ length (drop at bytes) = subst (λ l. run ≤ length l) c.split_at.ensures.back c.still_run-at.ensures.within in
    let still = subst (λ l. HasNoEscape (take run l)) c.split_at.ensures.back c.still_run-at.ensures.still in
    let less = c.if-at-bytes.true in
    let left = length-drop (at + run) bytes in
    let from = c.loop-at.invariant.2 in (
      omega (arith, less),
      λ begins. within-more c.frame_with-open.result (at + run) (at + run + 1) (omega arith)
          (c.frame_with-open.ensures.within (within-more c.loop-at.open at (at + run) (omega arith) (c.loop-at.invariant.1 begins))),
      omega (arith, from),
      ap (λ f. frame_after f (at + run + 1) (drop (at + run + 1) bytes))
          (c.frame_with-open.ensures.frame ∙ ap (frame_with c.loop-at.open (at + run)) c.split_at-then-at-bytes.ensures.back)
          ∙ sym (step-over c.loop-at.open (at + run) bytes (omega (arith, less, left)))
          ∙ sym (run-over c.loop-at.open at run bytes few still) ∙ c.loop-at.invariant.3,
    )

pub loop-at-preserved : goal.loop-at-preserved
loop-at-preserved c =
    let at = c.loop-at.at in
    let run = c.still_run-at.result in
    let bytes = c.args.bytes.now in
    let few : run ≤ length (drop at bytes) = subst (λ l. run ≤ length l) c.split_at.ensures.back c.still_run-at.ensures.within in
    let still = subst (λ l. HasNoEscape (take run l)) c.split_at.ensures.back c.still_run-at.ensures.still in
    let left = length-drop at bytes in
    let there = c.loop-at.invariant.0 in
    let from = c.loop-at.invariant.2 in (
      omega (arith, few, left, there),
      λ begins. within-more c.loop-at.open at (at + run) (omega arith) (c.loop-at.invariant.1 begins),
      omega (arith, from),
      sym (run-over c.loop-at.open at run bytes few still) ∙ c.loop-at.invariant.3,
    )
