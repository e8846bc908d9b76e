use Rattle.std.proofs.Common.{◌≡◌, ◌≤◌, ◌+◌, ◌-◌, length, length-drop, length-take, drop, take, sym, ap, ◌∙◌, arith, subst}
use Rattle.roam_pane_sockets.specs.Frames.{HasNoEscape, frame_with}
use Rattle.roam_pane_sockets.specs.Pieces.{frame_upto}
use Rattle.roam_pane_sockets.proofs.Cutting.{run-upto, step-upto}
use Rattle.roam_pane_sockets.proofs.pieces.frame_upto.Goals as goal

pub loop-at-preserved-then-at-count : goal.loop-at-preserved-then-at-count
loop-at-preserved-then-at-count c =
    let at = c.loop-at.at in
    let run = c.still_run-at.result in
    let count = c.args.count in
    let bytes = c.args.bytes.now in
    let seen : c.split_at-in-loop-at.result.0.now ≡ take (count - at) (drop at bytes) =
    c.split_at-in-loop-at.ensures.front ∙ ap (take (count - at)) c.split_at.ensures.back in
    let few : run ≤ length (take (count - at) (drop at bytes)) = subst (λ l. run ≤ length l) seen c.still_run-at.ensures.within in
    let still = subst (λ l. HasNoEscape (take run l)) seen c.still_run-at.ensures.still in
    let there = c.loop-at.invariant.0 in
    let all = c.requires.count in
    let taken = length-take (count - at) (drop at bytes) in
    let rest = length-drop at bytes in
    let left = length-drop (at + run) bytes in
    let less = c.if-at-count.true in (
      omega (arith, less),
      ap (λ f. frame_upto (count - (at + run + 1)) f (at + run + 1) (drop (at + run + 1) bytes))
          (c.frame_with-open.ensures.frame ∙ ap (frame_with c.loop-at.open (at + run)) c.split_at-then-at-count.ensures.back)
          ∙ sym (step-upto count c.loop-at.open (at + run) bytes less (omega (arith, less, all, left)))
          ∙ sym (run-upto count c.loop-at.open at run bytes (omega (arith, less)) (omega (arith, all, rest)) still) ∙ c.loop-at.invariant.1,
    )

pub loop-at-preserved : goal.loop-at-preserved
loop-at-preserved c =
    let at = c.loop-at.at in
    let run = c.still_run-at.result in
    let count = c.args.count in
    let bytes = c.args.bytes.now in
    let seen : c.split_at-in-loop-at.result.0.now ≡ take (count - at) (drop at bytes) =
    c.split_at-in-loop-at.ensures.front ∙ ap (take (count - at)) c.split_at.ensures.back in
    let few : run ≤ length (take (count - at) (drop at bytes)) = subst (λ l. run ≤ length l) seen c.still_run-at.ensures.within in
    let still = subst (λ l. HasNoEscape (take run l)) seen c.still_run-at.ensures.still in
    let there = c.loop-at.invariant.0 in
    let all = c.requires.count in
    let taken = length-take (count - at) (drop at bytes) in
    let rest = length-drop at bytes in
    let within : at + run ≤ count = omega (arith, few, taken, there) in (
      within,
      sym (run-upto count c.loop-at.open at run bytes within (omega (arith, all, rest)) still) ∙ c.loop-at.invariant.1,
    )
