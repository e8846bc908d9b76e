use Rattle.std.proofs.Common.{◌+◌, ◌++◌, take, arith, subst}
use Rattle.roam_pane_metadata.specs.Metadata.{Stands}
use Rattle.roam_pane_metadata.proofs.Counts.{counted-on}
use Rattle.roam_pane_metadata.proofs.Runs.{run-within}
use Rattle.roam_pane_metadata.proofs.Standing.{run-bytes, byte-bytes}
use Rattle.roam_pane_metadata.proofs.metadata.Metadata.feed.Goals as goal

pub loop-at-preserved-then-at-piece : goal.loop-at-preserved-then-at-piece
loop-at-preserved-then-at-piece c =
    let at = c.loop-at.at in
    let run = c.passed-at.result in
    let piece = c.args.piece.now in
    let less = c.if-at-piece.true in (
      omega (arith, less),
      λ bytes stands.
          subst (Stands c.read.new.self) (byte-bytes bytes piece (at + run) less)
          (c.read.ensures.stands (bytes ++ take (at + run) piece)
          (subst (Stands c.loop-at.self) (run-bytes bytes piece at run)
          (c.passed-at.ensures.stands (bytes ++ take at piece) (c.loop-at.invariant.1 bytes stands)))),
      counted-on c.args.self.now.texts.said c.loop-at.self.texts.said c.read.new.self.texts.said c.loop-at.invariant.2
          c.read.ensures.counted,
    )

pub loop-at-preserved : goal.loop-at-preserved
loop-at-preserved c =
    let at = c.loop-at.at in
    let run = c.passed-at.result in
    let piece = c.args.piece.now in (
      run-within at run piece c.loop-at.invariant.0 c.passed-at.ensures.within,
      λ bytes stands.
          subst (Stands c.loop-at.self) (run-bytes bytes piece at run)
          (c.passed-at.ensures.stands (bytes ++ take at piece) (c.loop-at.invariant.1 bytes stands)),
      c.loop-at.invariant.2,
    )
