use Rattle.std.proofs.Common.{◌≤◌, ◌+◌, take}
use Rattle.roam_world_run.specs.Scripts.{Stage}
use Rattle.roam_faults.specs.Streams.{IsOneLine}
use Rattle.roam_world_run.specs.Played.{Fed, IsAt}
use Rattle.roam_world_run.proofs.play.Play.piece.Given as goal

-- the bytes so far were played
abbrev pub invariant-loop-byte : goal.invariant-loop-byte
invariant-loop-byte g l = record {
  fed : (stage : Stage) → IsAt l.initial.self.world stage → IsOneLine l.initial.begun.items
      → Fed stage l.initial.begun.items (take l.byte-index l.piece) l.begun.items (g.W.Write.contents l.initial.writer)
      (g.W.Write.contents l.writer) l.self.world l.initial.self.lines l.self.lines;
  most : l.self.lines ≤ l.initial.self.lines + l.byte-index;
}
