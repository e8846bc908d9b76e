use Rattle.std.proofs.Common.{take, All}
use Rattle.roam_acts.specs.Acts.{IsInRange}
use Rattle.roam_terminal_input.specs.Typing.{ReadsOn}
use Rattle.roam_terminal_input.proofs.typing.ActLines.take_piece.Given as goal

-- the bytes so far were read
abbrev pub invariant-loop-byte : goal.invariant-loop-byte
invariant-loop-byte l = record {
  reads : ReadsOn l.initial.self (take l.byte-index l.piece) l.self;
  in_range : All IsInRange l.initial.self.waiting.items → All IsInRange l.self.waiting.items;
}
