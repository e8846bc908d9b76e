use Rattle.std.proofs.Common.{◌≡◌, take}
use Rattle.roam_text.proofs.readers.intermediates_of.Given as goal

abbrev pub invariant-loop-byte : goal.invariant-loop-byte
invariant-loop-byte l = l.copy.items ≡ take l.byte-index l.bytes
