use Rattle.std.proofs.Common.{◌≤◌, length, take}
use Rattle.std.specs.List.{flat_map}
use Rattle.std.specs.Char.{encode_utf8}
use Rattle.roam_scroll_paint.proofs.marks.bytes_of.Given as goal

abbrev pub invariant-loop-point : goal.invariant-loop-point
invariant-loop-point l = l.bytes ≤ length (flat_map encode_utf8 (take l.point-index l.point-items))
