use Rattle.std.proofs.Common.{length}
use Rattle.roam_display_records.proofs.taken.+done_among.Given as goal

-- proposed from the arguments of the recursive call
abbrev pub decreases-done_among : goal.decreases-done_among
decreases-done_among l = length l.waiting.now
