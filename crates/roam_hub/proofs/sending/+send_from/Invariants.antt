use Rattle.std.proofs.Common.{◌-◌, length}
use Rattle.roam_hub.proofs.sending.+send_from.Given as goal

-- the records that are left
abbrev pub decreases-send_from : goal.decreases-send_from
decreases-send_from l = length l.records.now.entries - l.at
