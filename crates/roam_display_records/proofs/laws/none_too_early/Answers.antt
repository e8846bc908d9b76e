use Rattle.roam_display_records.proofs.Early.{never_early}
use Rattle.roam_display_records.proofs.laws.none_too_early.Goals as goal

pub returns : goal.returns
returns c = record { early = never_early }
