use Rattle.roam_text.proofs.StringLogs.{strings_of-front}
use Rattle.roam_text.proofs.laws.strings_only_grow.Goals as goal

pub returns : goal.returns
returns c = record { front = strings_of-front }
