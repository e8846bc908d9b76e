use Rattle.roam_normalize.proofs.Translating.{still-same}
use Rattle.roam_normalize.proofs.laws.plain_text_goes_through.Goals as goal

pub returns : goal.returns
returns c = record { same = still-same }
