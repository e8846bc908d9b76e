use Rattle.roam_viewport.proofs.Parting.{whole_screen}
use Rattle.roam_viewport.proofs.laws.whole_is_screen.Goals as goal

pub returns : goal.returns
returns c = record { whole = whole_screen }
