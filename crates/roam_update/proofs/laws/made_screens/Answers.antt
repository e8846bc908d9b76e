use Rattle.roam_update.proofs.OldMakes.{makes_old, is_made_old}
use Rattle.roam_update.proofs.TableSpelled.{makes, is_made}
use Rattle.roam_update.proofs.laws.made_screens.Goals as goal

pub returns-clause-made : goal.returns-clause-made
returns-clause-made c = λ base s text all. (λ e. makes base text s all e, λ m. is_made base text s m)

pub returns-clause-old : goal.returns-clause-old
returns-clause-old c = λ base s text all. (λ e. makes_old base text s all e, λ m. is_made_old base text s m)
