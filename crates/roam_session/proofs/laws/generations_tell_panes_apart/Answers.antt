use Rattle.roam_session.proofs.Lasting.{generations_are_counted, generations_last}
use Rattle.roam_session.proofs.laws.generations_tell_panes_apart.Goals as goal

pub returns : goal.returns
returns c = record { counted = generations_are_counted; last = generations_last }
