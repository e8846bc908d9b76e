use Rattle.roam_layout.proofs.Listed.{shows_by_number}
use Rattle.roam_layout.proofs.laws.lists_show_their_pictures.Goals as goal

pub returns : goal.returns
returns c = record { show = λ s shots plan e. shows_by_number s shots plan e }
