use Rattle.roam_row_files.proofs.Tails.{segments-tail}
use Rattle.roam_row_files.proofs.laws.segments_are_tails.Goals as goal

pub returns : goal.returns
returns c = record { segments = λ older newer view e. segments-tail newer view }
