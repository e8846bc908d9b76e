use Rattle.roam_normalize_laws.proofs.Spelled.{spelled-means}
use Rattle.roam_normalize_laws.proofs.laws.spelled_out_means_the_same.Goals as goal

pub returns : goal.returns
returns c = record { same = spelled-means }
