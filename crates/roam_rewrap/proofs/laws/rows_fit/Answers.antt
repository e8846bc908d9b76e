use Rattle.roam_rewrap.proofs.Fitting as fitting
use Rattle.roam_rewrap.proofs.laws.rows_fit.Goals as goal

pub returns : goal.returns
returns c = record { fit = fitting.rows_fit }
