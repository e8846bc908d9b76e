use Rattle.roam_rows.proofs.Buffers.{kept_by_all_up}
use Rattle.roam_rows.proofs.laws.rows_stay_where_all_go_up.Goals as goal

pub returns : goal.returns
returns c = record { kept = kept_by_all_up }
