use Rattle.roam_stored_rows.proofs.Blocks.{row-in-line}
use Rattle.roam_stored_rows.proofs.laws.rows_are_in_lines.Goals as goal

pub returns : goal.returns
returns c = record { lines = row-in-line }
