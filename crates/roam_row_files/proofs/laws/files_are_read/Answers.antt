use Rattle.roam_row_files.proofs.Beginnings.{any-bytes, cuts-are-read, writers-go-on}
use Rattle.roam_row_files.proofs.laws.files_are_read.Goals as goal

pub returns : goal.returns
returns c = record { cut = cuts-are-read; go_on = writers-go-on; any_bytes = any-bytes }
