use Rattle.std.proofs.Common.{◌≡◌, ◌≤◌, ◌+◌, ◌-◌, ◌++◌, ℕ, List, drop, length}
use Rattle.std.specs.Option.{option_map}
use Rattle.roam_row_files.specs.Changes.{RowChange}
use Rattle.roam_row_files.specs.Reading.{IsLastCheck, Reads, check_of}
use Rattle.roam_row_files.specs.Records.{records_of}
use Rattle.roam_row_files.proofs.replays.last_checkpoint.Given as goal

abbrev pub invariant-loop-change : goal.invariant-loop-change
invariant-loop-change l = record {
  within : l.end ≤ length l.bytes;
  done : (done : List RowChange) × (l.end ≡ length (records_of done)) × IsLastCheck done (option_map check_of l.found)
      × ((changes : List RowChange) (more : ℕ) → Reads (drop l.end l.bytes) changes more → Reads l.bytes (done ++ changes) (l.end + more));
}

abbrev pub decreases-loop-change : goal.decreases-loop-change
decreases-loop-change l = length l.bytes - l.end
