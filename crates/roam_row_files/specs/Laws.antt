-- What is read of a file after any end of the process that wrote it.
use Rattle.std.specs.Prelude.{◌≡◌, ℕ, ◌+◌, ◌≤◌, List, ◌∷◌, ◌++◌, length, take}
use Rattle.std.specs.List.{All}
use Rattle.roam_stored_rows.specs.Ends.{empty_at}
use Rattle.roam_stored_rows.specs.Rows.{RowsView, end_of}
use Rattle.roam_row_files.specs.Changes.{IsTail, RowChange, after_all, begins}
use Rattle.roam_row_files.specs.Reading.{AreWhole, Reads}
use Rattle.roam_row_files.specs.Records.{NumbersFit, records_of}

-- Of the first bytes of a file, exactly the changes are read whose records are whole, and the length of these records.
abbrev pub CutsAreRead : Type 0
CutsAreRead = (changes found : List RowChange) (n end : ℕ) → All NumbersFit changes → Reads (take n (records_of changes)) found end
    → (count : ℕ) × (found ≡ take count changes) × AreWhole changes n count end

-- A writer that cuts the file to that length and goes on gives a file that is read as both.
abbrev pub WritersGoOn : Type 0
WritersGoOn = (changes more found : List RowChange) (n end : ℕ) → All NumbersFit changes → All NumbersFit more
    → Reads (take n (records_of changes)) found end
    → Reads (take end (take n (records_of changes)) ++ records_of more) (found ++ more) (end + length (records_of more))

-- Any bytes are read, in one way, and no farther than they go.
abbrev pub AnyBytesAreRead : Type 0
AnyBytesAreRead = (bytes : List ℕ) → (found : List RowChange) × (end : ℕ) × Reads bytes found end × (end ≤ length bytes)
    × ((others : List RowChange) (n : ℕ) → Reads bytes others n → (others ≡ found) × (n ≡ end))

-- The newer segments alone give the newest rows, by the same numbers.
abbrev pub SegmentsAreTails : Type 0
SegmentsAreTails = (older newer : List RowChange) (view : RowsView) → view ≡ after_all older (empty_at 0)
    → IsTail (after_all (begins (end_of view) ∷ newer) (empty_at 0)) (after_all (begins (end_of view) ∷ newer) view)
