-- What is read of bytes: changes, up to the first place where no whole record with a right checksum begins.
use Rattle.std.specs.Prelude.{◌≡◌, ℕ, ◌+◌, ◌≤◌, Bool, true, false, List, [], ◌∷◌, ◌++◌, MatchOption, Option, None, Some, drop, length, take}
use Rattle.std.specs.List.{list_any}
use Rattle.roam_row_files.specs.Changes.{RowChange, appends, begins, checks, clears, forgets, withdraws}
use Rattle.roam_row_files.specs.Records.{front_of, records_of}
use Rattle.roam_row_files.specs.declared.changes.Checkpoint.{Checkpoint}

-- bytes are read as changes, whose records have so many bytes
pub data Reads : List ℕ → List RowChange → ℕ → Type 0 where
  stops : (bytes : List ℕ) → front_of bytes ≡ None → Reads bytes [] 0
  goes : (bytes : List ℕ) (change : RowChange) (size : ℕ) (changes : List RowChange) (end : ℕ) → front_of bytes ≡ Some (change, size)
      → Reads (drop size bytes) changes end → Reads bytes (change ∷ changes) (size + end)

-- the first changes are those whose records are whole among the first bytes of all records; so many bytes have these records
pub record AreWhole (changes : List RowChange) (n count end : ℕ) : Type 0 where
  pub among : count ≤ length changes
  pub end_is : end ≡ length (records_of (take count changes))
  pub all : (k : ℕ) → k ≤ length changes → length (records_of (take k changes)) ≤ n → k ≤ count

-- a change is a checkpoint
abbrev pub is_check : RowChange → Bool
is_check (begins number) = false
is_check (appends row) = false
is_check (withdraws end) = false
is_check clears = false
is_check (forgets first) = false
is_check (checks count rows cols text) = true

-- a checkpoint as the program has it, and how many bytes there are up to its end
abbrev pub check_of : Checkpoint × ℕ → RowChange × ℕ
check_of found = (checks found.0.count found.0.rows found.0.cols found.0.text.now, found.1)

-- the last checkpoint of changes, and how many bytes the records have that end with its own; or there is none
abbrev pub IsLastCheck : List RowChange → Option (RowChange × ℕ) → Type 0
IsLastCheck changes found = MatchOption found (list_any is_check changes ≡ false)
    (λ last. (before : List RowChange) × (behind : List RowChange) × (changes ≡ before ++ last.0 ∷ behind) × (is_check last.0 ≡ true)
    × (list_any is_check behind ≡ false) × (last.1 ≡ length (records_of (before ++ last.0 ∷ []))))
