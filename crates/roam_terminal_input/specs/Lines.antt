-- Lines in a stream (this project's profile): each is ended by LF.
use Rattle.std.specs.Prelude.{◌≡◌, ℕ, ◌+◌, ◌==◌, List, [], ◌∷◌, ◌++◌, length, take, drop, nat_lt, Option, Some, None, if◌then◌else◌}
use Rattle.std.specs.List.{flat_map, position}
use Rattle.roam_faults.specs.Streams.{ended_line}
use Rattle.roam_terminal_input.specs.declared.lines.Front.{Front}
use Rattle.roam_terminal_input.specs.declared.lines.Front.TheVariants.{Line, Part, TooLong}

-- the most bytes of a line without its end: `paste ; `, 64 acts of 14 bytes and 63 times the 3 bytes between two
abbrev pub longest_line : ℕ
longest_line = 1093

-- the bytes that came and aren't taken, and how many lines were taken
pub record LinesView : Type 0 where
  pub kept : List ℕ
  pub count : ℕ

-- nothing came
abbrev pub nothing_came : LinesView
nothing_came = record { kept = []; count = 0 }

-- the state of the first line, given the place of the first LF and so many bytes
abbrev pub front_by : Option ℕ → ℕ → Front
front_by None count = if nat_lt longest_line count then TooLong else Part
front_by (Some end) count = if nat_lt longest_line end then TooLong else Line end

-- the state of the first line of these bytes
abbrev pub front_of : List ℕ → Front
front_of kept = front_by (position (λ byte. byte == 0x0A) kept) (length kept)

-- lines as they came
abbrev pub ended_all : List (List ℕ) → List ℕ
ended_all lines = flat_map ended_line lines

-- these bytes begin with a whole line, and then the rest
pub record IsFirst (kept line rest : List ℕ) : Type 0 where
  pub front : front_of kept ≡ Line (length line)
  pub line_is : line ≡ take (length line) kept
  pub rest_is : rest ≡ drop (length line + 1) kept

-- ---- the law

-- the bytes are that line with its end, and then the rest
abbrev pub FirstIsEnded : Type 0
FirstIsEnded = (kept line rest : List ℕ) → IsFirst kept line rest → kept ≡ ended_line line ++ rest
