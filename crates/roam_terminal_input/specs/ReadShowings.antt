-- The steps by which the code reads a wish about the shown part. No public clause cites them: the texts of Showings define reading.
use Rattle.std.specs.Prelude.{ℕ, List, Option, Some, None}
use Rattle.roam_tokens.specs.Numbers.{number_in}
use Rattle.roam_tokens.specs.Words.{first_word}
use Rattle.roam_viewport.specs.declared.parts.Part.{Part}

-- a number of 16 bits
abbrev pub short_in : List ℕ → Option ℕ
short_in text = number_in 65535 text

abbrev pub pair_of : Option ℕ → Option ℕ → Option (ℕ × ℕ)
pair_of None b = None
pair_of (Some a) None = None
pair_of (Some a) (Some b) = Some (a, b)

abbrev pub pair_at : Option (List ℕ × List ℕ) → Option (ℕ × ℕ)
pair_at None = None
pair_at (Some words) = pair_of (short_in words.0) (short_in words.1)

-- two numbers
abbrev pub pair_in : List ℕ → Option (ℕ × ℕ)
pair_in text = pair_at (first_word text)

abbrev pub part_of : Option (ℕ × ℕ) → Option (ℕ × ℕ) → Option Part
part_of None size = None
part_of (Some place) None = None
part_of (Some place) (Some size) = Some (record { row = place.0; col = place.1; rows = size.0; cols = size.1 })

abbrev pub part_behind : List ℕ → Option (List ℕ × List ℕ) → Option Part
part_behind row None = None
part_behind row (Some words) = part_of (pair_of (short_in row) (short_in words.0)) (pair_in words.1)

abbrev pub part_at : Option (List ℕ × List ℕ) → Option Part
part_at None = None
part_at (Some words) = part_behind words.0 (first_word words.1)

-- four numbers
abbrev pub part_in : List ℕ → Option Part
part_in text = part_at (first_word text)
