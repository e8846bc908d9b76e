-- The steps by which the code reads a request. No public clause cites them: the texts of Requests define reading.
use Rattle.std.specs.Prelude.{ℕ, List, Option, Some, None}
use Rattle.roam_tokens.specs.Numbers.{number_in}
use Rattle.roam_tokens.specs.Words.{first_word}

-- the number of a terminal
abbrev pub terminal_in : List ℕ → Option ℕ
terminal_in text = number_in 1023 text

-- a number of 16 bits
abbrev pub short_in : List ℕ → Option ℕ
short_in text = number_in 65535 text

-- a number of 64 bits
abbrev pub count_in : List ℕ → Option ℕ
count_in text = number_in 18446744073709551615 text

abbrev pub pair_of : Option ℕ → Option ℕ → Option (ℕ × ℕ)
pair_of None b = None
pair_of (Some a) None = None
pair_of (Some a) (Some b) = Some (a, b)

abbrev pub three_of : Option ℕ → Option (ℕ × ℕ) → Option (ℕ × ℕ × ℕ)
three_of None b = None
three_of (Some a) None = None
three_of (Some a) (Some b) = Some (a, b.0, b.1)

abbrev pub counted_at : Option (List ℕ × List ℕ) → Option (ℕ × ℕ)
counted_at None = None
counted_at (Some words) = pair_of (terminal_in words.0) (count_in words.1)

-- a terminal, and how many bytes follow
abbrev pub counted_in : List ℕ → Option (ℕ × ℕ)
counted_in text = counted_at (first_word text)

abbrev pub size_at : Option (List ℕ × List ℕ) → Option (ℕ × ℕ)
size_at None = None
size_at (Some words) = pair_of (short_in words.0) (short_in words.1)

-- rows and columns
abbrev pub size_in : List ℕ → Option (ℕ × ℕ)
size_in text = size_at (first_word text)

abbrev pub sized_at : Option (List ℕ × List ℕ) → Option (ℕ × ℕ × ℕ)
sized_at None = None
sized_at (Some words) = three_of (terminal_in words.0) (size_in words.1)

-- a terminal, and rows and columns
abbrev pub sized_in : List ℕ → Option (ℕ × ℕ × ℕ)
sized_in text = sized_at (first_word text)
