-- The first word of a text.
use Rattle.std.specs.Prelude.{ℕ, ◌+◌, ◌==◌, List, take, drop, Option, Some, None}
use Rattle.std.specs.List.{position}

-- the bytes before the space at a place, and those behind it
abbrev pub word_at : List ℕ → Option ℕ → Option (List ℕ × List ℕ)
word_at text None = None
word_at text (Some space) = Some (take space text, drop (space + 1) text)

-- the bytes before the first space, and those behind it
abbrev pub first_word : List ℕ → Option (List ℕ × List ℕ)
first_word text = word_at text (position (λ byte. byte == 0x20) text)
