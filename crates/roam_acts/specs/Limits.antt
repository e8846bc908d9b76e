-- Limits of numbers and texts (this project's profile).
use Rattle.std.specs.Prelude.{ℕ, ◌^◌}

-- numbers of states, datagrams, instructions and acts are below this one
abbrev pub number_limit : ℕ
number_limit = 2 ^ 62

-- the most acts of an instance that may be unacknowledged
abbrev pub most_unacknowledged : ℕ
most_unacknowledged = 1024

-- the most acts of an instruction
abbrev pub most_acts : ℕ
most_acts = 64
