-- The number of states that an end keeps (this project's profile of Mosh's State Synchronization Protocol).
use Rattle.std.specs.Prelude.{ℕ}

-- the most states that an end keeps
abbrev pub most_held : ℕ
most_held = 8
