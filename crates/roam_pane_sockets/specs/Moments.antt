-- Moments and the time between them.
use Rattle.std.specs.Prelude.{ℕ, ◌+◌, ◌-◌, ◌&&◌, Bool, true, min, nat_le, nat_lt, Option, Some, None, if◌then◌else◌}

-- so many milliseconds have passed since a moment, if there was one
abbrev pub is_time : Option ℕ → ℕ → ℕ → Bool
is_time None now pace = true
is_time (Some last) now pace = nat_le pace (now - last)

-- so many milliseconds after a moment, if there was one
abbrev pub after : Option ℕ → ℕ → Option ℕ
after None pace = None
after (Some last) pace = Some (min 18446744073709551615 (last + pace))

-- the sooner of two moments, if there is any
abbrev pub sooner : Option ℕ → Option ℕ → Option ℕ
sooner None other = other
sooner (Some one) None = Some one
sooner (Some one) (Some other) = Some (min one other)

-- a moment is kept for at most this many milliseconds while an update goes on
abbrev pub longest_stand : ℕ
longest_stand = 50

-- the moment, given the clock's and the moment before
abbrev pub standing : Bool → ℕ → ℕ → ℕ
standing goes_on before now = if goes_on && nat_lt (now - before) longest_stand then before else now
