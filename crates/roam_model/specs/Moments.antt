-- Moments, in milliseconds, and owed answers.
use Rattle.std.specs.Prelude.{ℕ, ◌+◌, Bool, false, Option, Some, None, nat_le}
use Rattle.roam_acts.specs.Limits.{number_limit}

-- the least time from one number to the next
abbrev pub frame_interval : ℕ
frame_interval = 20

-- an answer that is owed is given after so long
abbrev pub answer_delay : ℕ
answer_delay = 100

-- an instance from which nothing came for so long is sent nothing
abbrev pub forget_after : ℕ
forget_after = 60000

-- so many milliseconds have passed since a moment
abbrev pub has_passed : ℕ → ℕ → ℕ → Bool
has_passed long since now = nat_le (since + long) now

-- an answer has been owed for as long as it may be
abbrev pub is_overdue : Option ℕ → ℕ → Bool
is_overdue None now = false
is_overdue (Some since) now = has_passed answer_delay since now

-- an answer is owed from now on, if none is owed already
abbrev pub owed_from : Option ℕ → ℕ → Option ℕ
owed_from None now = Some now
owed_from (Some since) now = Some since

-- a number is past the last that a state, a datagram, an instruction or an act may have
abbrev pub is_spent : ℕ → Bool
is_spent n = nat_le number_limit n
