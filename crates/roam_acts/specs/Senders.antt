-- An act sender: the acts that were typed and aren't known to have arrived (this project's profile).
use Rattle.std.specs.Prelude.{◌≡◌, ℕ, ◌+◌, ◌-◌, ◌<◌, ◌≤◌, List, [], ◌∷◌, ◌++◌, length, take, drop, nat_lt, nat_le, if◌then◌else◌}
use Rattle.roam_acts.specs.Limits.{number_limit, most_unacknowledged}
use Rattle.roam_acts.specs.declared.acts.Act.{Act}

-- the number of the last act that is acknowledged, and the acts after it
pub record Typing : Type 0 where
  pub acked : ℕ
  pub acts : List Act

-- nothing was typed
abbrev pub start : Typing
start = record { acked = 0; acts = [] }

-- the number of the last act that was typed; acts are numbered from 1
abbrev pub last_number : Typing → ℕ
last_number s = s.acked + length s.acts

-- one more act was typed
abbrev pub after_typing : Typing → Act → Typing
after_typing s act = record s { acts = s.acts ++ act ∷ [] }

-- several more acts were typed
abbrev pub after_typing_all : Typing → List Act → Typing
after_typing_all s acts = record s { acts = s.acts ++ acts }

-- with so many more acts, more than 1,024 would be unacknowledged
abbrev pub HasNoRoom : Typing → ℕ → Type 0
HasNoRoom s count = most_unacknowledged < length s.acts + count

-- there is room for so many acts, and the number of the last would be 2^62 or more
abbrev pub IsShort : Typing → ℕ → Type 0
IsShort s count = (length s.acts + count ≤ most_unacknowledged) × (number_limit ≤ last_number s + count)

-- 1,024 acts are unacknowledged
abbrev pub IsFull : Typing → Type 0
IsFull s = length s.acts ≡ most_unacknowledged

-- there is room for an act, and its number would be 2^62
abbrev pub IsSpent : Typing → Type 0
IsSpent s = (length s.acts < most_unacknowledged) × (last_number s + 1 ≡ number_limit)

-- the acts up to a number are dropped, if that number was typed and isn't acknowledged
abbrev pub acked_to : Typing → ℕ → Typing
acked_to s number =
    if nat_le number s.acked then s
    else if nat_lt (last_number s) number then s
    else record { acked = number; acts = drop (number - s.acked) s.acts }

-- a sender models all acts that were typed, the first under the number 1: the acknowledged ones and, after them, those that it keeps
pub record HasTyped (s : Typing) (all : List Act) : Type 0 where
  pub known : s.acked ≤ length all
  pub held : s.acts ≡ drop s.acked all

-- acts as they follow one another among all that were typed, from a number on
pub record IsStretch (all : List Act) (first : ℕ) (acts : List Act) : Type 0 where
  pub low : 1 ≤ first
  pub count : ℕ
  pub is : acts ≡ take count (drop (first - 1) all)
