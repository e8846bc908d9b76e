-- The states of a sender, and the effects of its calls (this project's profile of Mosh's State Synchronization Protocol).
use Rattle.std.specs.Prelude.{ℕ, ◌+◌, ◌-◌, ◌<◌, Bool, true, false, not, ◌||◌, ◌&&◌, List, [], ◌∷◌, ◌++◌, length, take, nat_lt, nat_le, ◌==◌, if◌then◌else◌}
use Rattle.roam_sync.specs.Moments.{resend_after, heartbeat}
use Rattle.roam_sync.specs.declared.senders.Held.{Held}

-- The base, which the other end is known to have, the states after it, and the moment of the last
-- sending, 0 before the first.
pub record Sending (S : Type 0) : Type 0 where
  pub base : Held S
  pub later : List (Held S)
  pub last : ℕ

-- the numbers rise from this one on
abbrev pub AreAbove : {S : Type 0} → ℕ → List (Held S) → Type 0
AreAbove n [] = Unit {0}
AreAbove n (h ∷ hs) = (n < h.number) × AreAbove h.number hs

-- the last of the pairs
abbrev pub last_of : {S : Type 0} → Held S → List (Held S) → Held S
last_of base [] = base
last_of base (h ∷ hs) = last_of h hs

-- the newest pair
abbrev pub newest : {S : Type 0} → Sending S → Held S
newest s = last_of s.base s.later

-- the number of pairs
abbrev pub count : {S : Type 0} → Sending S → ℕ
count s = length s.later + 1

-- state 0 alone, never sent
abbrev pub start : {S : Type 0} → S → Sending S
start state = record { base = record { number = 0; state = state; sent = false }; later = []; last = 0 }

-- one more pair, never sent
abbrev pub offered : {S : Type 0} → Sending S → ℕ → S → Sending S
offered s n state = record s { later = s.later ++ record { number = n; state = state; sent = false } ∷ [] }

-- without the newest of the pairs after the base
abbrev pub withdrawn : {S : Type 0} → Sending S → Sending S
withdrawn s = record s { later = take (length s.later - 1) s.later }

-- the pairs from number k on: if k is kept, it is the base
abbrev pub after_ack : {S : Type 0} → Held S × List (Held S) → List (Held S) → ℕ → Held S × List (Held S)
after_ack all [] k = all
after_ack all (h ∷ hs) k = if h.number == k then (h, hs) else after_ack all hs k

-- if k is kept, the pairs before it are dropped; else nothing is
abbrev pub acked : {S : Type 0} → Sending S → ℕ → Sending S
acked s k =
    let all = after_ack (s.base, s.later) s.later k in
    record { base = all.0; later = all.1; last = s.last }

-- this number is kept
abbrev pub is_held : {S : Type 0} → List (Held S) → ℕ → Bool
is_held [] k = false
is_held (h ∷ hs) k = if h.number == k then true else is_held hs k

-- the base is marked as sent, if no other is kept
abbrev pub mark_base : {S : Type 0} → Held S → List (Held S) → Held S
mark_base base [] = record base { sent = true }
mark_base base (h ∷ hs) = base

-- the last of the others is marked as sent
abbrev pub mark_last : {S : Type 0} → List (Held S) → List (Held S)
mark_last [] = []
mark_last (h ∷ []) = record h { sent = true } ∷ []
mark_last (h ∷ g ∷ hs) = h ∷ mark_last (g ∷ hs)

-- the newest is sent at a moment, in milliseconds
abbrev pub sent_at : {S : Type 0} → Sending S → ℕ → Sending S
sent_at s now = record { base = mark_base s.base s.later; later = mark_last s.later; last = now }

-- The newest was never sent, or several are kept and 250 ms passed since the last sending, or 3,000 ms did.
abbrev pub is_due : {S : Type 0} → Sending S → ℕ → Bool
is_due s now = not (newest s).sent || (nat_lt 0 (length s.later) && nat_le resend_after (now - s.last)) || nat_le heartbeat (now - s.last)
