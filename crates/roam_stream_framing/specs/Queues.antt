-- The queue for the reader at the other end of a stream: whole instructions, or no part of them.
use Rattle.std.specs.Prelude.{◌≡◌, ℕ, ◌+◌, ◌==◌, ◌&&◌, Bool, true, false, List, [], ◌++◌, length, drop, nat_le, if◌then◌else◌}
use Rattle.byteorder.specs.Endian.{big_number}
use Rattle.roam_stream_framing.specs.Frames.{IsCarried, framed}

-- while so little waits an instruction more is queued
abbrev pub little : ℕ
little = 65536

-- The most that waits: behind that little the largest instruction, which is 2,755 datagrams of 3,421,092 bytes, each behind its length.
abbrev pub most_waiting : ℕ
most_waiting = 3492138

-- the bytes that wait, and whether the datagrams of the instruction that is being sent are queued
pub record Queued : Type 0 where
  pub waiting : List ℕ
  pub takes : Bool

abbrev pub nothing_queued : Queued
nothing_queued = record { waiting = []; takes = false }

-- the place of a datagram's fragment in its instruction, from 0: behind 36 bytes of its header; a datagram without a header is a whole
-- instruction
abbrev pub index_of : List ℕ → ℕ
index_of datagram = if nat_le 42 (length datagram) then big_number 2 (drop 36 datagram) else 0

-- a datagram may be queued: the first of an instruction if the queue is short, a later one if those before it were
abbrev pub may_queue : Queued → List ℕ → Bool
may_queue q datagram =
    if index_of datagram == 0 then nat_le (length q.waiting) little
    else q.takes && nat_le (length q.waiting + (length datagram + 2)) most_waiting

-- it is queued behind those that wait
pub record IsQueued (old : Queued) (datagram : List ℕ) (new : Queued) : Type 0 where
  pub carried : IsCarried datagram
  pub may : may_queue old datagram ≡ true
  pub queued : new ≡ record { waiting = old.waiting ++ framed datagram; takes = true }

-- it is lost, and so are those of its instruction that follow it
abbrev pub IsLost : Queued → Queued → Type 0
IsLost old new = new ≡ record old { takes = false }
