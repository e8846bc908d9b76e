-- The queue of an address, and its pace.
use Rattle.std.specs.Prelude.{◌≡◌, ◌≢◌, ◌⊎◌, ◌↔◌, ℕ, ◌+◌, ◌≤◌, ◌<◌, ◌==◌, ◌||◌, ◌&&◌, Bool, true, false, List, [], ◌∷◌, ◌++◌, length, map, slice_get, slice_set, nat_lt, Option, Some, None, IsTrue}
use Rattle.std.specs.List.{All, filter, list_any}
use Rattle.roam_cells.specs.declared.addresses.Addr.{Addr}
use Rattle.roam_stream_framing.specs.declared.frames.Front.TheVariants.{Whole}
use Rattle.roam_stream_framing.specs.Frames.{IsCarried, framed, framed_all, front_of}
use Rattle.roam_stream_framing.specs.Queues.{IsLost, IsQueued, Queued, nothing_queued}
use Rattle.roam_sockets.specs.Pace.{gone_at, may_go, most_a_moment}
use Rattle.roam_sockets.specs.declared.lanes.Lane.{Lane}

-- a datagram that a socket was given, and its address
pub record Handed : Type 0 where
  pub to : Addr
  pub datagram : List ℕ

-- a socket was given these, one after another, if that is known
abbrev pub Hands : Option (List Handed) → Option (List Handed) → List Handed → Type 0
Hands None after handed = Unit {0}
Hands (Some before) None handed = ⊥
Hands (Some before) (Some after) handed = after ≡ before ++ handed

-- datagrams for one address
abbrev pub all_to : Addr → List (List ℕ) → List Handed
all_to to datagrams = map (λ datagram. record { to = to; datagram = datagram }) datagrams

-- The first that waited in a lane went to its address at a moment at which it might; the others wait.
pub record GoesOne (now : ℕ) (old new : Lane) (before after : Option (List Handed)) : Type 0 where
  pub datagram : List ℕ
  pub carried : IsCarried datagram
  pub left : old.queue.waiting ≡ framed datagram ++ new.queue.waiting
  pub handed : Hands before after (record { to = old.to; datagram = datagram } ∷ [])
  pub may : may_go old.pace now ≡ true
  pub gone : gone_at new.pace now ≡ gone_at old.pace now + 1
  pub to : new.to ≡ old.to
  pub takes : new.queue.takes ≡ old.queue.takes

-- The first queued datagrams of a lane went to its address at a moment, in order, each once, and no more than allowed. The others stay
-- queued.
pub record Goes (now : ℕ) (old new : Lane) (before after : Option (List Handed)) : Type 0 where
  pub datagrams : List (List ℕ)
  pub carried : All IsCarried datagrams
  pub left : old.queue.waiting ≡ framed_all datagrams ++ new.queue.waiting
  pub handed : Hands before after (all_to old.to datagrams)
  pub gone : gone_at new.pace now ≡ gone_at old.pace now + length datagrams
  pub pace : gone_at old.pace now ≤ most_a_moment → gone_at new.pace now ≤ most_a_moment
  pub to : new.to ≡ old.to
  pub takes : new.queue.takes ≡ old.queue.takes

-- no datagram is whole in the bytes that are looked at; there are such bytes if any are queued
pub record HasNoFirst (waiting : List ℕ) : Type 0 where
  pub front : List ℕ
  pub rest : List ℕ
  pub is : waiting ≡ front ++ rest
  pub some : 0 < length waiting → 0 < length front
  pub none : (n : ℕ) → front_of front ≢ Whole n

-- as many went as may at this moment
abbrev pub IsDone : ℕ → Lane → Type 0
IsDone now lane = (may_go lane.pace now ≡ false) ⊎ HasNoFirst lane.queue.waiting

-- a lane's queued datagrams were sent, as many as may go, and the result is true if that was all
pub record Sends (now : ℕ) (old new : Lane) (before after : Option (List Handed)) (is_all : Bool) : Type 0 where
  pub goes : Goes now old new before after
  pub done : IsDone now new
  pub all : IsTrue is_all ↔ (new.queue.waiting ≡ [])

-- So it was in one lane after another, and none waits for another to be empty; that was all of each, or it wasn't.
abbrev pub SendsEach : ℕ → List Lane → List Lane → Option (List Handed) → Option (List Handed) → Bool → Type 0
SendsEach now [] [] before after are_all = (after ≡ before) × (are_all ≡ true)
SendsEach now [] (new ∷ news) before after are_all = ⊥
SendsEach now (old ∷ olds) [] before after are_all = ⊥
SendsEach now (old ∷ olds) (new ∷ news) before after are_all =
    (mid : Option (List Handed)) × (is_all others : Bool) × Sends now old new before mid is_all × SendsEach now olds news mid after others
    × (are_all ≡ (others && is_all))

-- something waits in a lane
abbrev pub is_waiting : Lane → Bool
is_waiting lane = nat_lt 0 (length lane.queue.waiting)

-- something waits in one of these
abbrev pub is_any_waiting : List Lane → Bool
is_any_waiting lanes = list_any is_waiting lanes

-- something waits in a lane, or went at this moment
abbrev pub is_kept : ℕ → Lane → Bool
is_kept now lane = is_waiting lane || (lane.pace.moment == now)

-- the queued datagrams of all lanes were sent, as many as may go, and the lanes in use stay
pub record Flushes (now : ℕ) (olds news : List Lane) (before after : Option (List Handed)) (are_all : Bool) : Type 0 where
  pub mids : List Lane
  pub each : SendsEach now olds mids before after are_all
  pub kept : news ≡ filter (is_kept now) mids

-- nothing waits for an address yet
abbrev pub IsFresh : Addr → Lane → Type 0
IsFresh to lane = (lane.to ≡ to) × (lane.queue ≡ nothing_queued)

-- A datagram was queued in a lane or lost, and queued datagrams were sent, as many as may go.
pub record Takes (now : ℕ) (old new : Lane) (datagram : List ℕ) (is_queued : Bool) (before after : Option (List Handed)) : Type 0 where
  pub mid : Queued
  pub queued : is_queued ≡ true → IsQueued old.queue datagram mid
  pub lost : is_queued ≡ false → IsLost old.queue mid
  pub is_all : Bool
  pub sends : Sends now (record old { queue = mid }) new before after is_all

-- the lane at a place is that of an address
pub record IsLaneAt (lanes : List Lane) (at : ℕ) (to : Addr) : Type 0 where
  pub lane : Lane
  pub there : slice_get lanes at ≡ Some lane
  pub to_it : lane.to ≡ to

-- these lanes, with a new one behind them if none had the address
abbrev pub AreReady : Addr → List Lane → List Lane → Type 0
AreReady to olds lanes =
    (lanes ≡ olds) ⊎ (All (λ (lane : Lane). lane.to ≢ to) olds × ((lane : Lane) × IsFresh to lane × (lanes ≡ olds ++ lane ∷ [])))

-- A datagram was taken by a lane of its address, and no other lane changed.
pub record TakesAt (now : ℕ) (to : Addr) (olds news : List Lane) (datagram : List ℕ) (is_queued : Bool)
    (before after : Option (List Handed)) : Type 0 where
  pub lanes : List Lane
  pub ready : AreReady to olds lanes
  pub at : ℕ
  pub old : Lane
  pub new : Lane
  pub there : slice_get lanes at ≡ Some old
  pub to_it : old.to ≡ to
  pub takes : Takes now old new datagram is_queued before after
  pub set : news ≡ slice_set lanes at new

-- or the datagram was sent at once, if there is no lane for its address and no memory for one
abbrev pub SendsTo : ℕ → Addr → List Lane → List Lane → List ℕ → Bool → Option (List Handed) → Option (List Handed) → Type 0
SendsTo now to olds news datagram result before after =
    TakesAt now to olds news datagram result before after
    ⊎ (All (λ (lane : Lane). lane.to ≢ to) olds × (news ≡ olds) × Hands before after (record { to = to; datagram = datagram } ∷ []))
