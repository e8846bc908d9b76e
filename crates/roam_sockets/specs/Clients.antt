-- Client instances that reach a server over streams: each has a number of its own.
use Rattle.std.specs.Prelude.{◌≡◌, ◌≢◌, ◌⊎◌, ℕ, ◌+◌, ◌-◌, ◌%◌, ◌≤◌, ◌<◌, true, false, List, [], ◌∷◌, ◌++◌, drop, length, map, slice_get, Option, Some, None, IfSome, IsOk, Bool, not}
use Rattle.mio.specs.declared.net.uds.stream.UnixStream.{UnixStream}
use Rattle.std.specs.List.{All, AllZip, Contains, filter, range_with_len}
use Rattle.roam_cells.specs.declared.addresses.Addr.{Addr}
use Rattle.roam_stream_framing.specs.declared.frames.Front.TheVariants.{Part}
use Rattle.roam_stream_framing.specs.Frames.{front_of}
use Rattle.roam_stream_framing.specs.Queues.{IsLost, IsQueued, Queued, nothing_queued}
use Rattle.roam_stream_framing.specs.Streams.{Answer, HasAnswered, HasStopped}
use Rattle.roam_sockets.specs.Addresses.{address_of}
use Rattle.roam_sockets.specs.declared.clients.ClientPeer.{ClientPeer}
use Rattle.roam_sockets.specs.declared.clients.Clients.{Clients}

-- how many may be there at once
abbrev pub most_peers : ℕ
most_peers = 96

-- the numbers of those that are there
abbrev pub numbers_of : {S : Type 0} → List (ClientPeer S) → List ℕ
numbers_of peers = map (λ peer. peer.number) peers

-- the queues of the connected peers
abbrev pub queues_of : {S : Type 0} → List (ClientPeer S) → List Queued
queues_of peers = map (λ peer. peer.carrier.queue) peers

-- nothing came of one yet, nothing waits for it, and its stream isn't over
abbrev pub IsFresh : {S : Type 0} → ClientPeer S → Type 0
IsFresh peer = (peer.carrier.frames ≡ []) × (peer.carrier.queue ≡ nothing_queued) × (peer.carrier.over ≡ false)

-- new peers are added behind the others, with numbers after the last given one
pub record Accepts (old new : Clients) : Type 0 where
  pub rises : old.last ≤ new.last
  pub numbers : numbers_of new.all.items ≡ numbers_of old.all.items ++ range_with_len (old.last + 1) (new.last - old.last)

-- the others are as they were, and of those that came nothing came and for them nothing waits
pub record HaveCome (old new : Clients) : Type 0 where
  pub came : List (ClientPeer UnixStream)
  pub fresh : All IsFresh came
  pub behind : new.all.items ≡ old.all.items ++ came

-- the same are there, and none came
pub record Stays (old new : Clients) : Type 0 where
  pub last : new.last ≡ old.last
  pub numbers : numbers_of new.all.items ≡ numbers_of old.all.items

-- none came
abbrev pub NoneCame : Clients → Clients → Type 0
NoneCame old new = (new.last ≡ old.last) × (new.all.items ≡ old.all.items)

-- one came, under the next number
pub record OneCame (old new : Clients) : Type 0 where
  pub peer : ClientPeer UnixStream
  pub number : peer.number ≡ old.last + 1
  pub fresh : IsFresh peer
  pub last : new.last ≡ old.last + 1
  pub behind : new.all.items ≡ old.all.items ++ peer ∷ []

-- none came, or one
abbrev pub AcceptsOne : Clients → Clients → Type 0
AcceptsOne old new = NoneCame old new ⊎ OneCame old new

-- an address is that of one that is there
abbrev pub IsOf : Clients → Addr → Type 0
IsOf clients addr = (number : ℕ) × Contains (numbers_of clients.all.items) number × (addr ≡ address_of number)

-- a client instance that was asked has no whole datagram now, or its stream is over
abbrev pub HasNone : {S : Type 0} → ClientPeer S → Type 0
HasNone peer = (peer.carrier.over ≡ true) ⊎ (front_of peer.carrier.frames ≡ Part)

-- the one at a place has none
abbrev pub HasNoneAt : {S : Type 0} → List (ClientPeer S) → ℕ → Type 0
HasNoneAt all at = IfSome (slice_get all at) HasNone

-- so many places behind a first one, round
abbrev pub place_behind : ℕ → ℕ → ℕ → ℕ
place_behind count first step = (first % count + step) % count

-- each peer was asked, from the next one on, and has none; the next call begins with the same one
abbrev pub HaveNone : Clients → Clients → Type 0
HaveNone old new =
    ((k : ℕ) → k < length old.all.items → HasNoneAt new.all.items (place_behind (length old.all.items) old.turn k)) × (new.turn ≡ old.turn)

-- the one at a place is the next in its turn: all others from the first place on to it have none
pub record IsNext {S : Type 0} (all : List (ClientPeer S)) (first at : ℕ) : Type 0 where
  pub step : ℕ
  pub within : at < length all
  pub is : at ≡ place_behind (length all) first step
  pub before : (k : ℕ) → k < step → place_behind (length all) first k ≢ at → HasNoneAt all (place_behind (length all) first k)

-- A datagram came from the next in its turn, and another time the one behind it is asked first.
pub record IsInTurn (old new : Clients) (from : Addr) : Type 0 where
  pub at : ℕ
  pub next : IsNext new.all.items old.turn at
  pub is : IfSome (slice_get new.all.items at) (λ peer. from ≡ address_of peer.number)
  pub turn : new.turn ≡ at + 1

-- the one at a place has a number
abbrev pub IsPlaceOf : {S : Type 0} → List (ClientPeer S) → ℕ → ℕ → Type 0
IsPlaceOf {S} all at number = (peer : ClientPeer S) × (slice_get all at ≡ Some peer) × (peer.number ≡ number)

-- a datagram was queued for the one at a place, and no other changed
pub record IsQueuedAt {S : Type 0} (olds news : List (ClientPeer S)) (at : ℕ) (datagram : List ℕ) : Type 0 where
  pub old : ClientPeer S
  pub new : ClientPeer S
  pub there : slice_get olds at ≡ Some old
  pub then_there : slice_get news at ≡ Some new
  pub queued : IsQueued old.carrier.queue datagram new.carrier.queue
  pub others : (k : ℕ) → k ≢ at → slice_get news k ≡ slice_get olds k

-- for the peer at a place, a datagram was lost, with the later ones of its instruction, or its stream is closed; no other peer changed
pub record IsLostAt {S : Type 0} (olds news : List (ClientPeer S)) (at : ℕ) : Type 0 where
  pub old : ClientPeer S
  pub new : ClientPeer S
  pub there : slice_get olds at ≡ Some old
  pub then_there : slice_get news at ≡ Some new
  pub lost : IsLost old.carrier.queue new.carrier.queue ⊎ ((old.carrier.over ≡ true) × (new ≡ old))
  pub others : (k : ℕ) → k ≢ at → slice_get news k ≡ slice_get olds k

-- it was for the one of a number
abbrev pub IsQueuedFor : {S : Type 0} → List (ClientPeer S) → List (ClientPeer S) → Option ℕ → List ℕ → Type 0
IsQueuedFor olds news None datagram = ⊥
IsQueuedFor olds news (Some number) datagram = (at : ℕ) × IsPlaceOf olds at number × IsQueuedAt olds news at datagram

-- it was lost for the one of a number, or nobody has it and nothing changed
abbrev pub IsLostFor : {S : Type 0} → List (ClientPeer S) → List (ClientPeer S) → Option ℕ → Type 0
IsLostFor olds news None = news ≡ olds
IsLostFor olds news (Some number) =
    (All (λ peer. peer.number ≢ number) olds × (news ≡ olds)) ⊎ ((at : ℕ) × IsPlaceOf olds at number × IsLostAt olds news at)

-- the results of a stream's reads and writes, if they are known
abbrev pub AnswersOf : Type 0 → Type 0
AnswersOf S = S → Option (List Answer)

-- as many queued bytes of a client instance were written as go at this moment
abbrev pub IsDone : {S : Type 0} → AnswersOf S → ClientPeer S → ClientPeer S → Type 0
IsDone answers old new =
    HasStopped new.carrier.over new.carrier.queue.waiting (answers old.carrier.stream) (answers new.carrier.stream)

-- all of them were, or some were, from the front; the bytes from it stay
pub record IsFlushed {S : Type 0} (answers : AnswersOf S) (old new : ClientPeer S) : Type 0 where
  pub number : new.number ≡ old.number
  pub left : (count : ℕ) × (new.carrier.queue.waiting ≡ drop count old.carrier.queue.waiting)
  pub frames : new.carrier.frames ≡ old.carrier.frames
  pub tried : IsDone answers old new ⊎ HasAnswered IsOk (answers old.carrier.stream) (answers new.carrier.stream)

-- its stream isn't over
abbrev pub is_open : {S : Type 0} → ClientPeer S → Bool
is_open peer = not peer.carrier.over

-- The queued bytes of each were written, in part or as far as possible, and the peers stay whose stream isn't closed.
pub record KeepsOpen {S : Type 0} (answers : AnswersOf S) (olds news : List (ClientPeer S)) (is_all : Bool) : Type 0 where
  pub mids : List (ClientPeer S)
  pub each : AllZip (IsFlushed answers) olds mids
  pub done : is_all ≡ true → AllZip (IsDone answers) olds mids
  pub open_ones : news ≡ filter is_open mids
