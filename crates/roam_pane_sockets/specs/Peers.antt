-- The peers of a pane's socket: the programs that come to it.
use Rattle.std.specs.Prelude.{ℕ, ◌≡◌, ◌≢◌, ◌+◌, ◌-◌, ◌≤◌, ◌⊎◌, ◌||◌, Bool, true, false, List, [], ◌∷◌, length, slice_get, Option, Some, None, IsSome, IfSome, is_some, Result, Ok, Err}
use Rattle.std.specs.declared.io.Error.{Error}
use Rattle.roam_faults.specs.Streams.{IsForNow}
use Rattle.mio.specs.declared.net.uds.stream.UnixStream.{UnixStream}
use Rattle.roam_pane_sockets.specs.PaneInputs.{Brings, IsFreshPaneInput}
use Rattle.roam_pane_sockets.specs.FilterStages.{HasFree, IsFree, frame_goes_on, waits_until}
use Rattle.roam_pane_sockets.specs.Moments.{sooner}
use Rattle.roam_pane_sockets.specs.declared.peers.Making.{Making}
use Rattle.roam_pane_sockets.specs.declared.pane_inputs.PaneInput.{PaneInput}
use Rattle.roam_pane_sockets.specs.declared.panes.Pane.{Pane}

-- a peer that answers a read or a write so has failed: it isn't only that nothing goes at this moment
abbrev pub HasFailed : Result ℕ Error → Type 0
HasFailed (Ok n) = ⊥
HasFailed (Err error) = IsForNow error → ⊥

-- which making of a pane is there, or none
abbrev pub generation_in : Option Making → Option ℕ
generation_in None = None
generation_in (Some making) = Some making.generation

-- the peer that came to the making that is there
abbrev pub peer_in : Option Making → Option UnixStream
peer_in None = None
peer_in (Some making) = making.peer.stream

-- a peer came to the making that is there
abbrev pub has_peer : Option Pane → Bool
has_peer None = false
has_peer (Some pane) = is_some (peer_in pane.making)

-- at a moment, some queued bytes of an open pane may go on
abbrev pub HasFreeIn : ℕ → Option Pane → Type 0
HasFreeIn now None = ⊥
HasFreeIn now (Some pane) = IsSome (generation_in pane.making) × HasFree now pane.pane_input.filter_stage

-- the bytes of the generation of a pane with a socket
abbrev pub pane_input_in : Option Pane → Option PaneInput
pane_input_in None = None
pane_input_in (Some pane) = Some pane.pane_input

-- At the socket of a pane nothing happened behind which more may wait: no peer came or went, and nothing came.
pub record IsStill (pane : ℕ) (old new : List Pane) : Type 0 where
  pub peer : has_peer (slice_get new (pane - 1)) ≡ has_peer (slice_get old (pane - 1))
  pub pane_input : pane_input_in (slice_get new (pane - 1)) ≡ pane_input_in (slice_get old (pane - 1))

-- the pane has this generation from now on, or none: a peer of the generation stays; any other is dropped, with all its bytes
pub record Generations (generation : Option ℕ) (p q : Pane) : Type 0 where
  pub generations : generation_in q.making ≡ generation
  pub stays : generation_in p.making ≡ generation → q ≡ p
  pub goes : generation_in p.making ≢ generation → peer_in q.making ≡ None
  pub fresh : generation_in p.making ≢ generation → IsFreshPaneInput q.pane_input (is_some p.pane_input.filter_stage)

-- Bytes are offered to the pane's program, and some are taken or none. The generation stays. A closed pane accepts no peer. A connected
-- peer stays or leaves, and no other takes its place. Bytes are taken only by a peer of the generation.
pub record Asks (some : Bool) (p q : Pane) : Type 0 where
  pub generation : generation_in q.making ≡ generation_in p.making
  pub waits : generation_in p.making ≡ None → q ≡ p
  pub one : IfSome (peer_in p.making) (λ peer. (q ≡ p) ⊎ (peer_in q.making ≡ None))
  pub from : some ≡ true → IsSome (peer_in q.making)
  pub pane_input : q.pane_input ≡ p.pane_input

-- The pane's program is asked for bytes, and these go on to its terminal. The generation and its peers follow the same rule. The bytes of
-- this generation go on piece by piece, as they are or normalized. They come from a peer of the generation, or were queued.
pub record Hears (some : Bool) (bytes : List ℕ) (p q : Pane) : Type 0 where
  pub generation : generation_in q.making ≡ generation_in p.making
  pub waits : generation_in p.making ≡ None → q ≡ p
  pub one : IfSome (peer_in p.making) (λ peer. (q ≡ record p { pane_input = q.pane_input }) ⊎ (peer_in q.making ≡ None))
  pub from : some ≡ true → IsSome (peer_in q.making) ⊎ (IsFree p.pane_input.filter_stage → ⊥)
  pub brings : Brings p.pane_input q.pane_input bytes

-- of these sockets that of a pane, 1 to 9, went from one state to the other, and each other one is as it was
pub record Changes (Goes : Pane → Pane → Type 0) (pane : ℕ) (old new : List Pane) : Type 0 where
  pub count : length new ≡ length old
  pub others : (k : ℕ) → k + 1 ≢ pane → slice_get new k ≡ slice_get old k
  pub this : 1 ≤ pane → IfSome (slice_get old (pane - 1)) (λ p. IfSome (slice_get new (pane - 1)) (λ q. Goes p q))

-- another listener may be at the socket of a pane; all else is as it was
abbrev pub IsMended : Pane → Pane → Type 0
IsMended p q = q ≡ record p { listener = q.listener }

-- the first moment at which an update on the way to a pane's terminal ends
abbrev pub frames_until : List Pane → Option ℕ
frames_until [] = None
frames_until (pane ∷ panes) = sooner (waits_until pane.pane_input.filter_stage) (frames_until panes)

-- the rest of a frame is to go on to the terminal of one of these panes
abbrev pub any_goes_on : List Pane → Bool
any_goes_on [] = false
any_goes_on (pane ∷ panes) = frame_goes_on pane.pane_input.filter_stage || any_goes_on panes
