-- Client instances are asked one after another, round.
use Rattle.std.proofs.Common.{◌≡◌, ◌≢◌, ℕ, ◌+◌, ◌<◌, List, Some, get_or, length, slice_get, slice_set, ◌∙◌, sym, ap, subst, inl, inr, arith}
use Rattle.std.specs.Prelude.{◌⊎◌, true, IfSome}
use Rattle.std.proofs.lemmas.Bool.{cases_lt, cases_order}
use Rattle.std.proofs.lemmas.Grind.{common_steps}
use Rattle.std.proofs.lemmas.List.{get_or-set_same, length-set}
use Rattle.std.proofs.lemmas.Option.{gets, slice_get-get_or}
use Rattle.std.specs.List.{All}
use Rattle.roam_stream_framing.specs.Queues.{IsLost, IsQueued}
use Rattle.roam_sockets.specs.Clients.{HasNone, HasNoneAt, IsLostAt, IsQueuedAt, place_behind}
use Rattle.mio.specs.declared.net.uds.stream.UnixStream.{UnixStream}
use Rattle.roam_sockets.specs.declared.clients.ClientPeer.{ClientPeer}

-- one was asked: that has none now, and no other changed
pub still_none : (all all' : List (ClientPeer UnixStream)) (at p : ℕ) → HasNoneAt all' at → ((k : ℕ) → k ≢ at → slice_get all' k ≡ slice_get all k)
    → HasNoneAt all p → HasNoneAt all' p
still_none all all' at p here others none = elim (cases_order p at) [
  | inl same ↦ subst (λ k. HasNoneAt all' k) (sym same) here
  | inr other ↦ elim other [
    | inl less ↦ subst (λ o. IfSome o HasNone) (sym (others p (λ same. absurd (omega arith)))) none
    | inr more ↦ subst (λ o. IfSome o HasNone) (sym (others p (λ same. absurd (omega arith)))) none
  ]
]

-- of a count, the first so many from one on have none
abbrev pub HaveNone : ℕ → List (ClientPeer UnixStream) → ℕ → ℕ → Type 0
HaveNone count all first step = (k : ℕ) → k < step → HasNoneAt all (place_behind count first k)

pub one_less : (count : ℕ) (all all' : List (ClientPeer UnixStream)) (first step : ℕ) → HasNoneAt all' (place_behind count first step)
    → ((k : ℕ) → k ≢ place_behind count first step → slice_get all' k ≡ slice_get all k) → HaveNone count all first step
    → HaveNone count all' first (step + 1)
one_less count all all' first step here others none k lt = elim (cases_lt k step) [
  | inl before ↦ still_none all all' (place_behind count first step) (place_behind count first k) here others (none k before)
  | inr last ↦ let is : step ≡ k = omega arith in subst (λ n. HasNoneAt all' (place_behind count first n)) is here
]

-- the others that had none have none
pub before_it : (count count' : ℕ) (all all' : List (ClientPeer UnixStream)) (first step at : ℕ) → count' ≡ count
    → ((k : ℕ) → k ≢ at → slice_get all' k ≡ slice_get all k) → HaveNone count all first step
    → (k : ℕ) → k < step → place_behind count' first k ≢ at → HasNoneAt all' (place_behind count' first k)
before_it count count' all all' first step at same others none k lt other =
    let none_here = subst (λ n. HasNoneAt all (place_behind n first k)) (sym same) (none k lt) in
    subst (λ o. IfSome o HasNone) (sym (others (place_behind count' first k) other)) none_here

-- ---- the one at a place

other_place : (all : List (ClientPeer UnixStream)) (at k : ℕ) (new : ClientPeer UnixStream) → k ≢ at → slice_get (slice_set all at new) k ≡ slice_get all k
other_place all at k new other = grind (arith, common_steps, gets)

-- a datagram was queued for it
pub queued_at : (all : List (ClientPeer UnixStream)) (at : ℕ) (old new : ClientPeer UnixStream) (datagram : List ℕ) → at < length all
    → IsQueued (get_or all at old).carrier.queue datagram new.carrier.queue → IsQueuedAt all (slice_set all at new) at datagram
queued_at all at old new datagram lt queued = record {
  old = get_or all at old;
  new = new;
  there = slice_get-get_or all at old lt;
  then_there = slice_get-get_or (slice_set all at new) at new (omega (arith, lt, length-set all at new)) ∙ ap Some (get_or-set_same all at new new lt);
  queued = queued;
  others = λ k other. other_place all at k new other;
}

-- one was lost for it
pub lost_at : (all : List (ClientPeer UnixStream)) (at : ℕ) (old new : ClientPeer UnixStream) → at < length all
    → (IsLost (get_or all at old).carrier.queue new.carrier.queue ⊎ (((get_or all at old).carrier.over ≡ true) × (new ≡ get_or all at old)))
    → IsLostAt all (slice_set all at new) at
lost_at all at old new lt lost = record {
  old = get_or all at old;
  new = new;
  there = slice_get-get_or all at old lt;
  then_there = slice_get-get_or (slice_set all at new) at new (omega (arith, lt, length-set all at new)) ∙ ap Some (get_or-set_same all at new new lt);
  lost = lost;
  others = λ k other. other_place all at k new other;
}

-- ---- whose number is another

-- none of the first has a number
abbrev pub AreOthers : List (ClientPeer UnixStream) → ℕ → ℕ → Type 0
AreOthers all number count = (k : ℕ) (d : ClientPeer UnixStream) → k < length all → k < count → (get_or all k d).number ≢ number

pub one_other : (all : List (ClientPeer UnixStream)) (number at : ℕ) → AreOthers all number at
    → ((d : ClientPeer UnixStream) → (get_or all at d).number ≢ number) → AreOthers all number (at + 1)
one_other all number at others one k d lt less = elim (cases_lt k at) [
  | inl before ↦ others k d lt before
  | inr here ↦ let is : at ≡ k = omega arith in subst (λ n. (get_or all n d).number ≢ number) is (one d)
]

pub all_other : (all : List (ClientPeer UnixStream)) (number : ℕ) → AreOthers all number (length all)
    → All (λ (peer : ClientPeer UnixStream). peer.number ≢ number) all
all_other all number others k d lt = others k d lt lt
