-- The effect of a datagram of a read-only instance, whatever else its bytes are.
use Rattle.std.proofs.Common.{◌≡◌, ◌⊎◌, ℕ, List, [], length, drop, Option, Some, None, Bool, true, false, inl, inr, refl, sym, ap, ◌∙◌, subst, cond, arith}
use Rattle.std.specs.Prelude.{Result, Ok, Err, IfOk, IfErr, IfSome, OnErr, nat_eq, nat_lt, not}
use Rattle.roam_cells.specs.declared.faults.Fault.{Fault}
use Rattle.roam_cells.specs.declared.faults.Fault.TheVariants.{OutOfMemory, Busy}
use Rattle.roam_cells.specs.declared.faults.Reason.{Reason}
use Rattle.roam_cells.specs.declared.faults.Reason.TheVariants.{Short, Magic}
use Rattle.roam_wire.specs.declared.datagrams.Kind.{Kind}
use Rattle.roam_wire.specs.declared.datagrams.Kind.TheVariants.{FromWatcher}
use Rattle.roam_wire.specs.declared.versions.Version.{Version}
use Rattle.roam_wire.specs.declared.versions.Version.TheVariants.{One, Two}
use Rattle.roam_wire.specs.Versions.{version_numbered}
use Rattle.roam_wire.specs.Datagrams.{DatagramValue}
use Rattle.roam_wire.specs.Headers.{header_at, kind_tagged, fragment_fault, kind_unless, version_unless, checked_header, datagram_with, datagram_if, datagram_at}
use Rattle.roam_wire.specs.Gatherers.{Gathering}
use Rattle.roam_wire.specs.Instructions.{UpValue}
use Rattle.roam_wire.proofs.Heads.{again}
use Rattle.roam_model.specs.Texts.{Address, is_watching, SaysUp}
use Rattle.roam_model.specs.Servers.{Server, moment}
use Rattle.roam_model.specs.ServerArrivals.{new_acts, after_acts, after_note, room_for}
use Rattle.roam_model.specs.Laws.{IsSameBut}
use Rattle.roam_model.proofs.Follows.{fresh_none, same_acts}
use Rattle.roam_model.proofs.Members.{put_other}
use Rattle.roam_model.proofs.Runs.{reach_low}
use Rattle.roam_hub.specs.Clients.{IsTextOf}
use Rattle.roam_hub.specs.declared.addresses.Stop.{Stop}
use Rattle.roam_hub.specs.declared.taking.Taking.{Taking}
use Rattle.roam_hub.specs.Servers.{ServerView, Stands, Comes, no_datagram, refused, fragment, unread, all_taken, no_room, no_memory_at_act, no_memory, ComesFromWatcher, taken_in, TakesNothing, IsStopAtAct}
use Rattle.roam_hub.specs.Records.{answer_to_datagram}

-- ---- bytes

-- a datagram has the client instance and the kind in its bytes
record Tells (bytes : List ℕ) (d : DatagramValue) : Type 0 where
  client : d.client ≡ (header_at bytes).client
  kind : kind_tagged d.version (header_at bytes).kind ≡ Some d.kind

kind_told : (tag : ℕ) (v : Version) (fault : Option Reason) (k : Option Kind) (p : Version × Kind) → kind_tagged v tag ≡ k
    → kind_unless v fault k ≡ Ok p → kind_tagged p.0 tag ≡ Some p.1
kind_told tag v fault None p f g = absurd (cc)
kind_told tag v (Some r) (Some k) p f g = absurd (cc)
kind_told tag v None (Some k) p f g =
    let z : (v, k) ≡ p = cc in subst (λ (q : Version × Kind). kind_tagged q.0 tag ≡ Some q.1) z f

tagged : (bytes : List ℕ) (rest : ℕ) (p : Version × Kind) → checked_header (header_at bytes) rest ≡ Ok p
    → kind_tagged p.0 (header_at bytes).kind ≡ Some p.1
tagged bytes rest p e = go (nat_eq (header_at bytes).magic 0x524D) (version_numbered (header_at bytes).version) e
  where
    go : (b : Bool) (o : Option Version) → cond (not b) (Err Magic) (version_unless (header_at bytes) rest o) ≡ Ok p
        → kind_tagged p.0 (header_at bytes).kind ≡ Some p.1
    go false o f = absurd (cc)
    go true None f = absurd (cc)
    go true (Some v) f =
        kind_told (header_at bytes).kind v (fragment_fault v (header_at bytes) rest) (kind_tagged v (header_at bytes).kind) p refl f

tells : (bytes : List ℕ) (d : DatagramValue) → datagram_at bytes ≡ Ok d → Tells bytes d
tells bytes d e = go (nat_lt (length bytes) 42) (checked_header (header_at bytes) (length (drop 42 bytes))) refl e
  where
    go : (b : Bool) (r : Result (Version × Kind) Reason) → checked_header (header_at bytes) (length (drop 42 bytes)) ≡ r
        → cond b (Err Short) (datagram_if (header_at bytes) (drop 42 bytes) r) ≡ Ok d → Tells bytes d
    go true r f g = absurd (cc)
    go false (Err why) f g = absurd (cc)
    go false (Ok p) f g =
        let same : datagram_with (header_at bytes) (drop 42 bytes) p.0 p.1 ≡ d = cc in
        subst (Tells bytes) same (record { client = refl; kind = tagged bytes (length (drop 42 bytes)) p f })

watcher_tagged : (v : Version) (kind : Kind) → kind_tagged v 3 ≡ Some kind → kind ≡ FromWatcher
watcher_tagged One kind e = absurd (cc)
watcher_tagged Two kind e = cc

text_tells : (bytes : List ℕ) (d : DatagramValue) → IsTextOf bytes d → Tells bytes d
text_tells bytes d t = tells bytes d (ap datagram_at t.spelled ∙ again d t.is)

watching : (bytes : List ℕ) (d : DatagramValue) → IsTextOf bytes d → ComesFromWatcher bytes → is_watching d.kind ≡ true
watching bytes d t w =
    ap is_watching (watcher_tagged d.version d.kind (sym (ap (kind_tagged d.version) w) ∙ (text_tells bytes d t).kind))

-- ---- a server

module _ (s : Server) (from : Address) (bytes : List ℕ) (now : ℕ) (result : Result ℕ Stop) (new : ServerView) (w : ComesFromWatcher bytes) where
  as_it_was : taken_in result ≡ 0 → Stands new s → TakesNothing s bytes result new
  as_it_was none st =
      record {
        none = none;
        left = s;
        stands = st;
        same = record { size = refl; log = refl; cuts = refl; made_at = refl; input = refl; records = (λ j other. refl) };
      }

  none_new : (d : DatagramValue) (text : List ℕ) (u : UpValue) → IsTextOf bytes d → SaysUp (is_watching d.kind) text u → u.acts ≡ []
  none_new d text u t says = says.is.none (watching bytes d t w)

  no_length : (d : DatagramValue) (u : UpValue) → u.acts ≡ [] → length (new_acts s d u) ≡ 0
  no_length d u none = ap length (fresh_none (s.records d.client).taken u.first u.acts none)

  no_reach : (d : DatagramValue) (u : UpValue) → u.acts ≡ [] → room_for s d u ≡ 0
  no_reach d u none =
      let le = reach_low s.size s.log d.client (new_acts s d u) in
      let z = no_length d u none in
      omega (arith, le, z)

  without_acts : (d : DatagramValue) (g : Gathering) (u : UpValue) (n : ℕ) → IsTextOf bytes d → u.acts ≡ [] → n ≡ 0
      → taken_in result ≡ n → Stands new (after_acts s d from (moment s now) g u n) → TakesNothing s bytes result new
  without_acts d g u n t none nil count st =
      record {
        none = count ∙ nil;
        left = after_acts s d from (moment s now) g u n;
        stands = st;
        same =
            subst (λ (id : ℕ). IsSameBut id s (after_acts s d from (moment s now) g u n)) (text_tells bytes d t).client
            (same_acts s d from (moment s now) g u n none nil);
      }

  pub takes_nothing : Comes s from bytes now result new → TakesNothing s bytes result new
  takes_nothing (no_datagram why is r st) = as_it_was (ap taken_in r) st
  takes_nothing (refused d fault is e r st) = as_it_was (ap taken_in r) st
  takes_nothing (fragment d g is e r st) =
      record {
        none = ap taken_in r;
        left = after_note s d from (moment s now) g;
        stands = st;
        same =
            subst (λ (id : ℕ). IsSameBut id s (after_note s d from (moment s now) g)) (text_tells bytes d is).client
            (record {
              size = refl;
              log = refl;
              cuts = refl;
              made_at = refl;
              input = refl;
              records = (λ j other. put_other s.records d.client _ j other);
            });
      }
  takes_nothing (unread d g text why is e says r st) = as_it_was (ap taken_in r) st
  takes_nothing (all_taken d g text u is e says room r st) =
      let none = none_new d text u is says in
      without_acts d g u (length (new_acts s d u)) is none (no_length d u none) (ap taken_in r) st
  takes_nothing (no_room d g text u is e says low r st) =
      let none = none_new d text u is says in
      without_acts d (s.records d.client).gathering u (room_for s d u) is none (no_reach d u none) (ap taken_in r) st
  takes_nothing (no_memory_at_act d g text u n is e says low r st) =
      let none = none_new d text u is says in
      let z = no_reach d u none in
      without_acts d (s.records d.client).gathering u n is none (omega (arith, low, z)) (ap taken_in r) st
  takes_nothing (no_memory d is r st) = as_it_was (ap taken_in r) st

-- ---- a refusal

-- a refusal that isn't one at an act leaves the server
pub leaves_all : (result : Result Taking Fault) (old new : ServerView)
    → IfOk result (λ t. IfSome t.stopped (λ fault. (fault ≡ OutOfMemory) ⊎ (fault ≡ Busy))) → OnErr result (new ≡ old)
    → IfErr (answer_to_datagram result) (λ stop. IsStopAtAct stop ⊎ (new ≡ old))
leaves_all (Err fault) old new stops same = inr same
leaves_all (Ok t) old new stops same = go t.stopped stops
  where
    go : (o : Option Fault) → IfSome o (λ fault. (fault ≡ OutOfMemory) ⊎ (fault ≡ Busy))
        → IfErr (Rattle.roam_hub.specs.Records.answer_with t.taken o) (λ stop. IsStopAtAct stop ⊎ (new ≡ old))
    go None n = tt
    go (Some fault) n = inl n
