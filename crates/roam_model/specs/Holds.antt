-- The invariant of every world that can be reached.
use Rattle.std.specs.Prelude.{◌≡◌, ℕ, zero, suc, ◌<◌, ◌≤◌, ◌^◌, All, List, [], length, take, slice_index, slice_get, Option, Some, None, Bool, true, false}
use Rattle.roam_acts.specs.Limits.{number_limit, most_unacknowledged}
use Rattle.roam_acts.specs.declared.acts.Act.{Act}
use Rattle.roam_acts.specs.Acts.{IsAct}
use Rattle.roam_acts.specs.Senders.{HasTyped, IsStretch}
use Rattle.roam_model.specs.Versions.{IsSeenBy, applied_by}
use Rattle.roam_sync.specs.Links.{Update}
use Rattle.roam_sync.specs.TrueLinks.{TrueLink}
use Rattle.roam_sync.specs.InStep.{AreInStep}
use Rattle.roam_wire.specs.Cutting.{fragments_of}
use Rattle.roam_wire.specs.Gatherers.{Gathering, fragment_of}
use Rattle.roam_wire.specs.AnyOrder.{IsFragmentOf, GathersOf}
use Rattle.roam_wire.specs.Instructions.{DownValue, IsDown, down_text, UpValue, IsUp, up_text}
use Rattle.roam_layout.specs.Layouts.{IsSessionSize}
use Rattle.roam_session.specs.Sessions.{SessionSize, Entry}
use Rattle.roam_model.specs.Lists.{IsIn}
use Rattle.roam_model.specs.Numbers.{screen, IsScreenOf, acts_of}
use Rattle.roam_model.specs.Texts.{is_to_server, is_watching, update_in}
use Rattle.roam_model.specs.Servers.{Record, no_record}
use Rattle.roam_model.specs.ServerArrivals.{most_of, alike}
use Rattle.roam_model.specs.Clients.{Client, nobody}
use Rattle.roam_model.specs.Worlds.{World}
use Rattle.roam_model.specs.Laws.{greatest_from, no_note}
use Rattle.roam_wire.specs.declared.versions.Version.{Version}
use Rattle.roam_wire.specs.declared.versions.Version.TheVariants.{Two}
use Rattle.roam_wire.specs.Datagrams.{DatagramValue, IsDatagram}

-- the instruction of an id, of those that were sent
abbrev pub instruction_of : {V : Type 0} → List V → ℕ → Option V
instruction_of vs zero = None
instruction_of vs (suc n) = slice_get vs n

abbrev pub fragments_by : {V : Type 0} → (V → List ℕ) → Option V → List (List ℕ)
fragments_by text_of None = []
fragments_by text_of (Some v) = fragments_of (text_of v)

-- for each id the fragments of its instruction's text
abbrev pub cuts_of : {V : Type 0} → (V → List ℕ) → List V → ℕ → List (List ℕ)
cuts_of text_of vs n = fragments_by text_of (instruction_of vs n)

-- the gathered fragments are of one of these instructions
pub record Gathers {V : Type 0} (text_of : V → List ℕ) (vs : List V) (g : Gathering) : Type 0 where
  pub of : GathersOf (cuts_of text_of vs) g
  pub low : g.id ≤ length vs

-- the update was sent
abbrev pub Tells : List DownValue → Update → Type 0
Tells vs u = (v : DownValue) × IsIn v vs × (update_in v ≡ u)

-- the number was acknowledged
abbrev pub Acks : List UpValue → ℕ → Type 0
Acks us n = (u : UpValue) × IsIn u us × (u.acked ≡ n)

-- of the acts of a client instance, from typing to taking
pub record ActsOf (taken : List Act) (r : Record) (c : Client) : Type 0 where
  pub count : r.taken ≡ length taken
  pub front : taken ≡ take r.taken c.typed
  pub low : r.taken ≤ length c.typed
  pub typed : HasTyped c.kept.acts c.typed
  pub few : length c.kept.acts.acts ≤ most_unacknowledged
  pub below : length c.typed < number_limit
  pub are : All IsAct c.typed
  pub told : (u : UpValue) → IsIn u c.instructions → IsStretch c.typed u.first u.acts

-- of one client instance and its record
pub record LinkOf (size : SessionSize) (log : List Entry) (cuts : List ℕ) (taken : List Act) (r : Record) (c : Client) : Type 0 where
  pub truth : TrueLink (applied_by c.kept.version) (IsScreenOf c.kept.version size log cuts) r.sender c.kept.receiver (Tells r.instructions)
  pub in_step : AreInStep r.sender c.kept.receiver (Tells r.instructions) (Acks c.instructions)
  pub acts : ActsOf taken r c
  pub downs : (v : DownValue) → IsIn v r.instructions → IsDown v
  pub ups : (u : UpValue) → IsIn u c.instructions → IsUp u
  pub gathers_down : Gathers down_text r.instructions c.kept.gathering
  pub gathers_up : Gathers up_text c.instructions r.gathering
  pub count : c.kept.instructions ≡ length c.instructions
  pub notes : greatest_from no_note r.notes ≡ record { number = r.latest; source = r.address }

-- a datagram is a fragment of the instruction that was sent under its id
abbrev pub IsFragment : Bool → DatagramValue → Record → Client → Type 0
IsFragment false d r c = IsFragmentOf (cuts_of down_text r.instructions) (fragment_of d)
IsFragment true d r c = IsFragmentOf (cuts_of up_text c.instructions) (fragment_of d)

-- its client instance was made, it has that one's version, and its kind to the server names a read-only instance
pub record Bears (d : DatagramValue) (c : Client) : Type 0 where
  pub made : c.made ≡ true
  pub version : d.version ≡ c.kept.version
  pub watches : is_to_server d.kind ≡ true → is_watching d.kind ≡ c.kept.watches

-- a record that is known is of an instance that was made, has its version, and watches as it does; another one has nothing
pub record Fits (r : Record) (c : Client) : Type 0 where
  pub made : r.known ≡ true → c.made ≡ true
  pub version : r.known ≡ true → r.version ≡ c.kept.version
  pub watches : r.known ≡ true → r.watches ≡ c.kept.watches
  pub none : r.known ≡ false → r ≡ no_record

-- nothing is typed at an instance that only watches, and it is of version 2
abbrev pub OnlyWatches : Client → Type 0
OnlyWatches c = c.kept.watches ≡ true → (c.typed ≡ []) × (c.kept.version ≡ Two)

-- each number is a place in the log
abbrev pub AreCuts : List Entry → List ℕ → Type 0
AreCuts log cuts = (k : ℕ) → k < length cuts → slice_index cuts k ≤ length log

-- each number has a screen in each version
abbrev pub AreScreens : SessionSize → List Entry → List ℕ → Type 0
AreScreens size log cuts = (v : Version) (n : ℕ) → n ≤ length cuts → IsSeenBy v (screen v size log cuts n)

pub record Holds (w : World) : Type 0 where
  pub size : IsSessionSize w.server.size.rows w.server.size.cols
  pub numbers : length w.server.cuts < number_limit
  pub cuts : AreCuts w.server.log w.server.cuts
  pub screens : AreScreens w.server.size w.server.log w.server.cuts
  pub links : (id : ℕ) → LinkOf w.server.size w.server.log w.server.cuts (acts_of id w.server.log) (w.server.records id) (w.clients id)
  pub fragments : (d : DatagramValue) → IsIn d w.sent → IsFragment (is_to_server d.kind) d (w.server.records d.client) (w.clients d.client)
  pub bears : (d : DatagramValue) → IsIn d w.sent → Bears d (w.clients d.client)
  pub fits : (id : ℕ) → Fits (w.server.records id) (w.clients id)
  pub watchers : (id : ℕ) → OnlyWatches (w.clients id)
  pub unused : (id : ℕ) → (w.clients id).made ≡ false → w.clients id ≡ nobody
  pub slots : (slot id : ℕ) → w.slots slot ≡ Some id → (w.clients id).made ≡ true

-- the counts, and all datagrams that were sent
pub record Counts (w : World) : Type 0 where
  pub session : w.server.session < 2 ^ 64
  pub starts : (id : ℕ) → (w.clients id).made ≡ true → id < 2 ^ 64
  pub arrived : (id : ℕ) → (w.server.records id).known ≡ true → IsIn id w.server.arrival
  pub known : (id : ℕ) → IsIn id w.server.arrival → (w.server.records id).known ≡ true
  pub ids : (id : ℕ) → IsIn id w.server.arrival → id < 2 ^ 64
  pub few : (watches : Bool) → length (alike w.server watches) ≤ most_of watches
  pub sent : (d : DatagramValue) → IsIn d w.sent → IsDatagram d
