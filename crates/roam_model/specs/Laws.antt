-- The promises about every world that can be reached.
use Rattle.std.specs.Prelude.{◌≡◌, ◌⊎◌, ℕ, ◌<◌, ◌≤◌, ◌^◌, List, [], ◌∷◌, length, map, Some, nat_lt, if◌then◌else◌, true}
use Rattle.roam_sync.specs.Limits.{most_held}
use Rattle.roam_cells.specs.declared.faults.Fault.TheVariants.{OutOfMemory, BadChange}
use Rattle.roam_acts.specs.Acts.{IsAct}
use Rattle.roam_sync.specs.Senders.{newest, count}
use Rattle.roam_sync.specs.Receivers.{pairs}
use Rattle.roam_sync.specs.TrueLinks.{HoldsTrueStates, HasTrueStates}
use Rattle.roam_layout.specs.Layouts.{IsSessionSize}
use Rattle.roam_session.specs.Sessions.{SessionSize}
use Rattle.roam_sync.specs.Links.{IsAmong, numbers_held, numbers_had}
use Rattle.roam_wire.specs.Instructions.{DownValue}
use Rattle.roam_model.specs.Versions.{applied_by}
use Rattle.roam_model.specs.Lists.{IsIn, IsFront}
use Rattle.roam_model.specs.Numbers.{screen, IsScreenOf, acts_of}
use Rattle.roam_model.specs.Texts.{Address, is_to_server, is_watching}
use Rattle.roam_model.specs.Servers.{Note, Server, nowhere, moment}
use Rattle.roam_model.specs.Ticks.{Parcel, sent_by, is_live, number_after, after_tick}
use Rattle.roam_model.specs.Clients.{shown_number, shown_screen}
use Rattle.roam_model.specs.ClientArrivals.{IsGap}
use Rattle.roam_model.specs.Worlds.{World, new_world, Event, PaneBytes, Typed, ServerTick, ClientTick, ToServer, ToClient, Start, Drain, Reply, Heard, Failed, Stopped, datagram_at}
use Rattle.roam_model.specs.Steps.{wstep, Run}
use Rattle.roam_wire.specs.Datagrams.{DatagramValue}

-- ---- what can be reached

-- the conditions on events: acts that can be typed, with numbers in their ranges, and ids of 64 bits
abbrev pub IsEvent : Event → Type 0
IsEvent (PaneBytes pane bytes) = Unit {0}
IsEvent (Typed slot act) = IsAct act
IsEvent (ServerTick now) = Unit {0}
IsEvent (ClientTick slot now) = Unit {0}
IsEvent (ToServer k from now) = Unit {0}
IsEvent (ToClient slot k now) = Unit {0}
IsEvent (Start slot id v watches) = id < 2 ^ 64
IsEvent (Drain pane n) = Unit {0}

abbrev pub AreEvents : List Event → Type 0
AreEvents [] = Unit {0}
AreEvents (e ∷ es) = IsEvent e × AreEvents es

-- these events with these replies lead from a new world to this one; the session has this id and first size, which a session may have
pub record Reaches (session : ℕ) (size : SessionSize) (es : List Event) (rs : List Reply) (w : World) : Type 0 where
  pub id : session < 2 ^ 64
  pub limits : IsSessionSize size.rows size.cols
  pub events : AreEvents es
  pub run : Run (new_world session size) es rs w

-- so it is in each world that can be reached
abbrev pub Always : (World → Type 0) → Type 0
Always Is = (session : ℕ) (size : SessionSize) (es : List Event) (rs : List Reply) (w : World) → Reaches session size es rs w → Is w

-- ---- screens

-- each client instance shows a number that was made, or 0, and exactly the screen of that number
pub record ShowsTrueScreens (w : World) : Type 0 where
  pub made : (id : ℕ) → shown_number (w.clients id) ≤ length w.server.cuts
  pub same : (id : ℕ) → shown_screen (w.clients id) ≡ screen (w.clients id).kept.version w.server.size w.server.log w.server.cuts
      (shown_number (w.clients id))

-- so is each pair that a client instance or the sender of a record has
pub record HoldTrueScreens (w : World) : Type 0 where
  pub receivers : (id : ℕ) → HasTrueStates (IsScreenOf (w.clients id).kept.version w.server.size w.server.log w.server.cuts)
      (w.clients id).kept.receiver
  pub senders : (id : ℕ) → HoldsTrueStates (IsScreenOf (w.server.records id).version w.server.size w.server.log w.server.cuts)
      (w.server.records id).sender

-- no client instance and no sender ever has a ninth pair
pub record HoldAtMostEight (w : World) : Type 0 where
  pub receivers : (id : ℕ) → length (pairs (w.clients id).kept.receiver) ≤ most_held
  pub senders : (id : ℕ) → count (w.server.records id).sender ≤ most_held

-- no datagram that comes to a client instance leaves a gap or has a bad diff, whatever was lost, late or repeated
abbrev pub LeavesNoGap : World → Type 0
LeavesNoGap w = (slot k now : ℕ) (reply : Reply) (w' : World) → wstep w (ToClient slot k now) reply w'
    → ((reply ≡ Heard IsGap) → ⊥) × ((reply ≡ Failed BadChange) → ⊥)

-- two instances of one version that show one number show one screen
abbrev pub StartsAgree : World → Type 0
StartsAgree w = (id j : ℕ) → (w.clients id).kept.version ≡ (w.clients j).kept.version
    → shown_number (w.clients id) ≡ shown_number (w.clients j) → shown_screen (w.clients id) ≡ shown_screen (w.clients j)

-- ---- acts

-- The acts of each client instance that were taken are the first of those typed there, each once and in order, and its record counts them.
pub record TakesActsInOrder (w : World) : Type 0 where
  pub front : (id : ℕ) → IsFront (acts_of id w.server.log) (w.clients id).typed
  pub count : (id : ℕ) → (w.server.records id).taken ≡ length (acts_of id w.server.log)

-- ---- instances that only watch

-- Nothing is typed at one, and nothing is taken of it.
abbrev pub WatchersTakeNoPart : World → Type 0
WatchersTakeNoPart w = (id : ℕ) → (w.clients id).kept.watches ≡ true → ((w.clients id).typed ≡ []) × (acts_of id w.server.log ≡ [])

-- the server after another one, in which only the record of one instance may be another, and its moments
pub record IsSameBut (id : ℕ) (s s' : Server) : Type 0 where
  pub size : s'.size ≡ s.size
  pub log : s'.log ≡ s.log
  pub cuts : s'.cuts ≡ s.cuts
  pub made_at : s'.made_at ≡ s.made_at
  pub input : s'.input ≡ s.input
  pub records : (j : ℕ) → (j ≡ id → ⊥) → s'.records j ≡ s.records j

-- A datagram of one leaves the session, its log and every other record as they were, in every world.
abbrev pub WatchersDisturbNothing : World → Type 0
WatchersDisturbNothing w = (k : ℕ) (from : Address) (now : ℕ) (d : DatagramValue) (reply : Reply) (w' : World)
    → datagram_at w.sent k ≡ Some d → is_watching d.kind ≡ true → wstep w (ToServer k from now) reply w'
    → IsSameBut d.client w.server w'.server

-- ---- the headline

abbrev pub Headline : World → Type 0
Headline w = ShowsTrueScreens w × TakesActsInOrder w

-- ---- datagrams

-- An instruction's id names one text for good: two datagrams of one direction, instance and id have one count, and at one index one
-- payload.
abbrev pub NamesOneText : World → Type 0
NamesOneText w = (d e : DatagramValue) → IsIn d w.sent → IsIn e w.sent → is_to_server d.kind ≡ is_to_server e.kind → d.client ≡ e.client
    → d.id ≡ e.id
    → (d.count ≡ e.count) × (d.index ≡ e.index → d.payload ≡ e.payload)

-- of these the greatest-numbered, and of several such the first to come
abbrev pub greatest_from : Note → List Note → Note
greatest_from best [] = best
greatest_from best (note ∷ notes) = greatest_from (if nat_lt best.number note.number then note else best) notes

abbrev pub no_note : Note
no_note = record { number = 0; source = nowhere }

-- each datagram of a tick goes to the source of the greatest-numbered one that came from its instance
abbrev pub RepliesToLatest : World → Type 0
RepliesToLatest w = (now : ℕ) (p : Parcel) → IsIn p (sent_by w.server now)
    → p.to ≡ (greatest_from no_note (w.server.records p.datagram.client).notes).source

-- the record of an instance that is known to the server is one of its version and its kind
abbrev pub RecordsFit : World → Type 0
RecordsFit w = (id : ℕ) → (w.server.records id).known ≡ true
    → ((w.clients id).made ≡ true) × ((w.server.records id).version ≡ (w.clients id).kept.version)
    × ((w.server.records id).watches ≡ (w.clients id).kept.watches)

-- each client instance counts the instructions that it sent
abbrev pub CountsInstructions : World → Type 0
CountsInstructions w = (id : ℕ) → (w.clients id).kept.instructions ≡ length (w.clients id).instructions

-- ---- all of it together

-- of a client instance and its record
pub record KeepsStep (w : World) (id : ℕ) : Type 0 where
  -- the sender's base is there at the instance, whose pairs from there on are among the sender's
  pub base : IsAmong (w.server.records id).sender.base.number (numbers_had (w.clients id).kept.receiver)
  pub later : (n : ℕ) → IsAmong n (numbers_had (w.clients id).kept.receiver) → (w.server.records id).sender.base.number ≤ n
      → IsAmong n (numbers_held (w.server.records id).sender)
  -- the instance gathered no id above those that were sent to it
  pub gathered : (w.clients id).kept.gathering.id ≤ length (w.server.records id).instructions

-- The whole invariant, of which the headline is a part.
pub record KeepsAll (w : World) : Type 0 where
  -- each update that was ever sent leads from the screen of its old number to that of its new one
  pub updates : (id : ℕ) (v : DownValue) → IsIn v (w.server.records id).instructions
      → (v.old ≤ length w.server.cuts) × (v.new ≤ length w.server.cuts)
      × (applied_by (w.clients id).kept.version (screen (w.clients id).kept.version w.server.size w.server.log w.server.cuts v.old) v.change
      ≡ Some (screen (w.clients id).kept.version w.server.size w.server.log w.server.cuts v.new))
  -- an instruction's id names one text for good
  pub ids : NamesOneText w
  -- each pair at either end is a number with its screen
  pub pairs : HoldTrueScreens w
  -- an instance has its sender's base, and they are in step from there on
  pub step : (id : ℕ) → KeepsStep w id
  -- each update that was sent has its old number at the instance, or its new one isn't above the one that is shown
  pub known : (id : ℕ) (v : DownValue) → IsIn v (w.server.records id).instructions
      → IsAmong v.old (numbers_had (w.clients id).kept.receiver) ⊎ (v.new ≤ shown_number (w.clients id))
  -- a record's count is the length of a front of the acts typed
  pub count : TakesActsInOrder w

-- ---- one round

-- the k-th datagram was sent after the world w, and goes to this instance
abbrev pub IsFresh : World → World → ℕ → ℕ → DatagramValue → Type 0
IsFresh w w' id k d = (length w.sent < k) × (datagram_at w'.sent k ≡ Some d) × (d.client ≡ id)

-- deliveries to a slot, each by the place of its datagram and its moment
abbrev pub deliveries : ℕ → List (ℕ × ℕ) → List Event
deliveries slot ks = map (λ k. ToClient slot k.0 k.1) ks

-- just the datagrams that were sent to this instance since the world w, each at least once, in any order
pub record DeliversAll (w w' : World) (id : ℕ) (ks : List (ℕ × ℕ)) : Type 0 where
  pub just : (k now : ℕ) → IsIn (k, now) ks → (d : DatagramValue) × IsFresh w w' id k d
  pub all : (k : ℕ) (d : DatagramValue) → IsFresh w w' id k d → (now : ℕ) × IsIn (k, now) ks

-- A tick sends to an instance that is in a slot, just those datagrams come, and memory is never refused: then the instance shows the newest
-- number of its sender.
abbrev pub OneRoundSuffices : World → Type 0
OneRoundSuffices w = (slot id now : ℕ) (ks : List (ℕ × ℕ)) (reply : Reply) (w' : World) (rs : List Reply) (w'' : World)
    → w.slots slot ≡ Some id → wstep w (ServerTick now) reply w' → ((reply ≡ Failed OutOfMemory) → ⊥)
    → ((k : ℕ) × (d : DatagramValue) × IsFresh w w' id k d) → DeliversAll w w' id ks
    → Run w' (deliveries slot ks) rs w'' → (IsIn (Failed OutOfMemory) rs → ⊥)
    → shown_number (w''.clients id) ≡ (newest (w'.server.records id).sender).number

-- A tick offers the newest number to each record that it may send to: if the sender has fewer than eight, or has that number, its newest is
-- that number then.
abbrev pub OffersNewest : World → Type 0
OffersNewest w = (id now : ℕ) → is_live (w.server.records id) (moment w.server now) ≡ true
    → (count (w.server.records id).sender < most_held) ⊎ ((newest (w.server.records id).sender).number ≡ number_after w.server
    (moment w.server now))
    → (newest ((after_tick w.server (moment w.server now)).records id).sender).number ≡ number_after w.server (moment w.server now)

-- ---- answers

-- a reply that doesn't report want of memory
pub record IsAmple (reply : Reply) : Type 0 where
  pub whole : (reply ≡ Failed OutOfMemory) → ⊥
  pub part : (n : ℕ) → (reply ≡ Stopped OutOfMemory n) → ⊥

-- without want of memory, an event has one reply, and leads to one world
abbrev pub HasOneReply : World → Type 0
HasOneReply w = (e : Event) (r r' : Reply) (v v' : World) → wstep w e r v → wstep w e r' v' → IsAmple r → IsAmple r' → (r ≡ r') × (v ≡ v')

-- an event has a reply that doesn't report want of memory
pub record IsAnswered (w : World) (e : Event) : Type 0 where
  pub reply : Reply
  pub left : World
  pub step : wstep w e reply left
  pub ample : IsAmple reply

-- each event has
abbrev pub HasReply : World → Type 0
HasReply w = (e : Event) → IsAnswered w e
