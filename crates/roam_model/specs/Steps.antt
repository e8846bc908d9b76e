-- Each event with its reply and its effect, a case at a time. Want of memory is possible in every call that asks for memory. It leaves the
-- world as it was, except for a datagram to the server that stops at an act.
use Rattle.std.specs.Prelude.{◌≡◌, ℕ, ◌+◌, ◌<◌, ◌≤◌, List, [], ◌∷◌, length, Some, None, Bool, true, false}
use Rattle.roam_cells.specs.declared.faults.Fault.{Fault}
use Rattle.roam_cells.specs.declared.faults.Fault.TheVariants.{OutOfMemory, NoPane, Busy, BadDatagram, BadChange, Spent, Watching}
use Rattle.roam_cells.specs.declared.faults.Reason.{Reason}
use Rattle.roam_screens.specs.Screenshot.{Screenshot}
use Rattle.roam_acts.specs.declared.acts.Act.{Act}
use Rattle.roam_acts.specs.Senders.{IsFull, IsSpent}
use Rattle.roam_model.specs.Versions.{applied_by}
use Rattle.roam_sync.specs.declared.receivers.Step.TheVariants as step
use Rattle.roam_sync.specs.Receivers.{Receiving, pairs, state_at}
use Rattle.roam_sync.specs.Links.{Delivers}
use Rattle.roam_wire.specs.Gatherers.{Gathering}
use Rattle.roam_wire.specs.Instructions.{DownValue, UpValue}
use Rattle.roam_session.specs.Sessions.{Given, Drained}
use Rattle.roam_session.specs.Refusals.{refuses_bytes, output_at}
use Rattle.roam_model.specs.Texts.{Address, is_watching, SaysDown, SaysNoDown, SaysUp, SaysNoUp, update_in}
use Rattle.roam_model.specs.Servers.{moment, after_input}
use Rattle.roam_model.specs.ServerArrivals.{coming, after_note, new_acts, after_acts, room_for}
use Rattle.roam_model.specs.Arrival.{turned_away, noted, completed}
use Rattle.roam_model.specs.Ticks.{sent_by, is_tick_spent}
use Rattle.roam_model.specs.Clients.{moment_of, after_act}
use Rattle.roam_model.specs.ClientArrivals.{Hearing, arriving, after_fragment, step_of, hearing_of, after_whole}
use Rattle.roam_model.specs.Sendings.{is_client_due, is_client_spent, datagrams_from, after_quiet}
use Rattle.roam_model.specs.Worlds.{World, Event, PaneBytes, Typed, ServerTick, ClientTick, ToServer, ToClient, Start, Drain, Reply, Done, Sent, Taken, Heard, Refused, Failed, Stopped, datagram_at, with_server, with_client, with_kept, after_server_tick, after_client_sent, after_start}
use Rattle.roam_wire.specs.declared.versions.Version.{Version}
use Rattle.roam_wire.specs.declared.versions.Version.TheVariants.{One, Two}
use Rattle.roam_wire.specs.Datagrams.{DatagramValue}

-- bytes come from a pane's program: refused by the session, or taken; no memory is asked for
pub data PaneBytesStep (w : World) (pane : ℕ) (bytes : List ℕ) (reply : Reply) (w' : World) : Type 0 where
  refused : (fault : Fault) → refuses_bytes w.server.size w.server.log pane bytes ≡ Some fault
      → reply ≡ Failed fault → w' ≡ w → PaneBytesStep w pane bytes reply w'
  taken : refuses_bytes w.server.size w.server.log pane bytes ≡ None
      → reply ≡ Done → w' ≡ with_server w (after_input w.server (Given pane bytes)) → PaneBytesStep w pane bytes reply w'

-- bytes go to a pane's program: there is no such pane; fewer wait; or they go; no memory is asked for
pub data DrainStep (w : World) (pane n : ℕ) (reply : Reply) (w' : World) : Type 0 where
  no_pane : output_at w.server.size w.server.log pane ≡ None
      → reply ≡ Failed NoPane → w' ≡ w → DrainStep w pane n reply w'
  too_many : (output : List ℕ) → output_at w.server.size w.server.log pane ≡ Some output → length output < n
      → reply ≡ Refused → w' ≡ w → DrainStep w pane n reply w'
  gone : (output : List ℕ) → output_at w.server.size w.server.log pane ≡ Some output → n ≤ length output
      → reply ≡ Done → w' ≡ with_server w (after_input w.server (Drained pane n)) → DrainStep w pane n reply w'

-- an act is typed: no instance in the slot; it only watches; 1,024 are unacknowledged; numbers are spent; or it is taken
pub data TypedStep (w : World) (slot : ℕ) (act : Act) (reply : Reply) (w' : World) : Type 0 where
  empty_slot : w.slots slot ≡ None
      → reply ≡ Refused → w' ≡ w → TypedStep w slot act reply w'
  watching : (id : ℕ) → w.slots slot ≡ Some id → (w.clients id).kept.watches ≡ true
      → reply ≡ Failed Watching → w' ≡ w → TypedStep w slot act reply w'
  full : (id : ℕ) → w.slots slot ≡ Some id → (w.clients id).kept.watches ≡ false → IsFull (w.clients id).kept.acts
      → reply ≡ Failed Busy → w' ≡ w → TypedStep w slot act reply w'
  spent : (id : ℕ) → w.slots slot ≡ Some id → (w.clients id).kept.watches ≡ false → IsSpent (w.clients id).kept.acts
      → reply ≡ Failed Spent → w' ≡ w → TypedStep w slot act reply w'
  typed : (id : ℕ) → w.slots slot ≡ Some id → (w.clients id).kept.watches ≡ false → (IsFull (w.clients id).kept.acts → ⊥)
      → (IsSpent (w.clients id).kept.acts → ⊥)
      → reply ≡ Done → w' ≡ with_client w id (after_act (w.clients id) act) → TypedStep w slot act reply w'
  no_memory : reply ≡ Failed OutOfMemory → w' ≡ w → TypedStep w slot act reply w'

-- the server ticks: numbers are spent; or it is done
pub data ServerTickStep (w : World) (now : ℕ) (reply : Reply) (w' : World) : Type 0 where
  spent : is_tick_spent w.server (moment w.server now) ≡ true
      → reply ≡ Failed Spent → w' ≡ w → ServerTickStep w now reply w'
  ticked : is_tick_spent w.server (moment w.server now) ≡ false
      → reply ≡ Sent (length w.sent + 1) (length (sent_by w.server (moment w.server now)))
      → w' ≡ after_server_tick w (moment w.server now) → ServerTickStep w now reply w'
  no_memory : reply ≡ Failed OutOfMemory → w' ≡ w → ServerTickStep w now reply w'

-- a client instance ticks: none in the slot; nothing is due; numbers are spent; or it sends
pub data ClientTickStep (w : World) (slot now : ℕ) (reply : Reply) (w' : World) : Type 0 where
  empty_slot : w.slots slot ≡ None
      → reply ≡ Refused → w' ≡ w → ClientTickStep w slot now reply w'
  quiet : (id : ℕ) → w.slots slot ≡ Some id → is_client_due (w.clients id).kept (moment_of (w.clients id).kept now) ≡ false
      → reply ≡ Sent (length w.sent + 1) 0
      → w' ≡ with_kept w id (after_quiet (w.clients id).kept (moment_of (w.clients id).kept now)) → ClientTickStep w slot now reply w'
  spent : (id : ℕ) → w.slots slot ≡ Some id → is_client_due (w.clients id).kept (moment_of (w.clients id).kept now) ≡ true
      → is_client_spent (w.clients id).kept ≡ true
      → reply ≡ Failed Spent → w' ≡ w → ClientTickStep w slot now reply w'
  sent : (id : ℕ) → w.slots slot ≡ Some id → is_client_due (w.clients id).kept (moment_of (w.clients id).kept now) ≡ true
      → is_client_spent (w.clients id).kept ≡ false
      → reply ≡ Sent (length w.sent + 1) (length (datagrams_from w.server.session id (w.clients id).kept))
      → w' ≡ after_client_sent w id (moment_of (w.clients id).kept now) → ClientTickStep w slot now reply w'
  no_memory : reply ≡ Failed OutOfMemory → w' ≡ w → ClientTickStep w slot now reply w'

-- A datagram comes to the server: it was never sent; it is refused; it completes no instruction; its instruction is invalid; all its new
-- acts are taken; one finds its queue full; memory is refused at one. A stop at an act keeps the fragments gathered before, so that the
-- same datagram can bring the rest.
pub data ToServerStep (w : World) (k : ℕ) (from : Address) (now : ℕ) (reply : Reply) (w' : World) : Type 0 where
  not_sent : datagram_at w.sent k ≡ None
      → reply ≡ Refused → w' ≡ w → ToServerStep w k from now reply w'
  refused : (d : DatagramValue) (fault : Fault) → datagram_at w.sent k ≡ Some d → coming w.server d ≡ turned_away fault
      → reply ≡ Stopped fault 0 → w' ≡ w → ToServerStep w k from now reply w'
  fragment : (d : DatagramValue) (g : Gathering) → datagram_at w.sent k ≡ Some d → coming w.server d ≡ noted tt g
      → reply ≡ Taken 0 → w' ≡ with_server w (after_note w.server d from (moment w.server now) g)
      → ToServerStep w k from now reply w'
  unread : (d : DatagramValue) (g : Gathering) (text : List ℕ) (why : Reason) → datagram_at w.sent k ≡ Some d
      → coming w.server d ≡ completed g text → SaysNoUp (is_watching d.kind) text why
      → reply ≡ Stopped (BadDatagram why) 0 → w' ≡ w → ToServerStep w k from now reply w'
  all_taken : (d : DatagramValue) (g : Gathering) (text : List ℕ) (u : UpValue) → datagram_at w.sent k ≡ Some d
      → coming w.server d ≡ completed g text → SaysUp (is_watching d.kind) text u → room_for w.server d u ≡ length (new_acts w.server d u)
      → reply ≡ Taken (length (new_acts w.server d u))
      → w' ≡ with_server w (after_acts w.server d from (moment w.server now) g u (length (new_acts w.server d u)))
      → ToServerStep w k from now reply w'
  no_room : (d : DatagramValue) (g : Gathering) (text : List ℕ) (u : UpValue) → datagram_at w.sent k ≡ Some d
      → coming w.server d ≡ completed g text → SaysUp (is_watching d.kind) text u → room_for w.server d u < length (new_acts w.server d u)
      → reply ≡ Stopped Busy (room_for w.server d u)
      → w' ≡ with_server w (after_acts w.server d from (moment w.server now) (w.server.records d.client).gathering u
      (room_for w.server d u))
      → ToServerStep w k from now reply w'
  no_memory_at_act : (d : DatagramValue) (g : Gathering) (text : List ℕ) (u : UpValue) (n : ℕ) → datagram_at w.sent k ≡ Some d
      → coming w.server d ≡ completed g text → SaysUp (is_watching d.kind) text u → n < room_for w.server d u
      → reply ≡ Stopped OutOfMemory n
      → w' ≡ with_server w (after_acts w.server d from (moment w.server now) (w.server.records d.client).gathering u n)
      → ToServerStep w k from now reply w'
  no_memory : reply ≡ Stopped OutOfMemory 0 → w' ≡ w → ToServerStep w k from now reply w'

-- A datagram comes to a client instance: none in the slot; it was never sent; it is refused; it completes no instruction; its instruction
-- is invalid; its diff is bad; or the receiver takes its update.
pub data ToClientStep (w : World) (slot k now : ℕ) (reply : Reply) (w' : World) : Type 0 where
  empty_slot : w.slots slot ≡ None
      → reply ≡ Refused → w' ≡ w → ToClientStep w slot k now reply w'
  not_sent : datagram_at w.sent k ≡ None
      → reply ≡ Refused → w' ≡ w → ToClientStep w slot k now reply w'
  refused : (id : ℕ) (d : DatagramValue) (fault : Fault) → w.slots slot ≡ Some id → datagram_at w.sent k ≡ Some d
      → arriving w.server.session id (w.clients id).kept d ≡ turned_away fault
      → reply ≡ Failed fault → w' ≡ w → ToClientStep w slot k now reply w'
  fragment : (id : ℕ) (d : DatagramValue) (h : Hearing) (g : Gathering) → w.slots slot ≡ Some id → datagram_at w.sent k ≡ Some d
      → arriving w.server.session id (w.clients id).kept d ≡ noted h g
      → reply ≡ Heard h → w' ≡ with_kept w id (after_fragment (w.clients id).kept (moment_of (w.clients id).kept now) g)
      → ToClientStep w slot k now reply w'
  unread : (id : ℕ) (d : DatagramValue) (g : Gathering) (text : List ℕ) (why : Reason) → w.slots slot ≡ Some id
      → datagram_at w.sent k ≡ Some d → arriving w.server.session id (w.clients id).kept d ≡ completed g text → SaysNoDown text why
      → reply ≡ Failed (BadDatagram why) → w' ≡ w → ToClientStep w slot k now reply w'
  bad_change : (id : ℕ) (d : DatagramValue) (g : Gathering) (text : List ℕ) (v : DownValue) (base : Screenshot) → w.slots slot ≡ Some id
      → datagram_at w.sent k ≡ Some d → arriving w.server.session id (w.clients id).kept d ≡ completed g text → SaysDown text v
      → step_of (w.clients id).kept v ≡ step.New → state_at v.old (pairs (w.clients id).kept.receiver) ≡ Some base
      → applied_by (w.clients id).kept.version base v.change ≡ None
      → reply ≡ Failed BadChange → w' ≡ w → ToClientStep w slot k now reply w'
  whole : (id : ℕ) (d : DatagramValue) (g : Gathering) (text : List ℕ) (v : DownValue) (r : Receiving Screenshot) → w.slots slot ≡ Some id
      → datagram_at w.sent k ≡ Some d → arriving w.server.session id (w.clients id).kept d ≡ completed g text → SaysDown text v
      → Delivers (applied_by (w.clients id).kept.version) (w.clients id).kept.receiver (update_in v) r
      → reply ≡ Heard (hearing_of (step_of (w.clients id).kept v))
      → w' ≡ with_kept w id (after_whole (w.clients id).kept (moment_of (w.clients id).kept now) g r v) → ToClientStep w slot k now reply w'
  no_memory : reply ≡ Failed OutOfMemory → w' ≡ w → ToClientStep w slot k now reply w'

-- an instance that only watches is of version 2
abbrev pub is_unfit : Version → Bool → Bool
is_unfit One watches = watches
is_unfit Two watches = false

-- a client instances in a slot: its id was used before; it would watch in version 1; or it instances
pub data StartStep (w : World) (slot id : ℕ) (v : Version) (watches : Bool) (reply : Reply) (w' : World) : Type 0 where
  used : (w.clients id).made ≡ true
      → reply ≡ Refused → w' ≡ w → StartStep w slot id v watches reply w'
  unfit : is_unfit v watches ≡ true
      → reply ≡ Refused → w' ≡ w → StartStep w slot id v watches reply w'
  started : (w.clients id).made ≡ false → is_unfit v watches ≡ false
      → reply ≡ Done → w' ≡ after_start w slot id v watches → StartStep w slot id v watches reply w'
  no_memory : reply ≡ Failed OutOfMemory → w' ≡ w → StartStep w slot id v watches reply w'

-- an event, with its reply, makes of a world another
abbrev pub wstep : World → Event → Reply → World → Type 0
wstep w (PaneBytes pane bytes) reply w' = PaneBytesStep w pane bytes reply w'
wstep w (Typed slot act) reply w' = TypedStep w slot act reply w'
wstep w (ServerTick now) reply w' = ServerTickStep w now reply w'
wstep w (ClientTick slot now) reply w' = ClientTickStep w slot now reply w'
wstep w (ToServer k from now) reply w' = ToServerStep w k from now reply w'
wstep w (ToClient slot k now) reply w' = ToClientStep w slot k now reply w'
wstep w (Start slot id v watches) reply w' = StartStep w slot id v watches reply w'
wstep w (Drain pane n) reply w' = DrainStep w pane n reply w'

-- a list of events, each with its reply, makes of a world another
abbrev pub Run : World → List Event → List Reply → World → Type 0
Run w [] [] w' = w' ≡ w
Run w (e ∷ es) (r ∷ rs) w' = (mid : World) × wstep w e r mid × Run mid es rs w'
Run w [] (r ∷ rs) w' = ⊥
Run w (e ∷ es) [] w' = ⊥
