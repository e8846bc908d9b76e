-- The world: one server, all client instances, all datagrams ever sent; and what may happen in it.
use Rattle.std.specs.Prelude.{ℕ, ◌-◌, ◌==◌, List, [], ◌++◌, map, slice_get, Option, Some, None, Bool, if◌then◌else◌}
use Rattle.roam_cells.specs.declared.faults.Fault.{Fault}
use Rattle.roam_acts.specs.declared.acts.Act.{Act}
use Rattle.roam_session.specs.Sessions.{SessionSize}
use Rattle.roam_model.specs.Lists.{with_value}
use Rattle.roam_model.specs.Texts.{Address}
use Rattle.roam_model.specs.Servers.{Server, new_server}
use Rattle.roam_model.specs.Ticks.{Parcel, sent_by, after_tick}
use Rattle.roam_model.specs.Clients.{Kept, Client, nobody, new_client}
use Rattle.roam_model.specs.ClientArrivals.{Hearing}
use Rattle.roam_model.specs.Sendings.{datagrams_from, after_instruction}
use Rattle.roam_wire.specs.Datagrams.{DatagramValue}
use Rattle.roam_wire.specs.declared.versions.Version.{Version}

pub record World : Type 0 where
  pub server : Server
  -- all client instances ever, by their id
  pub clients : ℕ → Client
  -- the id of the instance in each slot
  pub slots : ℕ → Option ℕ
  -- all datagrams ever sent, the first under the number 1: losses, repeats and reorderings are which of them come, and how often
  pub sent : List DatagramValue

-- before anything happened
unfoldable pub new_world : ℕ → SessionSize → World
new_world session size = record { server = new_server session size; clients = λ id. nobody; slots = λ slot. None; sent = [] }

-- one thing that happens: one whole call of the server or of a client instance
pub data Event : Type 0 where
  -- bytes come from a pane's program
  PaneBytes : (pane : ℕ) → (bytes : List ℕ) → Event
  -- an act is typed at the instance in a slot
  Typed : (slot : ℕ) → (act : Act) → Event
  ServerTick : (now : ℕ) → Event
  ClientTick : (slot : ℕ) → (now : ℕ) → Event
  -- the k-th datagram comes to the server, from an address
  ToServer : (k : ℕ) → (from : Address) → (now : ℕ) → Event
  -- the k-th datagram comes to the instance in a slot
  ToClient : (slot : ℕ) → (k : ℕ) → (now : ℕ) → Event
  -- a client of a version starts in a slot, and only watches or not
  Start : (slot : ℕ) → (id : ℕ) → (version : Version) → (watches : Bool) → Event
  -- bytes go to a pane's program
  Drain : (pane : ℕ) → (count : ℕ) → Event

-- how it is answered
pub data Reply : Type 0 where
  Done : Reply
  -- the number of the first datagram that was sent, or of the next one if none was; and how many were sent
  Sent : (first : ℕ) → (count : ℕ) → Reply
  -- so many acts were taken
  Taken : (count : ℕ) → Reply
  Heard : Hearing → Reply
  -- there is no such instance, datagram or output, or the id was used: nothing is done
  Refused : Reply
  Failed : Fault → Reply
  -- a datagram to the server was refused, after so many of its acts were taken
  Stopped : Fault → (taken : ℕ) → Reply

-- the k-th datagram that was sent, from 1
abbrev pub datagram_at : List DatagramValue → ℕ → Option DatagramValue
datagram_at ds k = if k == 0 then None else slice_get ds (k - 1)

-- ---- the world after a call

abbrev pub with_server : World → Server → World
with_server w s = record w { server = s }

abbrev pub with_client : World → ℕ → Client → World
with_client w id c = record w { clients = with_value w.clients id c }

abbrev pub with_kept : World → ℕ → Kept → World
with_kept w id k = with_client w id (record (w.clients id) { kept = k })

-- the server ticked
abbrev pub after_server_tick : World → ℕ → World
after_server_tick w now =
    record w { server = after_tick w.server now; sent = w.sent ++ map (λ (p : Parcel). p.datagram) (sent_by w.server now) }

-- a client instance ticked, and sent
abbrev pub after_client_sent : World → ℕ → ℕ → World
after_client_sent w id now =
    record w {
      clients = with_value w.clients id (after_instruction (w.clients id) now);
      sent = w.sent ++ datagrams_from w.server.session id (w.clients id).kept;
    }

-- a client started
abbrev pub after_start : World → ℕ → ℕ → Version → Bool → World
after_start w slot id v watches =
    record w { clients = with_value w.clients id (new_client v watches); slots = with_value w.slots slot (Some id) }
