-- Events and replies in the words of the definitions.
use Rattle.std.specs.Prelude.{◌<◌, Result, Ok, Err}
use Rattle.roam_cells.specs.declared.faults.Fault.{Fault}
use Rattle.roam_acts.specs.Acts.{IsInRange}
use Rattle.roam_model.specs.Worlds.{Event as EventOf, PaneBytes, Typed, ServerTick, ClientTick, ToServer, ToClient, Start, Drain, Reply as ReplyOf, Done, Sent, Taken, Heard, Refused, Failed, Stopped}
use Rattle.roam_hub.specs.Clients.{hearing_in}
use Rattle.roam_hub.specs.Servers.{address_of}
use Rattle.roam_simulation.specs.declared.events.Event.{Event}
use Rattle.roam_simulation.specs.declared.events.Event.TheVariants as event
use Rattle.roam_simulation.specs.declared.events.Reply.{Reply}
use Rattle.roam_simulation.specs.declared.events.Reply.TheVariants as reply

-- an event, as the definitions name it
abbrev pub event_of : Event → EventOf
event_of (event.PaneBytes pane bytes) = PaneBytes pane bytes.items
event_of (event.Typed slot act) = Typed slot act
event_of (event.ServerTick now) = ServerTick now
event_of (event.ClientTick slot now) = ClientTick slot now
event_of (event.ToServer k from now) = ToServer k (address_of from) now
event_of (event.ToClient slot k now) = ToClient slot k now
event_of (event.Start slot id version watches) = Start slot id version watches
event_of (event.Drained pane n) = Drain pane n

-- how it is answered, as the definitions name it
abbrev pub reply_of : Reply → ReplyOf
reply_of reply.Done = Done
reply_of (reply.Sent first count) = Sent first count
reply_of (reply.Taken n) = Taken n
reply_of (reply.Heard h) = Heard (hearing_in h)
reply_of reply.Refused = Refused
reply_of (reply.Fault fault) = Failed fault
reply_of (reply.Stopped stop) = Stopped stop.fault stop.taken

-- how a call is answered that may be refused
abbrev pub reply_in : Result Reply Fault → ReplyOf
reply_in (Ok r) = reply_of r
reply_in (Err fault) = Failed fault

-- the conditions on a caller: acts with numbers in their ranges, and one of the eight slots for an instance
abbrev pub IsHandedIn : Event → Type 0
IsHandedIn (event.Typed slot act) = IsInRange act
IsHandedIn (event.Start slot id version watches) = slot < 8
IsHandedIn _ = Unit {0}
