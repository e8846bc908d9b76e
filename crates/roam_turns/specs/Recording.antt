-- The calls that ports over memory record.
use Rattle.std.specs.Prelude.{ℕ, List, map, Option, Some, None, if◌then◌else◌}
use Rattle.roam_cells.specs.declared.addresses.Addr.{Addr}
use Rattle.roam_turns.specs.declared.memory.RecordedCall.{RecordedCall}
use Rattle.roam_turns.specs.declared.memory.RecordedCall.TheVariants as wrote
use Rattle.roam_turns.specs.declared.memory.MemoryPorts.{MemoryPorts}
use Rattle.roam_turns.specs.Calls.{PortCall}
use Rattle.roam_turns.specs.Calls.PortCall.{Now, Received, NothingReceived, Sent, PaneGenerations, PaneGave, PaneGaveNothing, PaneTook, Showed}

-- a call as it was written down
abbrev pub call_of : RecordedCall → PortCall
call_of (wrote.Now moment) = Now moment
call_of (wrote.Received room from bytes) = Received room from bytes.items
call_of (wrote.NothingReceived room) = NothingReceived room
call_of (wrote.Sent to bytes went) = Sent to bytes.items went
call_of (wrote.PaneGenerations pane generation) = PaneGenerations pane generation
call_of (wrote.PaneGave pane room bytes) = PaneGave pane room bytes.items
call_of (wrote.PaneGaveNothing pane room) = PaneGaveNothing pane room
call_of (wrote.PaneTook pane bytes n) = PaneTook pane bytes.items n
call_of (wrote.Showed bytes went) = Showed bytes.items went

-- the calls so far, unless one could not be written down
abbrev pub told_of : MemoryPorts → Option (List PortCall)
told_of ports = if ports.is_lost then None else Some (map call_of ports.told.items)

-- the datagrams that will come, each with its source
abbrev pub datagrams_of : MemoryPorts → List (Addr × List ℕ)
datagrams_of ports = map (λ p. (p.0, p.1.items)) ports.datagrams.items

-- the pieces that the programs of panes wrote and that are to come, each with its pane
abbrev pub pieces_of : MemoryPorts → List (ℕ × List ℕ)
pieces_of ports = map (λ p. (p.0, p.1.items)) ports.pieces.items
