use Rattle.std.proofs.Common.{◌≡◌, ◌++◌, ℕ, List, Vec}
use Rattle.std.specs.Io.KnownBytes.{Keeps}
use Rattle.std.specs.declared.alloc.Global.{Global}
use Rattle.roam_cells.specs.declared.addresses.Addr.{Addr}
use Rattle.roam_turns.specs.Calls.{PortCall, Tells, parcels_in}
use Rattle.roam_turns.specs.Turns.{Sends}
use Rattle.roam_turns.proofs.sending.send_parcels.Given as goal

-- those that were sent, with their calls, and those that are left
abbrev pub invariant-loop-to : goal.invariant-loop-to
invariant-loop-to g l = (sent : List (Addr × Vec ℕ Global)) × (calls : List PortCall)
    × (sent ++ l.to-iterator.rest.items ≡ l.fn.parcels.items)
    × Tells (g.P.Ports.told l.initial.ports) (g.P.Ports.told l.ports) calls
    × Keeps (g.P.Ports.written l.initial.ports) (g.P.Ports.written l.ports)
    × Sends (parcels_in sent) calls
