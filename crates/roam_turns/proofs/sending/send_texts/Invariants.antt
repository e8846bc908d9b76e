use Rattle.std.proofs.Common.{◌≡◌, List, map, take}
use Rattle.roam_wire.specs.Cutting.{texts_of}
use Rattle.std.specs.Io.KnownBytes.{Keeps}
use Rattle.roam_turns.specs.Calls.{PortCall, Tells}
use Rattle.roam_turns.specs.Turns.{Sends, parcel_to}
use Rattle.roam_turns.proofs.sending.send_texts.Given as goal

abbrev pub invariant-loop-bytes : goal.invariant-loop-bytes
invariant-loop-bytes g l = (calls : List PortCall) × Tells (g.P.Ports.told l.initial.ports) (g.P.Ports.told l.ports) calls
    × Keeps (g.P.Ports.written l.initial.ports) (g.P.Ports.written l.ports)
    × Sends (map (parcel_to l.to) (texts_of (take l.bytes-index l.texts))) calls
    × (g.P.Ports.notice l.ports ≡ g.P.Ports.notice l.initial.ports)
