-- The possible results and effects of a call of a server or of a client instance, as in the crate of both.
use Rattle.std.specs.Prelude.{◌≡◌, ℕ, ◌-◌, List, length, take, Result, Vec}
use Rattle.std.specs.Option.{option_map}
use Rattle.std.specs.declared.alloc.Global.{Global}
use Rattle.roam_term.specs.Limits.{most_output}
use Rattle.roam_cells.specs.declared.faults.Fault.{Fault}
use Rattle.roam_session.specs.Generations.{generation_of}
use Rattle.roam_session.specs.Refusals.{output_at}
use Rattle.roam_model.specs.Servers.{Server as ServerOf}
use Rattle.roam_hub.specs.Servers.{ServerView, Stands as ServerStands, Feeds, Drains, Comes, Ticks, address_of}
use Rattle.roam_hub.specs.Clients.{ClientView, Types, Hears, Sends}
use Rattle.roam_cells.specs.declared.addresses.Addr.{Addr}
use Rattle.roam_turns.specs.Calls.{ServerCall, ClientCall, parcels_of, texts_in}
use Rattle.roam_turns.specs.Calls.ServerCall.{ToServer, Generation, Room, PaneBytes, Output, Drain, ServerTick}
use Rattle.roam_turns.specs.Calls.ClientCall.{Typed, ToClient, ClientTick}

-- for every server that it modelled: the result of the call, and the server that it models then
abbrev pub server_step : ServerView → ServerCall → ServerView → Type 0
server_step old (ToServer from bytes now answer) new = (s : ServerOf) → ServerStands old s
    → Comes s (address_of from) bytes now answer new
server_step old (Generation pane answer) new = (new ≡ old)
    × ((s : ServerOf) → ServerStands old s → answer ≡ generation_of s.size s.log pane)
server_step old (Room pane answer) new = (new ≡ old)
    × ((s : ServerOf) → ServerStands old s
    → answer ≡ option_map (λ (waiting : List ℕ). most_output - length waiting) (output_at s.size s.log pane))
server_step old (PaneBytes pane bytes answer) new = (s : ServerOf) → ServerStands old s → Feeds s pane bytes answer new
server_step old (Output pane most answer) new = (new ≡ old)
    × ((s : ServerOf) → ServerStands old s → answer ≡ option_map (take most) (output_at s.size s.log pane))
server_step old (Drain pane n answer) new = (s : ServerOf) → ServerStands old s → Drains s pane n answer new
server_step old (ServerTick now answer) new = (s : ServerOf) → ServerStands old s
    → (result : Result (Vec (Addr × Vec ℕ Global) Global) Fault) × (parcels_of result ≡ answer) × Ticks s now result new

-- the result of a call of a client instance, and the instance then
abbrev pub client_step : ClientView → ClientCall → ClientView → Type 0
client_step old (Typed act answer) new = Types old act answer new
client_step old (ToClient bytes now answer) new = Hears old bytes now answer new
client_step old (ClientTick now answer) new =
    (result : Result (Vec (Vec ℕ Global) Global) Fault) × (texts_in result ≡ answer) × Sends old now result new
