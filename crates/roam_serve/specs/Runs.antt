-- A run of a server: turns, one after another, and no other call of the server.
use Rattle.std.specs.Prelude.{◌≡◌, ℕ, zero, suc, List, Option, None}
use Rattle.roam_hub.specs.Servers.{ServerView}
use Rattle.roam_turns.specs.Calls.{PortCall}
use Rattle.roam_turns.specs.Cores.{server_step}
use Rattle.roam_turns.specs.Parts.{Makes}
use Rattle.roam_turns.specs.Turns.{ServeTurn}

-- so many turns were taken of a server
unfoldable pub ServesTurns : ℕ → ServerView → ServerView → Type 0
ServesTurns zero old new = new ≡ old
ServesTurns (suc n) old new = (mid : ServerView) × ServesTurns n old mid × Makes server_step ServeTurn None None None None mid new

-- A run of so many turns of a server, of a run of `asked` turns in all. Its ports P record their calls. Before each turn the ports are
-- mended (`mends`). Then the server takes the turn, and the ports record exactly its calls. Then the ports do their work after a turn
-- (`follows`). Neither of these two records a call.
unfoldable pub RunsTurns : {P : Type 0} → (P → Option (List PortCall)) → (P → P → Type 0) → (ℕ → ServerView → P → P → Type 0) → ℕ → ℕ → P → P
    → ServerView → ServerView → Type 0
RunsTurns told mends follows asked zero first last old new = (new ≡ old) × (last ≡ first)
RunsTurns {P} told mends follows asked (suc n) first last old new =
    (mid : ServerView) × (before mended turned : P) × RunsTurns told mends follows asked n first before old mid × mends before mended
    × (told mended ≡ told before) × Makes server_step ServeTurn (told mended) (told turned) None None mid new
    × follows asked new turned last × (told last ≡ told turned)
