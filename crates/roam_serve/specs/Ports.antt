-- The socket of client instances, the UDP port, and the looks for new connections.
use Rattle.std.specs.Prelude.{ℕ, ◌≡◌, ◌++◌, ◌||◌, Bool, nat_lt, List, Option, None, Some, ◌⊎◌, codes}
use Rattle.roam_pane_sockets.specs.Moments.{is_time}
use Rattle.roam_sockets.specs.declared.udp.Udp.{Udp}

-- the file of that socket in a folder
abbrev pub clients_path : List ℕ → List ℕ
clients_path folder = folder ++ codes "/clients"

-- a port that was asked for is bound, any free one for 0; none is bound if none was asked for
abbrev pub IsPortOf : Option ℕ → Option Udp → Type 0
IsPortOf None None = Unit {0}
IsPortOf None (Some udp) = ⊥
IsPortOf (Some port) None = ⊥
IsPortOf (Some port) (Some udp) = (port ≡ 0) ⊎ (udp.port ≡ port)

-- the most milliseconds between two looks without a wait
abbrev pub look_pace : ℕ
look_pace = 20

-- a look follows each wait, each such time, and a moment that went back
abbrev pub is_looked : Bool → ℕ → ℕ → Bool
is_looked has_waited now looked = has_waited || nat_lt now looked || is_time (Some looked) now look_pace
