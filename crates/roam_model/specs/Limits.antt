-- Everything that is sent is within the limits of its text, so that it is read as it was written; and all kept parts are bounded.
use Rattle.std.specs.Prelude.{ℕ, ◌<◌, ◌≤◌, Bool, length}
use Rattle.roam_acts.specs.Limits.{number_limit, most_unacknowledged}
use Rattle.roam_wire.specs.Instructions.{DownValue, IsDown, UpValue, IsUp}
use Rattle.roam_model.specs.Lists.{IsIn}
use Rattle.roam_model.specs.ServerArrivals.{most_of, alike}
use Rattle.roam_model.specs.Worlds.{World}
use Rattle.roam_wire.specs.Datagrams.{DatagramValue, IsDatagram}

pub record Limits (w : World) : Type 0 where
  -- numbers of states and of acts are below 2^62
  pub numbers : length w.server.cuts < number_limit
  pub typed : (id : ℕ) → length (w.clients id).typed < number_limit
  -- at most 1,024 acts of an instance are unacknowledged
  pub unacknowledged : (id : ℕ) → length (w.clients id).kept.acts.acts ≤ most_unacknowledged
  -- at most 16 instances that only watch, and 64 others, are known to the server
  pub known : (watches : Bool) → length (alike w.server watches) ≤ most_of watches
  -- each instruction and each datagram that was ever sent has a text
  pub downs : (id : ℕ) (v : DownValue) → IsIn v (w.server.records id).instructions → IsDown v
  pub ups : (id : ℕ) (u : UpValue) → IsIn u (w.clients id).instructions → IsUp u
  pub datagrams : (d : DatagramValue) → IsIn d w.sent → IsDatagram d
