-- The value of a line of a script (this project's profile).
use Rattle.std.specs.Prelude.{ℕ, ◌<◌, ◌^◌, List}
use Rattle.roam_acts.specs.declared.acts.Act.{Act}
use Rattle.roam_acts.specs.Acts.{IsAct}
use Rattle.roam_wire.specs.declared.versions.Version.{Version}

pub data LineValue : Type 0 where
  -- a session begins, of this id and size
  Session : (id : ℕ) → (rows : ℕ) → (cols : ℕ) → LineValue
  -- a client of a version starts in a slot, under an id
  Start : (slot : ℕ) → (id : ℕ) → (version : Version) → LineValue
  -- a client that only watches starts in a slot, under an id
  Watch : (slot : ℕ) → (id : ℕ) → LineValue
  -- bytes come from a pane's program
  PaneBytes : (pane : ℕ) → (bytes : List ℕ) → LineValue
  -- an act is typed at the instance in a slot
  Typed : (slot : ℕ) → (act : Act) → LineValue
  ServerTick : (now : ℕ) → LineValue
  ClientTick : (slot : ℕ) → (now : ℕ) → LineValue
  -- the datagram of a number comes to the server, from a port
  ToServer : (number : ℕ) → (port : ℕ) → (now : ℕ) → LineValue
  -- the datagram of a number comes to the instance in a slot
  ToClient : (slot : ℕ) → (number : ℕ) → (now : ℕ) → LineValue
  -- bytes go to a pane's program
  Drained : (pane : ℕ) → (count : ℕ) → LineValue
  -- the screen that the instance in a slot shows is asked for
  Show : (slot : ℕ) → LineValue
  -- the session's face is asked for
  Face : LineValue
  -- the bytes that wait for a pane's program are asked for
  Output : (pane : ℕ) → LineValue

-- a line's numbers are in their ranges: slots 0 to 7, panes of 8 bits, sizes and ports of 16, ids, numbers and moments of 64
abbrev pub IsLine : LineValue → Type 0
IsLine (Session id rows cols) = (id < 2 ^ 64) × (rows < 2 ^ 16) × (cols < 2 ^ 16)
IsLine (Start slot id version) = (slot < 8) × (id < 2 ^ 64)
IsLine (Watch slot id) = (slot < 8) × (id < 2 ^ 64)
IsLine (PaneBytes pane bytes) = pane < 2 ^ 8
IsLine (Typed slot act) = (slot < 8) × IsAct act
IsLine (ServerTick now) = now < 2 ^ 64
IsLine (ClientTick slot now) = (slot < 8) × (now < 2 ^ 64)
IsLine (ToServer number port now) = (number < 2 ^ 64) × (port < 2 ^ 16) × (now < 2 ^ 64)
IsLine (ToClient slot number now) = (slot < 8) × (number < 2 ^ 64) × (now < 2 ^ 64)
IsLine (Drained pane count) = (pane < 2 ^ 8) × (count < 2 ^ 64)
IsLine (Show slot) = slot < 8
IsLine Face = Unit {0}
IsLine (Output pane) = pane < 2 ^ 8
