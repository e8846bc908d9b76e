-- The acts that a run of a client instance types: those that its turns take.
use Rattle.std.specs.Prelude.{◌≡◌, ℕ, ◌-◌, ◌≤◌, Bool, true, false, List, [], ◌∷◌, ◌++◌, length, Option, Some, None}
use Rattle.std.specs.Io.KnownBytes.{Appends, Consumes}
use Rattle.roam_acts.specs.declared.acts.Act.{Act}
use Rattle.roam_hub.specs.Clients.{ClientView}
use Rattle.roam_cells.specs.declared.addresses.Addr.{Addr}
use Rattle.roam_turns.specs.Cores.{client_step}
use Rattle.roam_turns.specs.Painting.{Led}
use Rattle.roam_turns.specs.Parts.{Makes}
use Rattle.roam_turns.specs.Turns.{AttachTurn}
use Rattle.roam_turns.specs.declared.outer.Noted.{Noted}
use Rattle.roam_wire.specs.declared.versions.Version.{Version}
use Rattle.roam_wire.specs.declared.versions.Version.TheVariants.{One, Two}
use Rattle.roam_attach.specs.declared.client_ports.ClientPorts.{ClientPorts}
use Rattle.roam_attach.specs.declared.attaching.Home.{Home}
use Rattle.roam_attach.specs.declared.attaching.Home.TheVariants.{Port, Folder}
use Rattle.roam_outer_terminal.specs.Silence.{notice_of}
use Rattle.roam_terminal_input.specs.declared.typing.ActLines.{ActLines}
use Rattle.roam_terminal_input.specs.declared.typing.Stream.{Stream}
use Rattle.roam_terminal_input.specs.declared.typing.Stream.TheVariants.{Absent, Open, Ended, Spoiled, SpoiledLast}
use Rattle.roam_terminal_input.specs.Typing.{Stands}

-- the address of a server: a port of this machine, or the other end of a stream
abbrev pub home_of : Home → Addr
home_of (Port port) = record { host = 127 ∷ 0 ∷ 0 ∷ 1 ∷ []; port = port }
home_of (Folder folder) = record { host = 0 ∷ 0 ∷ 0 ∷ 0 ∷ []; port = 0 }

-- an instance only watches in version 2
abbrev pub is_two : Version → Bool
is_two One = false
is_two Two = true

-- which act a turn was handed, if any, and whether it took it
pub record Turn : Type 0 where
  pub next : Option Act
  pub took : Bool

-- the act that a turn took
abbrev pub taken_of : Option Act → Bool → List Act
taken_of None took = []
taken_of (Some act) true = act ∷ []
taken_of (Some act) false = []

-- the acts that turns took, in order
abbrev pub taken_in : List Turn → List Act
taken_in [] = []
taken_in (turn ∷ turns) = taken_of turn.next turn.took ++ taken_in turns

-- A turn was offered no act only if none waits after it. An act that it didn't take is the next one.
abbrev pub IsHanded : Option Act → Bool → List Act → Type 0
IsHanded None took waiting = waiting ≡ []
IsHanded (Some act) true waiting = Unit {0}
IsHanded (Some act) false waiting = (rest : List Act) × (waiting ≡ act ∷ rest)

-- the noted screen of an outer terminal, the bytes written to it if they are known, and the seconds of silence that it shows
pub record Painted : Type 0 where
  pub noted : Option Noted
  pub written : Option (List ℕ)
  pub notice : Option ℕ

abbrev pub painted_by : {R W : Type 0} → (W → Option (List ℕ)) → Option Noted → ClientPorts R W → Painted
painted_by contents noted ports = record { noted = noted; written = contents ports.outer; notice = ports.silence.told }

-- A client instance took such a turn with its outer terminal. The written bytes lead the terminal from the old noted screen to the new one,
-- and the notice of silence stays.
pub record TakesTurn (to : Addr) (turn : Turn) (outer outer' : Painted) (old new : ClientView) : Type 0 where
  pub makes : Makes client_step
      (AttachTurn new.kept.receiver.newest.number new.kept.receiver.newest.state outer.noted outer'.noted to turn.next turn.took)
      None None None None old new
  pub led : Led outer.noted outer.written outer'.noted outer'.written
  pub notice : outer'.notice ≡ outer.notice

-- Between two turns a notice of silence was shown over the terminal's screen, or none was. If the silence is over, or not every byte was
-- taken, no screen is noted any more.
pub data Tells (outer outer' : Painted) : Type 0 where
  quiet : outer' ≡ outer → Tells outer outer'
  told : (seconds : ℕ) → outer'.noted ≡ outer.noted → outer'.notice ≡ Some seconds
      → Appends outer.written outer'.written (notice_of seconds) → Tells outer outer'
  unknown : outer'.noted ≡ None → outer'.notice ≡ None → Tells outer outer'

-- it took one after another
abbrev pub TakesTurns : Addr → List Turn → Painted → Painted → ClientView → ClientView → Type 0
TakesTurns to [] outer outer' old new = (outer' ≡ outer) × (new ≡ old)
TakesTurns to (turn ∷ turns) outer outer' old new =
    (painted told : Painted) × (mid : ClientView) × TakesTurn to turn outer painted old mid × Tells painted told
    × TakesTurns to turns told outer' mid new

-- So many turns were taken while these bytes of a stream were read. Whatever came before, the turns took the next acts, in order, each
-- once.
pub record RunsOn (to : Addr) (before after : Option (List ℕ)) (old new : ActLines) (outer outer' : Painted) (client client' : ClientView)
    (count : ℕ) : Type 0 where
  pub bytes : List ℕ
  pub turns : List Turn
  pub consumed : Consumes before after bytes
  pub takes : TakesTurns to turns outer outer' client client'
  pub stands : (first : List Act) (log : List ℕ) (taken : List Act) → Stands old first log taken
      → Stands new first (log ++ bytes) (taken ++ taken_in turns)
  pub counts : length turns ≡ count

-- every act that an instance took is acknowledged
abbrev pub IsSettled : ClientView → Type 0
IsSettled view = view.kept.acts.acts ≡ []

-- some act waits, or isn't acknowledged
abbrev pub IsPending : ActLines → ClientView → Type 0
IsPending lines view = lines.waiting.items ≡ [] → view.kept.acts.acts ≡ [] → ⊥

-- when the end of a stream was seen first
abbrev pub seen_at : Stream → Option ℕ → ℕ → Option ℕ
seen_at Ended None moment = Some moment
seen_at Ended (Some since) moment = Some since
seen_at Absent since moment = since
seen_at Open since moment = since
seen_at (Spoiled number) since moment = since
seen_at (SpoiledLast number) since moment = since

-- the milliseconds that an instance waits at the end of its stream for acknowledgements of its acts
abbrev pub longest_end : ℕ
longest_end = 1000

-- A run whose stream has ended is over if all its acts were taken and acknowledged, or a second after the end was seen.
pub data IsOver (lines : ActLines) (client : ClientView) (since moment : ℕ) : Type 0 where
  settled : lines.stream ≡ Ended → lines.waiting.items ≡ [] → IsSettled client → IsOver lines client since moment
  late : lines.stream ≡ Ended → longest_end ≤ moment - since → IsOver lines client since moment
