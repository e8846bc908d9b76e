-- The output of a script of `roam world`: the answer to each of its lines (this project's profile).
use Rattle.std.specs.Prelude.{◌≡◌, ◌≢◌, ℕ, ◌+◌, List, [], ◌∷◌, ◌++◌, codes, length, Option, Some, None, Bool, true, false}
use Rattle.std.specs.List.{All, flat_map}
use Rattle.std.specs.Io.KnownBytes.{Appends}
use Rattle.roam_cells.specs.declared.faults.Fault.TheVariants.{BadSize, OutOfMemory}
use Rattle.roam_layout.specs.Layouts.{IsSessionSize}
use Rattle.roam_session.specs.Sessions.{SessionSize}
use Rattle.roam_wire.specs.declared.versions.Version.TheVariants.{Two}
use Rattle.roam_model.specs.Texts.{Address}
use Rattle.roam_model.specs.Worlds.{World, Event, Reply}
use Rattle.roam_model.specs.Worlds as event
use Rattle.roam_model.specs.Laws.{Reaches}
use Rattle.roam_world_script.specs.Values.{LineValue, IsLine, Session, Start, Watch, PaneBytes, Typed, ServerTick, ClientTick, ToServer, ToClient, Drained, Show, Face, Output}
use Rattle.roam_world_script.specs.Lines.{Says}
use Rattle.roam_world_script.specs.Skipped.{is_skipped}
use Rattle.roam_faults.specs.Streams.{AreLines, IsOneLine, ended_line}
use Rattle.roam_faults.specs.declared.faults.RunFault.{RunFault}
use Rattle.roam_faults.specs.declared.faults.RunFault.TheVariants as run
use Rattle.roam_world_run.specs.Replies.{reply_line}
use Rattle.roam_world_run.specs.Asked.{asked_in}

-- ---- lines

-- an event or a question: a line that isn't skipped says this
pub record IsEvent (line : List ℕ) (l : LineValue) : Type 0 where
  pub kept : is_skipped line ≡ false
  pub in_range : IsLine l
  pub says : Says line l

-- ---- answers

-- the address of a port of 127.0.0.1
abbrev pub at_home : ℕ → Address
at_home port = record { host = 0x7F000001; port = port }

-- the event of a line; none if it begins a session or asks a question
abbrev pub event_in : LineValue → Option Event
event_in (Session id rows cols) = None
event_in (Start slot id version) = Some (event.Start slot id version false)
event_in (Watch slot id) = Some (event.Start slot id Two true)
event_in (PaneBytes pane bytes) = Some (event.PaneBytes pane bytes)
event_in (Typed slot act) = Some (event.Typed slot act)
event_in (ServerTick now) = Some (event.ServerTick now)
event_in (ClientTick slot now) = Some (event.ClientTick slot now)
event_in (ToServer number port now) = Some (event.ToServer number (at_home port) now)
event_in (ToClient slot number now) = Some (event.ToClient slot number now)
event_in (Drained pane count) = Some (event.Drain pane count)
event_in (Show slot) = None
event_in Face = None
event_in (Output pane) = None

-- how far a script came: no session yet, or one with its events and their replies
pub data Stage : Type 0 where
  Before : Stage
  Within : (session : ℕ) → (size : SessionSize) → (events : List Event) → (replies : List Reply) → Stage

abbrev pub size_of : ℕ → ℕ → SessionSize
size_of rows cols = record { rows = rows; cols = cols }

-- The answer to a line, and the script then: a session begins; an event happens, with a reply with which the events reach a world; or a
-- question about such a world.
pub data Answers (stage : Stage) (l : LineValue) (answer : List ℕ) (left : Stage) : Type 0 where
  begins : (id rows cols : ℕ) → l ≡ Session id rows cols → stage ≡ Before → IsSessionSize rows cols
      → answer ≡ codes "ok\n" → left ≡ Within id (size_of rows cols) [] [] → Answers stage l answer left
  happens : (session : ℕ) (size : SessionSize) (es : List Event) (rs : List Reply) (e : Event) (r : Reply) (w : World)
      → event_in l ≡ Some e → stage ≡ Within session size es rs → Reaches session size (es ++ e ∷ []) (rs ++ r ∷ []) w
      → answer ≡ reply_line r → left ≡ Within session size (es ++ e ∷ []) (rs ++ r ∷ []) → Answers stage l answer left
  asked : (session : ℕ) (size : SessionSize) (es : List Event) (rs : List Reply) (w : World) → stage ≡ Within session size es rs
      → Reaches session size es rs w → asked_in w l ≡ Some answer → left ≡ stage → Answers stage l answer left

-- so has a line; one that is skipped has none
pub data AnswersLine (stage : Stage) (line answer : List ℕ) (left : Stage) : Type 0 where
  skipped : is_skipped line ≡ true → answer ≡ [] → left ≡ stage → AnswersLine stage line answer left
  said : (l : LineValue) → IsEvent line l → Answers stage l answer left → AnswersLine stage line answer left

-- lines one after the other have these answers
abbrev pub Plays : Stage → List (List ℕ) → List ℕ → Stage → Type 0
Plays stage [] text left = (text ≡ []) × (left ≡ stage)
Plays stage (line ∷ lines) text left =
    (answer : List ℕ) × (mid : Stage) × (rest : List ℕ) × AnswersLine stage line answer mid × Plays mid lines rest left × (text ≡ answer
    ++ rest)

-- all that was read is lines, the last of which needs no end, and all that was written is the answers to them
pub record Prints (before after : Option (List ℕ)) (log : List ℕ) : Type 0 where
  pub lines : List (List ℕ)
  pub last : List ℕ
  pub are : AreLines log lines last
  pub left : Stage
  pub text : List ℕ
  pub plays : Plays Before (lines ++ last ∷ []) text left
  pub written : Appends before after text

-- ---- refusals

-- a session begins once, before all else
abbrev pub is_in_place : Stage → LineValue → Bool
is_in_place Before (Session id rows cols) = true
is_in_place Before l = false
is_in_place (Within session size es rs) (Session id rows cols) = false
is_in_place (Within session size es rs) l = true

-- a session of a size that none may have begins
abbrev pub IsBadSession : Stage → LineValue → Type 0
IsBadSession Before (Session id rows cols) = IsSessionSize rows cols → ⊥
IsBadSession Before l = ⊥
IsBadSession (Within session size es rs) l = ⊥

-- the reasons for which the line of a number ends a script: it has no meaning, or is out of place; or the session is refused
pub data Ends (stage : Stage) (number : ℕ) (line : List ℕ) (fault : RunFault) : Type 0 where
  unsaid : is_skipped line ≡ false → ((l : LineValue) → IsLine l → Says line l → ⊥) → fault ≡ run.Event number
      → Ends stage number line fault
  misplaced : (l : LineValue) → IsEvent line l → is_in_place stage l ≡ false → fault ≡ run.Event number → Ends stage number line fault
  refused : (l : LineValue) → IsEvent line l → IsBadSession stage l → fault ≡ run.Core BadSize → Ends stage number line fault

-- the rest of the bytes read begins with this line: with its end, or without one if nothing follows
pub data BeginsWith (line rest : List ℕ) : Type 0 where
  whole : (more : List ℕ) → rest ≡ ended_line line ++ more → BeginsWith line rest
  last : rest ≡ line → BeginsWith line rest

-- why a run ends before the end of its script: reading failed, memory is wanting, or the next line ends it
pub data IsReason (stage : Stage) (number : ℕ) (rest : List ℕ) (fault : RunFault) : Type 0 where
  unread : fault ≡ run.Read → IsReason stage number rest fault
  no_memory : fault ≡ run.Core OutOfMemory → IsReason stage number rest fault
  ends : (line : List ℕ) → IsOneLine line → BeginsWith line rest → Ends stage number line fault → IsReason stage number rest fault

-- A script stopped after so many lines: some lines of the bytes read have their answers, which were written, and the run ended before the
-- answer to the next.
pub record Stopped (stage : Stage) (log : List ℕ) (before after : Option (List ℕ)) (number : ℕ) (fault : RunFault) : Type 0 where
  pub lines : List (List ℕ)
  pub rest : List ℕ
  pub is : log ≡ flat_map ended_line lines ++ rest
  pub each : All IsOneLine lines
  pub left : Stage
  pub text : List ℕ
  pub plays : Plays stage lines text left
  pub written : Appends before after text
  pub why : IsReason left (number + length lines + 1) rest fault
