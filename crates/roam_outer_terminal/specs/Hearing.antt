-- A call of `hear`: bytes of an outer terminal's stream are read, and the first line is then taken, or there is a reason against it.
use Rattle.std.specs.Prelude.{◌≡◌, ◌⊎◌, ℕ, ◌<◌, Bool, true, false, not, ◌&&◌, ◌==◌, List, [], ◌++◌, length, Option, Some, None, is_some, if◌then◌else◌}
use Rattle.std.specs.Borrow.{Bor}
use Rattle.std.specs.Io.KnownBytes.{Keeps}
use Rattle.roam_acts.specs.Senders.{last_number}
use Rattle.roam_acts.specs.declared.acts.Act.{Act}
use Rattle.roam_hub.specs.Clients.{ClientView}
use Rattle.roam_display_records.specs.Records.{text_of}
use Rattle.roam_display_records.specs.Taken.{nothing_taken, took}
use Rattle.roam_display_records.specs.declared.looks.Looking.{Looking}
use Rattle.roam_display_records.specs.declared.looks.Looking.TheVariants.{Points, Styled}
use Rattle.roam_display_records.specs.declared.records.Record.TheVariants as records
use Rattle.roam_screens.specs.Screenshot.{Screenshot}
use Rattle.roam_display_state.specs.DisplayState.{DisplayStateView, has_room_for, nothing_told, shown_so}
use Rattle.roam_turns.specs.declared.outer.Noted.{Noted}
use Rattle.roam_terminal_input.specs.Entries.{Says, acts_in, needs_memory}
use Rattle.roam_terminal_input.specs.declared.entries.Entry.{Entry}
use Rattle.roam_terminal_input.specs.declared.entries.Entry.TheVariants.{Acts, Paste, Events, Repaint, Watch, Prediction, Look, LookStyled, Show, End}
use Rattle.roam_terminal_input.specs.Lines.{IsFirst, LinesView, front_of}
use Rattle.roam_terminal_input.specs.declared.showings.Showing.{Showing}
use Rattle.roam_terminal_input.specs.declared.lines.Front.TheVariants.{TooLong}
use Rattle.roam_outer_terminal.specs.Terminals.{Predictions, Hears, Holds, Reads, Types, acts_by, ends_by, predictions_by, is_heard, typed_by, watches_after}
use Rattle.roam_outer_terminal.specs.declared.hearing.Taking.{Taking}
use Rattle.roam_outer_terminal.specs.declared.hearing.Taking.TheVariants as taking
use Rattle.roam_outer_terminal.specs.declared.terminal.State.TheVariants.{Refused}
use Rattle.roam_outer_terminal.specs.declared.terminal.Terminal.{Terminal}

-- the reason for a refused line is sent in words, or in a record if the terminal asked for records, if there is memory for it
abbrev pub IsRefusal : Bool → List ℕ → Type 0
IsRefusal false text = Unit {0}
IsRefusal true text = (text ≡ []) ⊎ ((line : ℕ) × (words : Bor (List ℕ)) × (text ≡ text_of (records.Refused line words)))

-- the first line is refused: the terminal gets the reason if there is memory for it, and no screen is noted any more
abbrev pub IsRefused : {S : Type 0} → Terminal S → Terminal S → Type 0
IsRefused old new =
    (text : List ℕ) × IsRefusal (is_some old.display_state) text
    × (new ≡ record old { state = Refused; outer = None; waiting = old.waiting ++ text })

-- bytes were read; or more than a line was read, which is refused
pub data IsRead {S : Type 0} (old new : Terminal S) : Type 0 where
  read : new ≡ record old { stream = new.stream; lines = new.lines; state = new.state } → IsRead old new
  refused : (text : List ℕ) → IsRefusal (is_some old.display_state) text → front_of new.lines.kept ≡ TooLong
      → new
      ≡ record old { stream = new.stream; lines = new.lines; state = Refused; outer = None; waiting = old.waiting ++ text }
      → IsRead old new

-- ---- the first line

-- these bytes begin with a line that has an entry
pub record Asks (kept : List ℕ) (entry : Entry) : Type 0 where
  pub line : List ℕ
  pub rest : List ℕ
  pub first : IsFirst kept line rest
  pub says : Says line entry

-- An entry has its place. Only the first line asks for records. The first line, or the second behind that one, asks for a read-only
-- terminal. Wishes about records need a terminal with records. A fifth mask is refused.
abbrev pub may_show : Showing → Option DisplayStateView → Bool
may_show showing None = false
may_show showing (Some t) = has_room_for showing t

abbrev pub may_take : Entry → ℕ → Option DisplayStateView → Bool
may_take (Acts acts) count display_state = true
may_take (Paste acts) count display_state = true
may_take Events count display_state = count == 0 && not (is_some display_state)
may_take Repaint count display_state = true
may_take Watch count display_state = count == (if is_some display_state then 1 else 0)
may_take (Prediction predicting) count display_state = true
may_take Look count display_state = is_some display_state
may_take LookStyled count display_state = is_some display_state
may_take (Show showing) count display_state = may_show showing display_state
may_take End count display_state = true

-- The reasons to refuse the first line: it has no entry; its entry is out of place; or memory was refused, and its entry takes memory.
pub data IsBad (lines : LinesView) (display_state : Option DisplayStateView) : Type 0 where
  no_entry : (line rest : List ℕ) → IsFirst lines.kept line rest → ((entry : Entry) → Says line entry → ⊥) → IsBad lines display_state
  late : (e : Entry) → Asks lines.kept e → may_take e lines.count display_state ≡ false → IsBad lines display_state
  no_memory : (line rest : List ℕ) → IsFirst lines.kept line rest → ((entry : Entry) → Says line entry → needs_memory entry ≡ true)
      → IsBad lines display_state

-- ---- what an entry makes of a terminal

-- the noted screen after an entry: none after a repaint, and none if records begin
abbrev pub outer_after : Entry → Option Noted → Option Noted
outer_after (Acts acts) outer = outer
outer_after (Paste acts) outer = outer
outer_after Events outer = None
outer_after Repaint outer = None
outer_after Watch outer = outer
outer_after (Prediction predicting) outer = outer
outer_after Look outer = outer
outer_after LookStyled outer = outer
outer_after (Show showing) outer = outer
outer_after End outer = outer

-- the first record is queued behind the rest
abbrev pub waiting_after : Entry → List ℕ → List ℕ
waiting_after (Acts acts) waiting = waiting
waiting_after (Paste acts) waiting = waiting
waiting_after Events waiting = waiting ++ text_of records.Events
waiting_after Repaint waiting = waiting
waiting_after Watch waiting = waiting
waiting_after (Prediction predicting) waiting = waiting
waiting_after Look waiting = waiting
waiting_after LookStyled waiting = waiting
waiting_after (Show showing) waiting = waiting
waiting_after End waiting = waiting

-- the overlay after an entry: none if the noted screen is forgotten
abbrev pub over_after : Entry → Option Screenshot → Option Screenshot
over_after (Acts acts) over = over
over_after (Paste acts) over = over
over_after Events over = None
over_after Repaint over = over
over_after Watch over = over
over_after (Prediction predicting) over = over
over_after Look over = over
over_after LookStyled over = over
over_after (Show showing) over = over
over_after End over = over

-- ---- records about lines

-- a line was taken; its last act has this number, if it has acts
abbrev pub line_told : Option ℕ → Option DisplayStateView → Option DisplayStateView
line_told last None = None
line_told last (Some t) = Some (record t { taken = took last t.taken })

-- the number of the last act of a line that was typed at an instance, none of a terminal that only watches
abbrev pub last_typed : Bool → ClientView → Option ℕ
last_typed false client = Some (last_number client.kept.acts)
last_typed true client = None

abbrev pub forgotten : Option DisplayStateView → Option DisplayStateView
forgotten None = None
forgotten (Some t) = Some (record t { view = None })

abbrev pub asked : Looking → Option DisplayStateView → Option DisplayStateView
asked looking None = None
asked looking (Some t) = Some (record t { looking = Some looking })

abbrev pub shown_then : Showing → Option DisplayStateView → Option DisplayStateView
shown_then showing None = None
shown_then showing (Some t) = Some (shown_so showing t)

-- a requested screen isn't sent yet
abbrev pub is_looking : Option DisplayStateView → Bool
is_looking None = false
is_looking (Some t) = is_some t.looking

-- the state of the records after an entry, with the instance as it is then
abbrev pub display_state_after : Bool → Entry → ClientView → Option DisplayStateView → Option DisplayStateView
display_state_after watches (Acts acts) client display_state = line_told (last_typed watches client) display_state
display_state_after watches (Paste acts) client display_state = line_told (last_typed watches client) display_state
display_state_after watches Events client display_state = Some (record nothing_told { taken = took None nothing_taken })
display_state_after watches Repaint client display_state = line_told None (forgotten display_state)
display_state_after watches Watch client display_state = line_told None display_state
display_state_after watches (Prediction predicting) client display_state = line_told None display_state
display_state_after watches Look client display_state = line_told None (asked Points display_state)
display_state_after watches LookStyled client display_state = line_told None (asked Styled display_state)
display_state_after watches (Show showing) client display_state = line_told None (shown_then showing display_state)
display_state_after watches End client display_state = line_told None display_state

-- the entry that asks for such a screen
abbrev pub look_of : Looking → Entry
look_of Points = Look
look_of Styled = LookStyled

-- an entry asks for a screen
abbrev pub is_look : Entry → Bool
is_look (Acts acts) = false
is_look (Paste acts) = false
is_look Events = false
is_look Repaint = false
is_look Watch = false
is_look (Prediction predicting) = false
is_look Look = true
is_look LookStyled = true
is_look (Show showing) = false
is_look End = false

-- the effect of an accepted entry on a terminal's lines and predictions
abbrev pub Makes : {S : Type 0} → Entry → ClientView → Terminal S → Terminal S → Type 0
Makes e client old new =
    new
    ≡ record old {
      lines = new.lines;
      predicting = new.predicting;
      watches = watches_after e old.watches;
      outer = outer_after e old.outer;
      over = over_after e old.over;
      waiting = waiting_after e old.waiting;
      display_state = display_state_after old.watches e client old.display_state;
    }

-- The second half of `hear`: the first line was taken and its entry done, or no line was taken. A line stays for a reason: it asks for a
-- screen while another is requested, or memory was refused for its acts or the first record. Otherwise it is refused, no line is whole, or
-- the terminal's lines aren't read any more.
pub data TakesLine {S : Type 0} (entry : Option Entry) (old new : Terminal S) (client client' : ClientView) : Type 0 where
  taken : (e : Entry) (line : List ℕ) → entry ≡ Some e → is_heard old.state ≡ true → IsFirst old.lines.kept line new.lines.kept
      → Says line e → may_take e old.lines.count old.display_state ≡ true → Types (typed_by old.watches e) client client'
      → Predictions old.watches e client old.predicting new.predicting → Makes e client' old new
      → TakesLine entry old new client client'
  waits : (e : Entry) → entry ≡ None → is_heard old.state ≡ true → Asks old.lines.kept e → old.watches ≡ false
      → Holds (acts_in e) client → client' ≡ client → new ≡ old → TakesLine entry old new client client'
  no_memory : (e : Entry) → entry ≡ None → is_heard old.state ≡ true → Asks old.lines.kept e → old.watches ≡ false
      → 0 < length (acts_in e) → client' ≡ client → new ≡ old → TakesLine entry old new client client'
  looks : (e : Entry) → entry ≡ None → is_heard old.state ≡ true → Asks old.lines.kept e → is_look e ≡ true
      → is_looking old.display_state ≡ true → client' ≡ client → new ≡ old → TakesLine entry old new client client'
  untold : entry ≡ None → is_heard old.state ≡ true → Asks old.lines.kept Events → client' ≡ client → new ≡ old
      → TakesLine entry old new client client'
  refused : entry ≡ None → is_heard old.state ≡ true → IsBad old.lines old.display_state → IsRefused old new → client' ≡ client
      → TakesLine entry old new client client'
  nothing : entry ≡ None → is_heard old.state ≡ true → ((line rest : List ℕ) → IsFirst old.lines.kept line rest → ⊥)
      → client' ≡ client → new ≡ old
      → TakesLine entry old new client client'
  unheard : entry ≡ None → is_heard old.state ≡ false → client' ≡ client → new ≡ old → TakesLine entry old new client client'

-- A call of `hear`: bytes were read, and the first line then was taken with this entry, or none was.
pub record HearsOne {S : Type 0} (remaining contents : S → Option (List ℕ)) (entry : Option Entry) (old new : Terminal S)
    (client client' : ClientView) : Type 0 where
  pub read : Terminal S
  pub reads : Reads (remaining old.stream) (remaining read.stream) old.lines.kept read.lines.kept read.state
  pub apart : Keeps (contents old.stream) (contents read.stream)
  pub is_read : IsRead old read
  pub takes : TakesLine entry read new client client'

-- ---- the reported result of a line

-- a line was taken
abbrev pub Took : List ℕ → List ℕ → Type 0
Took kept kept' = (line rest : List ℕ) → IsFirst kept line rest → kept' ≡ rest

-- the result if the first line is taken
abbrev pub taking_of : Bool → Entry → Taking
taking_of watches entry = if ends_by watches entry then taking.End else taking.Line

-- the reported result of the first line
abbrev pub told_of : {S : Type 0} {entry : Option Entry} {old new : Terminal S} {client client' : ClientView}
    → TakesLine entry old new client client' → Taking
told_of {S} {entry} {old} (taken e line is heard first says may types predictions makes) = taking_of old.watches e
told_of (waits e none heard asks watches holds same still) = taking.Waits
told_of (no_memory e none heard asks watches some same still) = taking.NoMemory
told_of (looks e none heard asks is again same still) = taking.Waits
told_of (untold none heard asks same still) = taking.NoMemory
told_of (refused none heard why refuses same) = taking.Nothing
told_of (nothing none heard no_line same still) = taking.Nothing
told_of (unheard none not_heard same still) = taking.Nothing

abbrev pub is_end : Taking → Bool
is_end taking.Nothing = false
is_end taking.Line = false
is_end taking.End = true
is_end taking.Waits = false
is_end taking.NoMemory = false

-- The acts of the first line were typed and the line taken; if the terminal is read-only, the line is taken without them. Or the line
-- stays.
pub data TypesLine {S : Type 0} (pasted : Bool) (acts : List Act) (old new : Terminal S) (client client' : ClientView) (told : Taking)
    : Type 0 where
  typed : told ≡ taking.Line → Took old.lines.kept new.lines.kept → Types (acts_by old.watches acts) client client'
      → new.predicting ≡ predictions_by old.watches pasted acts client old.predicting
      → new
      ≡ record old {
        lines = new.lines;
        predicting = new.predicting;
        display_state = line_told (last_typed old.watches client') old.display_state;
      }
      → TypesLine pasted acts old new client client' told
  waits : told ≡ taking.Waits → old.watches ≡ false → Holds acts client → client' ≡ client → new ≡ old
      → TypesLine pasted acts old new client client' told
  no_memory : told ≡ taking.NoMemory → old.watches ≡ false → 0 < length acts → client' ≡ client → new ≡ old
      → TypesLine pasted acts old new client client' told

-- The entry of the first line was done, and the line taken. Or the line stays; or memory was refused; or the entry is out of place.
pub data TakesEntry {S : Type 0} (entry : Entry) (old new : Terminal S) (client client' : ClientView) (told : Taking) : Type 0 where
  taken : told ≡ taking_of old.watches entry → may_take entry old.lines.count old.display_state ≡ true
      → Took old.lines.kept new.lines.kept → Types (typed_by old.watches entry) client client'
      → Predictions old.watches entry client old.predicting new.predicting → Makes entry client' old new
      → TakesEntry entry old new client client' told
  waits : told ≡ taking.Waits → old.watches ≡ false → Holds (acts_in entry) client → client' ≡ client → new ≡ old
      → TakesEntry entry old new client client' told
  no_memory : told ≡ taking.NoMemory → old.watches ≡ false → 0 < length (acts_in entry) → client' ≡ client → new ≡ old
      → TakesEntry entry old new client client' told
  looks : told ≡ taking.Waits → is_look entry ≡ true → is_looking old.display_state ≡ true → client' ≡ client → new ≡ old
      → TakesEntry entry old new client client' told
  untold : told ≡ taking.NoMemory → entry ≡ Events → client' ≡ client → new ≡ old → TakesEntry entry old new client client' told
  late : told ≡ taking.Nothing → may_take entry old.lines.count old.display_state ≡ false → IsRefused old new → client' ≡ client
      → TakesEntry entry old new client client' told

-- the same of an entry that is a word, and types nothing
pub data TakesWord {S : Type 0} (entry : Entry) (client : ClientView) (old new : Terminal S) (told : Taking) : Type 0 where
  taken : told ≡ taking_of old.watches entry → may_take entry old.lines.count old.display_state ≡ true
      → Took old.lines.kept new.lines.kept → new.predicting ≡ old.predicting → Makes entry client old new
      → TakesWord entry client old new told
  looks : told ≡ taking.Waits → is_look entry ≡ true → is_looking old.display_state ≡ true → new ≡ old → TakesWord entry client old new told
  untold : told ≡ taking.NoMemory → entry ≡ Events → new ≡ old → TakesWord entry client old new told
  late : told ≡ taking.Nothing → may_take entry old.lines.count old.display_state ≡ false → IsRefused old new
      → TakesWord entry client old new told

-- ---- the law

-- of a terminal that was heard the next acts of its lines were typed
abbrev pub HeardStands : {S : Type 0} → (S → Option (List ℕ)) → (S → Option (List ℕ)) → Type 0
HeardStands {S} remaining contents =
    (entry : Option Entry) (old new : Terminal S) (client client' : ClientView) → HearsOne remaining contents entry old new client client'
    → Hears (remaining old.stream) (remaining new.stream) old.lines.kept new.lines.kept old.watches new.watches new.state client client'
