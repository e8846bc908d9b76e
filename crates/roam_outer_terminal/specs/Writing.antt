-- The writing of a terminal's queued bytes as it accepts them, and the notices of silence.
use Rattle.std.specs.Prelude.{◌≡◌, ◌⊎◌, ℕ, ◌-◌, Bool, true, false, nat_le, nat_lt, List, [], ◌∷◌, length, Option, Some, None, is_some, if◌then◌else◌}
use Rattle.std.specs.Io.KnownBytes.{Keeps}
use Rattle.roam_stream_framing.specs.Carriers.{Writes}
use Rattle.roam_display_records.specs.Records.{text_of}
use Rattle.roam_display_records.specs.declared.records.Record.TheVariants as records
use Rattle.roam_outer_terminal.specs.Silence.{due_of, is_over, notice_of}
use Rattle.roam_outer_terminal.specs.declared.silence.Silence.{Silence}
use Rattle.roam_outer_terminal.specs.declared.terminal.State.{State}
use Rattle.roam_outer_terminal.specs.declared.terminal.State.TheVariants.{Here, Deaf, Left, Refused, Gone}
use Rattle.roam_outer_terminal.specs.declared.terminal.Terminal.{Terminal}

-- the milliseconds after which a terminal that accepts none of its queued bytes is disconnected
abbrev pub longest_stuck : ℕ
longest_stuck = 60000

abbrev pub is_empty : List ℕ → Bool
is_empty [] = true
is_empty (byte ∷ bytes) = false

-- the state of a terminal that can't be written to any more: the lines that it typed are still taken
abbrev pub unwritten : State → State
unwritten Here = Deaf
unwritten Deaf = Deaf
unwritten Left = Left
unwritten Refused = Gone
unwritten Gone = Gone

-- one whose line was refused is let go once all is written
abbrev pub once_written : State → State
once_written Refused = Gone
once_written Here = Here
once_written Deaf = Deaf
once_written Left = Left
once_written Gone = Gone

-- some of what waited was taken
abbrev pub has_gone : List ℕ → List ℕ → Bool
has_gone old new = nat_lt (length new) (length old)

-- the moment since which a terminal has accepted none of its queued bytes: now if it has just accepted some, or if it was not stuck before
abbrev pub stuck_since : Bool → ℕ → Option ℕ → ℕ
stuck_since true now stuck = now
stuck_since false now None = now
stuck_since false now (Some since) = since

abbrev pub stuck_after : Bool → Bool → ℕ → Option ℕ → Option ℕ
stuck_after true has_taken now stuck = None
stuck_after false has_taken now stuck = Some (stuck_since has_taken now stuck)

-- one that takes nothing for a minute is let go
abbrev pub state_after : Bool → Bool → ℕ → Option ℕ → State → State
state_after true has_taken now stuck state = once_written state
state_after false has_taken now stuck state =
    if nat_le longest_stuck (now - stuck_since has_taken now stuck) then Gone else state

-- Some of a terminal's queued bytes were written, and the rest of the terminal stays: the noted screen, the overlay, the predictions and
-- its lines. After a failed write nothing more can be written. A terminal is stuck from the moment at which its queue stopped shrinking.
pub record Flushes {S : Type 0} (remaining contents : S → Option (List ℕ)) (now : ℕ) (old new : Terminal S) : Type 0 where
  pub writes : Writes (contents old.stream) (contents new.stream) old.waiting new.waiting
  pub apart : Keeps (remaining old.stream) (remaining new.stream)
  pub written : State
  pub fails : (written ≡ old.state) ⊎ (written ≡ unwritten old.state)
  pub stuck : new.stuck ≡ stuck_after (is_empty new.waiting) (has_gone old.waiting new.waiting) now old.stuck
  pub state : new.state ≡ state_after (is_empty new.waiting) (has_gone old.waiting new.waiting) now old.stuck written
  pub others : new
      ≡ record old { stream = new.stream; waiting = new.waiting; stuck = new.stuck; state = new.state }

-- the silence as a terminal shows it
abbrev pub seen_by : {S : Type 0} → Silence → Terminal S → Silence
seen_by silence t = record silence { told = t.told }

-- The records of a silence: that it is over, or its seconds, if no bytes are queued and the terminal is connected. Otherwise nothing
-- changes. The noted screen and the overlay stay.
pub data SaysSilence {S : Type 0} (seen : Silence) (old new : Terminal S) : Type 0 where
  heard : is_over seen ≡ true → old.waiting ≡ [] → old.state ≡ Here
      → new ≡ record old { told = None; waiting = text_of records.Heard } → SaysSilence seen old new
  silent : (seconds : ℕ) → is_over seen ≡ false → due_of seen ≡ Some seconds → old.waiting ≡ [] → old.state ≡ Here
      → new ≡ record old { told = Some seconds; waiting = text_of (records.Silent seconds) } → SaysSilence seen old new
  quiet : new ≡ old → SaysSilence seen old new

-- The notice of a silence: it is over, and the terminal's screen is unknown; or its seconds are shown, if no bytes are queued and no
-- overlay is shown. Otherwise nothing changes. A terminal with records gets records.
pub data TellsSilence {S : Type 0} (silence : Silence) (old new : Terminal S) : Type 0 where
  over : is_some old.display_state ≡ false → is_over (seen_by silence old) ≡ true → new ≡ record old { told = None; outer = None }
      → TellsSilence silence old new
  told : (seconds : ℕ) → is_some old.display_state ≡ false → is_over (seen_by silence old) ≡ false → due_of (seen_by silence old) ≡ Some seconds
      → old.waiting ≡ [] → old.over ≡ None → old.state ≡ Here
      → new ≡ record old { told = Some seconds; outer = None; waiting = notice_of seconds } → TellsSilence silence old new
  quiet : is_some old.display_state ≡ false → is_over (seen_by silence old) ≡ false → new ≡ old → TellsSilence silence old new
  says : is_some old.display_state ≡ true → SaysSilence (seen_by silence old) old new → TellsSilence silence old new

-- a terminal got its notice of a silence, if one was due, and some of its queued bytes were written
pub record Settles {S : Type 0} (remaining contents : S → Option (List ℕ)) (silence : Silence) (old new : Terminal S) : Type 0 where
  pub told : Terminal S
  pub tells : TellsSilence silence old told
  pub flushes : Flushes remaining contents silence.moment told new
