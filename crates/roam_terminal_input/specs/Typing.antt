-- The acts that come over a stream, one a line, cut into pieces anywhere (this project's profile).
use Rattle.std.specs.Prelude.{◌≡◌, ◌≢◌, ℕ, ◌+◌, ◌-◌, ◌^◌, ◌≤◌, min, List, [], ◌∷◌, ◌++◌, length, take, Option, Some, None, Result, Ok, Err}
use Rattle.std.specs.declared.io.Error.{Error}
use Rattle.roam_acts.specs.declared.acts.Act.{Act}
use Rattle.roam_faults.specs.Streams.{AreLines}
use Rattle.roam_terminal_input.specs.Keys.{lines_of, IsLineOf, AreLinesOf}
use Rattle.roam_terminal_input.specs.declared.typing.Stream.{Stream}
use Rattle.roam_terminal_input.specs.declared.typing.Stream.TheVariants.{Absent, Open, Ended, Spoiled, SpoiledLast}
use Rattle.roam_terminal_input.specs.declared.typing.ActLines.{ActLines}

-- ---- lines

-- the most bytes that are gathered of a line: one of more is no act
abbrev pub most_gathered : ℕ
most_gathered = 64

-- a line is no act
abbrev pub IsNoAct : List ℕ → Type 0
IsNoAct line = (act : Act) → IsLineOf line act → ⊥

-- ---- how far a stream came

-- the lines that ended so far are these acts, each the act at its place, and another line is begun
pub record Came (log : List ℕ) (acts : List Act) (begun : List ℕ) : Type 0 where
  pub lines : List (List ℕ)
  pub are : AreLines log lines begun
  pub spelled : AreLinesOf lines acts

-- the first lines of a text are these acts, and the next is none
pub record StopsAfter (acts : List Act) (text : List ℕ) : Type 0 where
  pub lines : List (List ℕ)
  pub line : List ℕ
  pub later : List (List ℕ)
  pub are : lines_of text ≡ lines ++ line ∷ later
  pub spelled : AreLinesOf lines acts
  pub none : IsNoAct line

-- so many lines, as far as numbers go
abbrev pub line_count : ℕ → ℕ
line_count lines = min lines (2 ^ 64 - 1)

-- The acts of a stream's lines after these bytes. No stream: none. Open: its whole lines are these acts. Ended: all its lines are, as of a
-- file. Spoiled: its lines are these acts and then one that is no act, whatever follows; or so at its end.
abbrev pub HasCome : Stream → List ℕ → List Act → List ℕ → Type 0
HasCome Absent log acts begun = (log ≡ []) × (acts ≡ [])
HasCome Open log acts begun = Came log acts begun
HasCome Ended log acts begun = AreLinesOf (lines_of log) acts
HasCome (Spoiled number) log acts begun = (number ≡ line_count (length acts + 1)) × ((more : List ℕ) → StopsAfter acts (log ++ more))
HasCome (SpoiledLast number) log acts begun = (number ≡ line_count (length acts + 1)) × StopsAfter acts log

-- After these bytes, of these first acts and those of the stream's lines, in order, these were taken and the others wait.
pub record Stands (lines : ActLines) (first : List Act) (log : List ℕ) (taken : List Act) : Type 0 where
  pub came : List Act
  pub order : taken ++ lines.waiting.items ≡ first ++ came
  pub has_come : HasCome lines.stream log came lines.begun.items
  pub count : lines.count ≡ line_count (length came)
  pub short : length lines.begun.items ≤ most_gathered

-- more of a stream may come, or is let go
abbrev pub GoesOn : Stream → Type 0
GoesOn Absent = ⊥
GoesOn Open = Unit {0}
GoesOn Ended = ⊥
GoesOn (Spoiled number) = Unit {0}
GoesOn (SpoiledLast number) = ⊥

-- the state of a stream at its end
abbrev pub last_of : Stream → Stream
last_of Open = Ended
last_of (Spoiled number) = SpoiledLast number
last_of Absent = Absent
last_of Ended = Ended
last_of (SpoiledLast number) = SpoiledLast number

-- the number of the line that is no act
abbrev pub spoiled_at : Stream → Option ℕ
spoiled_at (Spoiled number) = Some number
spoiled_at (SpoiledLast number) = Some number
spoiled_at Absent = None
spoiled_at Open = None
spoiled_at Ended = None

-- the number of the line that is no act, once no act waits before it
abbrev pub refused_at : Stream → List Act → Option ℕ
refused_at stream [] = spoiled_at stream
refused_at stream (act ∷ acts) = None

-- ---- reading

-- the most bytes that are read at once
abbrev pub longest_piece : ℕ
longest_piece = 1024

-- the bytes that a read gave
abbrev pub bytes_given : Result ℕ Error → List ℕ → List ℕ
bytes_given (Ok n) buf = take n buf
bytes_given (Err error) buf = []

-- The end of a line arrived: the line is an act, which waits behind the others, and a new line begins; or it is no act.
pub data EndsLine (old new : ActLines) : Type 0 where
  act : (a : Act) → IsLineOf old.begun.items a → new.waiting.items ≡ old.waiting.items ++ a ∷ [] → new.begun.items ≡ []
      → new.count ≡ line_count (old.count + 1) → new.stream ≡ old.stream → EndsLine old new
  none : IsNoAct old.begun.items → new ≡ record old { stream = Spoiled (line_count (old.count + 1)) } → EndsLine old new

-- more bytes were read, behind those before
abbrev pub Reads : ActLines → List ℕ → ActLines → Type 0
Reads old bytes new =
    (first : List Act) (log : List ℕ) (taken : List Act) → Stands old first log taken → Stands new first (log ++ bytes) taken

-- the same while it goes on
pub record ReadsOn (old : ActLines) (bytes : List ℕ) (new : ActLines) : Type 0 where
  pub goes : GoesOn new.stream
  pub reads : Reads old bytes new
  pub few : length new.waiting.items ≤ length old.waiting.items + length bytes
