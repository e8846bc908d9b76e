-- A run of `roam rows`: which records it reads and how it answers each (this project's profile). Cited by `run_rows`.
use Rattle.std.specs.Prelude.{◌≡◌, ◌≢◌, ◌⊎◌, ℕ, zero, suc, ◌-◌, ◌^◌, ◌<◌, ◌≤◌, min, Bool, List, [], ◌∷◌, ◌++◌, codes, false, length, map, replicate, slice_index_or, slice_set, Option, Some, None, true, if◌then◌else◌}
use Rattle.std.specs.List.{All}
use Rattle.roam_cells.specs.Limits.{IsSize}
use Rattle.roam_scrollback.specs.Lines.{LinesView, lines_behind, most_kept}
use Rattle.roam_scrollback.specs.Rewraps.{IsLater, IsRewrapped}
use Rattle.roam_scrollback.specs.Sources.{IsSource}
use Rattle.roam_scrollback_stream.specs.Panes.{PaneView, ShowsAll, TellsAll, TellsFrom, fed_for, held_for, is_holding, kept_behind}
use Rattle.roam_scrollback_stream.specs.Records.{back_text, brought_text, lost_text, named_text, rows_text}
use Rattle.roam_scrollback_stream.specs.Requests.{IsRequest, most_terminals, request_text}
use Rattle.roam_scrollback_stream.specs.declared.requests.Request.{Request}
use Rattle.roam_scrollback_stream.specs.declared.requests.Request.TheVariants.{Pane, Size, Rewrap, Bytes, Screen, Gone}
use Rattle.roam_text.specs.Log.{Byte, Resized}

-- the most bytes of a record's line, without its LF
abbrev pub longest_line : ℕ
longest_line = 64

-- the terminal that a request is for
abbrev pub terminal_of : Request → ℕ
terminal_of (Pane n rows cols) = n
terminal_of (Size n rows cols) = n
terminal_of (Rewrap n rows cols) = n
terminal_of (Bytes n count) = n
terminal_of (Screen n) = n
terminal_of (Gone n) = n

-- how many bytes follow a request's line
abbrev pub bytes_after : Request → ℕ
bytes_after (Bytes n count) = count
bytes_after request = 0

-- the terminals before any record: none at each number
abbrev pub no_terminals : List (Option PaneView)
no_terminals = replicate most_terminals None

-- the terminal at a number, if there is one
abbrev pub terminal_at : List (Option PaneView) → ℕ → Option PaneView
terminal_at terminals n = slice_index_or terminals n None

-- a terminal of this size that was fed nothing
pub record IsNewPane (normalize : Bool) (n rows cols : ℕ) (pane : PaneView) : Type 0 where
  pub number : pane.number ≡ n
  pub source : IsSource pane.source rows cols []
  pub held : pane.held ≡ (if normalize then Some [] else None)
  pub kept : pane.kept ≡ []

-- a terminal is given another size, and the rows that leave by it are written
pub record IsResized (rows cols : ℕ) (old new : PaneView) (out out' : List ℕ) : Type 0 where
  pub is : IsSize rows cols
  pub tells : TellsAll old.source new.source old.number out out' (Resized rows cols ∷ [])
  pub from : TellsFrom old.source old.kept new.source new.kept old.number out out' (Resized rows cols ∷ [])
  pub held : new.held ≡ old.held
  pub number : new.number ≡ old.number

-- a terminal is fed bytes, through the filter if there is one, and the rows that leave by them are written
pub record IsFed (bytes : List ℕ) (old new : PaneView) (out out' : List ℕ) : Type 0 where
  pub tells : TellsAll old.source new.source old.number out out' (map Byte (fed_for old.held bytes))
  pub from : TellsFrom old.source old.kept new.source new.kept old.number out out' (map Byte (fed_for old.held bytes))
  pub held : new.held ≡ held_for old.held bytes
  pub number : new.number ≡ old.number

-- A terminal gets another size with its text whole: the rows that come back are withdrawn, the rows that leave then are written, and so is
-- the text that leads another terminal there.
pub record IsBrought (rows cols : ℕ) (old new : PaneView) (out out' : List ℕ) : Type 0 where
  pub is : IsSize rows cols
  pub whole : is_holding old.held ≡ false
  pub lines : LinesView
  pub back : ℕ
  pub text : List ℕ
  pub rewrapped : IsRewrapped old.source new.source (lines_behind old.kept) lines rows cols back text
  pub kept : new.kept ≡ kept_behind false lines
  pub few : length new.kept ≤ most_kept
  pub held : new.held ≡ old.held
  pub number : new.number ≡ old.number
  pub written : out' ≡ out ++ (back_text old.number back ++ (rows_text old.number lines ++ (lost_text old.number lines ++ brought_text old.number text)))

-- Either that is done; or nothing changes, and a word gives the reason: the terminal is within a sequence or a character, or its next
-- character isn't ASCII; the other screen is shown; or it can't be done.
pub data AnswersRewrap (rows cols : ℕ) (old new : PaneView) (out out' : List ℕ) : Type 0 where
  is_brought : IsBrought rows cols old new out out' → AnswersRewrap rows cols old new out out'
  is_later : (is_holding old.held ≡ true) ⊎ IsLater old.source → new ≡ old → out' ≡ out ++ named_text (codes "later ") old.number → AnswersRewrap rows cols old new out out'
  is_other : old.source.live.alternate ≡ true → new ≡ old → out' ≡ out ++ named_text (codes "other ") old.number
      → AnswersRewrap rows cols old new out out'
  is_refused : new ≡ old → out' ≡ out ++ named_text (codes "none ") old.number → AnswersRewrap rows cols old new out out'

-- the effect of a request on its terminal's place, and the output for it; its bytes are fed afterwards
abbrev pub Answers : Bool → Request → Option PaneView → Option PaneView → List ℕ → List ℕ → Type 0
Answers normalize (Pane n rows cols) old new out out' =
    (pane : PaneView) × (new ≡ Some pane) × IsNewPane normalize n rows cols pane × (out' ≡ out)
Answers normalize (Size n rows cols) old new out out' =
    (pane sized : PaneView) × (old ≡ Some pane) × (new ≡ Some sized) × IsResized rows cols pane sized out out'
Answers normalize (Rewrap n rows cols) old new out out' =
    (pane sized : PaneView) × (old ≡ Some pane) × (new ≡ Some sized) × AnswersRewrap rows cols pane sized out out'
Answers normalize (Bytes n count) old new out out' = (pane : PaneView) × (old ≡ Some pane) × (new ≡ old) × (out' ≡ out)
Answers normalize (Screen n) old new out out' = (pane : PaneView) × (old ≡ Some pane) × (new ≡ old) × ShowsAll pane.source pane.number out out'
Answers normalize (Gone n) old new out out' = (pane : PaneView) × (old ≡ Some pane) × (new ≡ None) × (out' ≡ out)

-- a request is out of place: its terminal isn't there, or its size is no size of a screen
abbrev pub IsMisplaced : Request → Option PaneView → Type 0
IsMisplaced (Pane n rows cols) old = ¬ IsSize rows cols
IsMisplaced (Size n rows cols) old = (old ≡ None) ⊎ (¬ IsSize rows cols)
IsMisplaced (Rewrap n rows cols) old = (old ≡ None) ⊎ (¬ IsSize rows cols)
IsMisplaced request old = old ≡ None

-- ---- a whole run

-- the input and output of a run, its terminals, the number of records, and the number of missing bytes of the last one, with its terminal
pub record RunView : Type 0 where
  pub terminals : List (Option PaneView)
  pub records : ℕ
  pub number : ℕ
  pub coming : ℕ
  pub input : List ℕ
  pub output : List ℕ

-- before any record
abbrev pub nothing_read : RunView
nothing_read = record { terminals = no_terminals; records = 0; number = 0; coming = 0; input = []; output = [] }

-- the line of a record is read and answered
pub record Asks (normalize : Bool) (old new : RunView) : Type 0 where
  pub request : Request
  pub is : IsRequest request
  pub place : Option PaneView
  pub between : old.coming ≡ 0
  pub answers : Answers normalize request (terminal_at old.terminals (terminal_of request)) place old.output new.output
  pub terminals : new.terminals ≡ slice_set old.terminals (terminal_of request) place
  pub records : new.records ≡ suc old.records
  pub number : new.number ≡ terminal_of request
  pub coming : new.coming ≡ bytes_after request
  pub input : new.input ≡ old.input ++ (request_text request ++ 0x0A ∷ [])

-- some of the bytes that follow a line are read, and fed to the terminal that the line names
pub record Feeds (old new : RunView) : Type 0 where
  pub piece : List ℕ
  pub some : 0 < length piece
  pub within : length piece ≤ old.coming
  pub pane : PaneView
  pub fed : PaneView
  pub there : terminal_at old.terminals old.number ≡ Some pane
  pub tells : IsFed piece pane fed old.output new.output
  pub terminals : new.terminals ≡ slice_set old.terminals old.number (Some fed)
  pub records : new.records ≡ old.records
  pub number : new.number ≡ old.number
  pub coming : new.coming ≡ old.coming - length piece
  pub input : new.input ≡ old.input ++ piece

-- a run of so many such steps, from nothing read
abbrev pub Runs : Bool → ℕ → RunView → Type 0
Runs normalize zero run = run ≡ nothing_read
Runs normalize (suc n) run = (before : RunView) × Runs normalize n before × (Asks normalize before run ⊎ Feeds before run)

-- the beginning of a record's line: it may still become one
pub record IsLineStart (line : List ℕ) : Type 0 where
  pub unended : All (λ byte. byte ≢ 0x0A) line
  pub short : length line ≤ longest_line

-- Each record of the input is answered, in order, and nothing else is written. The input may end with the beginning of a line.
pub record Ran (normalize : Bool) (read written : List ℕ) : Type 0 where
  pub steps : ℕ
  pub run : RunView
  pub line : List ℕ
  pub runs : Runs normalize steps run
  pub starts : IsLineStart line
  pub between : line ≢ [] → run.coming ≡ 0
  pub input : read ≡ run.input ++ line
  pub output : written ≡ run.output

-- the text behind the last record is bad: it is too long, it is no request, or its request is out of place
pub data IsBad (terminals : List (Option PaneView)) (line : List ℕ) : Type 0 where
  long : (start : List ℕ) (byte : ℕ) → IsLineStart start → length start ≡ longest_line → byte ≢ 0x0A → line ≡ start ++ byte ∷ []
      → IsBad terminals line
  unknown : (text : List ℕ) → IsLineStart text → ((request : Request) → IsRequest request → text ≢ request_text request)
      → line ≡ text ++ 0x0A ∷ [] → IsBad terminals line
  misplaced : (request : Request) → IsRequest request → IsMisplaced request (terminal_at terminals (terminal_of request))
      → line ≡ request_text request ++ 0x0A ∷ [] → IsBad terminals line

-- Each record before the line with this number, from 1, is answered, and nothing else is written. That line is no record, or out of place.
pub record RanTo (n : ℕ) (normalize : Bool) (read written : List ℕ) : Type 0 where
  pub steps : ℕ
  pub run : RunView
  pub line : List ℕ
  pub rest : List ℕ
  pub runs : Runs normalize steps run
  pub between : run.coming ≡ 0
  pub bad : IsBad run.terminals line
  pub counted : n ≡ min (suc run.records) (2 ^ 64 - 1)
  pub input : read ≡ run.input ++ (line ++ rest)
  pub output : written ≡ run.output
