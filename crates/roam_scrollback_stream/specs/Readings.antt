-- The state of `roam rows` while it reads, in the code. No public clause cites it: Runs define reading.
use Rattle.std.specs.Prelude.{◌≡◌, ◌≢◌, ℕ, ◌-◌, ◌^◌, ◌<◌, min, Bool, true, false, List, [], ◌++◌, is_some, Option}
use Rattle.roam_scrollback_stream.specs.Panes.{PaneView}
use Rattle.roam_scrollback_stream.specs.Runs.{Answers, IsLineStart, IsMisplaced, RunView, Runs, terminal_at}
use Rattle.roam_scrollback_stream.specs.declared.requests.Request.{Request}

-- the line that hasn't ended, how many lines came, and how many bytes are to come for which terminal
pub record InputView : Type 0 where
  pub line : List ℕ
  pub lines : ℕ
  pub coming : ℕ
  pub number : ℕ

-- the terminals, each at its number, and true if each has a filter
pub record TerminalsView : Type 0 where
  pub normalize : Bool
  pub all_of : List (Option PaneView)

-- the terminals, and how far the input came
pub record ReadingView : Type 0 where
  pub normalize : Bool
  pub terminals : List (Option PaneView)
  pub input : InputView

abbrev pub reading_of : TerminalsView → InputView → ReadingView
reading_of terminals input = record { normalize = terminals.normalize; terminals = terminals.all_of; input = input }

-- a request is carried out, or it is out of place and nothing changes
abbrev pub DoesOrNot : Bool → Bool → Request → Option PaneView → Option PaneView → List ℕ → List ℕ → Type 0
DoesOrNot true normalize request old new out out' = Answers normalize request old new out out'
DoesOrNot false normalize request old new out out' = IsMisplaced request old × (new ≡ old) × (out' ≡ out)

-- a reader models the bytes that it read and wrote
pub record Reaches (reading : ReadingView) (read output : List ℕ) : Type 0 where
  pub steps : ℕ
  pub run : RunView
  pub runs : Runs reading.normalize steps run
  pub starts : IsLineStart reading.input.line
  pub between : reading.input.line ≢ [] → reading.input.coming ≡ 0
  pub terminals : run.terminals ≡ reading.terminals
  pub records : reading.input.lines ≡ min run.records (2 ^ 64 - 1)
  pub number : run.number ≡ reading.input.number
  pub coming : run.coming ≡ reading.input.coming
  pub there : 0 < reading.input.coming → is_some (terminal_at reading.terminals reading.input.number) ≡ true
  pub read_is : read ≡ run.input ++ reading.input.line
  pub output_is : output ≡ run.output
