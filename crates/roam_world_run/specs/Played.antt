-- The state of the code that plays a script at a stage of it, and the effects of its calls. No public clause cites it.
use Rattle.std.specs.Prelude.{◌≡◌, ℕ, ◌+◌, List, ◌++◌, length, Option, Some, None}
use Rattle.std.specs.Io.KnownBytes.{Appends, Keeps}
use Rattle.roam_cells.specs.declared.faults.Fault.TheVariants.{OutOfMemory}
use Rattle.roam_world_script.specs.Values.{LineValue}
use Rattle.roam_simulation.specs.Worlds.{WorldView, StandsFor}
use Rattle.roam_faults.specs.declared.faults.RunFault.{RunFault}
use Rattle.roam_faults.specs.declared.faults.RunFault.TheVariants as run
use Rattle.roam_world_run.specs.Scripts.{Stage, Before, Within, AnswersLine, Answers, Plays, Ends}
use Rattle.roam_faults.specs.Streams.{AreLines}

-- a world of the code is that of a stage
abbrev pub IsAt : Option WorldView → Stage → Type 0
IsAt None Before = Unit {0}
IsAt None (Within session size es rs) = ⊥
IsAt (Some v) Before = ⊥
IsAt (Some v) (Within session size es rs) = StandsFor v session size es rs

-- a line was answered, and the world is at the stage after it
pub record HasAnswer (stage : Stage) (l : LineValue) (answer : List ℕ) (new : Option WorldView) : Type 0 where
  pub left : Stage
  pub answers : Answers stage l answer left
  pub at : IsAt new left

-- a line was played: its answer was written, and the world is at the stage after it
pub record HasPlayed (stage : Stage) (line : List ℕ) (before after : Option (List ℕ)) (new : Option WorldView) : Type 0 where
  pub answer : List ℕ
  pub left : Stage
  pub answers : AnswersLine stage line answer left
  pub at : IsAt new left
  pub written : Appends before after answer

-- why a line wasn't played: writing failed; or nothing was written, and memory is wanting or the line ends the script
pub data Fails (stage : Stage) (number : ℕ) (line : List ℕ) (before after : Option (List ℕ)) (fault : RunFault) : Type 0 where
  unwritten : fault ≡ run.Write → Fails stage number line before after fault
  no_memory : fault ≡ run.Core OutOfMemory → Keeps before after → Fails stage number line before after fault
  ends : Ends stage number line fault → Keeps before after → Fails stage number line before after fault

-- a piece was played behind a line that was begun: its lines have their answers, which were written, and another line is begun
pub record Fed (stage : Stage) (old piece new : List ℕ) (before after : Option (List ℕ)) (world : Option WorldView) (number counted : ℕ)
    : Type 0 where
  pub lines : List (List ℕ)
  pub are : AreLines (old ++ piece) lines new
  pub left : Stage
  pub text : List ℕ
  pub plays : Plays stage lines text left
  pub at : IsAt world left
  pub written : Appends before after text
  pub count : counted ≡ number + length lines
