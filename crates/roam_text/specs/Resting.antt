-- A log whose reader is between characters and between sequences.
use Rattle.std.specs.Prelude.{◌≡◌, List, [], ◌++◌}
use Rattle.roam_text.specs.Functions.{functions}
use Rattle.roam_text.specs.Log.{Item, Sign, bytes_of, signs, unfinished_part}

-- the reader of a log is between characters and between sequences: later bytes are read as if there were none before
pub record AtRest (log : List Item) : Type 0 where
  pub whole : unfinished_part (bytes_of log) ≡ []
  pub to_come : (rest : List Sign) → functions (signs log ++ rest) ≡ functions (signs log) ++ functions rest
