-- The state of a stream by the answer to a read or a write, and the lines of its bytes.
use Rattle.std.specs.Prelude.{◌≡◌, ◌≢◌, ◌⊎◌, ℕ, List, [], ◌∷◌, ◌++◌, Result, Ok, Err}
use Rattle.std.specs.List.{All, flat_map}
use Rattle.std.specs.IoError.{error_kind}
use Rattle.std.specs.declared.io.Error.{Error}
use Rattle.std.specs.declared.io.ErrorKind.TheVariants.{Interrupted, WouldBlock}

-- a read or a write that failed so may go well later
abbrev pub IsForNow : Error → Type 0
IsForNow error = (error_kind error ≡ WouldBlock) ⊎ (error_kind error ≡ Interrupted)

-- A stream with this answer is over: a read into a buffer with room gave nothing, a write of some bytes took none, or it has failed.
abbrev pub IsStreamEnd : Result ℕ Error → Type 0
IsStreamEnd (Ok n) = n ≡ 0
IsStreamEnd (Err error) = IsForNow error → ⊥

-- ---- the lines of a stream

-- a line with its end
abbrev pub ended_line : List ℕ → List ℕ
ended_line line = line ++ 0x0A ∷ []

-- no end of line is in it
abbrev pub IsOneLine : List ℕ → Type 0
IsOneLine line = All (λ byte. byte ≢ 0x0A) line

-- the bytes read are lines, each with its end, and a line that is begun
pub record AreLines (log : List ℕ) (lines : List (List ℕ)) (begun : List ℕ) : Type 0 where
  pub is : log ≡ flat_map ended_line lines ++ begun
  pub each : All IsOneLine lines
  pub last : IsOneLine begun
