-- The stream of an outer terminal that has to say a whole line soon.
use Rattle.std.specs.Prelude.{◌≡◌, ◌==◌, ℕ, Bool, true, false, List, take, Option, None, Some, Result, Ok, Err}
use Rattle.std.specs.List.{list_any}
use Rattle.std.specs.IoError.{error_kind}
use Rattle.std.specs.declared.io.Error.{Error}
use Rattle.std.specs.declared.io.ErrorKind.TheVariants.{WouldBlock}
use Rattle.roam_sockets.specs.declared.moments.Moments.{Moments}
use Rattle.roam_sockets.specs.declared.moments.Moments.TheVariants.{Real, Set}

-- the milliseconds that a terminal has for its first whole line
abbrev pub first_line : ℕ
first_line = 10000

-- the bytes that a read gave end a line
abbrev pub ends_line : Result ℕ Error → List ℕ → Bool
ends_line (Ok count) buf = list_any (λ byte. byte == 0x0A) (take count buf)
ends_line (Err error) buf = false

-- nothing can be read at this moment
abbrev pub HasNothing : Result ℕ Error → Type 0
HasNothing (Ok count) = ⊥
HasNothing (Err error) = error_kind error ≡ WouldBlock

-- the last moment
abbrev pub last_moment : {R : Type 0} → Moments R → ℕ
last_moment (Set moment) = moment
last_moment (Real clock start last) = last
