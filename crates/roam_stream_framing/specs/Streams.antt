-- The results of a stream's reads and writes, and its end.
use Rattle.std.specs.Prelude.{◌≡◌, ◌⊎◌, ℕ, Bool, true, List, [], ◌∷◌, ◌++◌, take, Option, Some, None, Result, Ok, Err, IsOk, IsErr}
use Rattle.std.specs.declared.io.Error.{Error}
use Rattle.roam_faults.specs.Streams.{IsStreamEnd}

-- the result of a read or a write
abbrev pub Answer : Type 0
Answer = Result ℕ Error

-- of the answers that are known these were given
abbrev pub Answered : Option (List Answer) → Option (List Answer) → List Answer → Type 0
Answered None after answers = Unit {0}
Answered (Some before) None answers = ⊥
Answered (Some before) (Some after) answers = before ≡ answers ++ after

-- the bytes that an answered read brought
abbrev pub bytes_of : Answer → List ℕ → List ℕ
bytes_of (Ok n) piece = take n piece
bytes_of (Err error) piece = []

-- The results of a read that may end a stream: there are no more bytes, it failed, or memory was refused for the bytes.
abbrev pub MayEndReading : Answer → Type 0
MayEndReading answer = IsStreamEnd answer ⊎ IsOk answer

-- one of the answers that were given is such
pub record HasAnswered (Ends : Answer → Type 0) (before after : Option (List Answer)) : Type 0 where
  pub earlier : List Answer
  pub answer : Answer
  pub later : List Answer
  pub answered : Answered before after (earlier ++ answer ∷ later)
  pub ends : Ends answer

-- A stream was asked, and was over before or not. It stays over, and ends if a result says so.
pub record Asks (Ends : Answer → Type 0) (before after : Option (List Answer)) (was is : Bool) : Type 0 where
  pub answers : List Answer
  pub answered : Answered before after answers
  pub stays : was ≡ true → is ≡ true
  pub over : is ≡ true → (was ≡ true) ⊎ HasAnswered Ends before after

-- no more of the queued bytes are written: there are none, the stream is over, or a write has failed
abbrev pub HasStopped : Bool → List ℕ → Option (List Answer) → Option (List Answer) → Type 0
HasStopped over waiting before after = (waiting ≡ []) ⊎ ((over ≡ true) ⊎ HasAnswered IsErr before after)
