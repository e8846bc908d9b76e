-- The stream of a program that follows the panes.
use Rattle.std.specs.Prelude.{ℕ, List, [], ◌∷◌, Option, Some, None}
use Rattle.std.specs.Io.KnownBytes.{Appends, Consumes}
use Rattle.roam_stream_framing.specs.Streams.{Answer, Answered}

-- A stream was asked once, and is dropped exactly if its answer asks for that.
abbrev pub HasAsked : (Answer → Type 0) → {S : Type 0} → (S → Option (List Answer)) → S → Option S → Type 0
HasAsked Ends {S} answers old None =
    (asked : S) × (answer : Answer) × Answered (answers old) (answers asked) (answer ∷ []) × Ends answer
HasAsked Ends {S} answers old (Some new) =
    (answer : Answer) × Answered (answers old) (answers new) (answer ∷ []) × (Ends answer → ⊥)

-- these bytes were written to a stream that is still there
abbrev pub Wrote : {S : Type 0} → (S → Option (List ℕ)) → Option S → Option S → List ℕ → Type 0
Wrote contents old None bytes = Unit {0}
Wrote contents None (Some new) bytes = ⊥
Wrote contents (Some old) (Some new) bytes = Appends (contents old) (contents new) bytes

-- these bytes were read of a stream that is still there, and no others
abbrev pub Heard : {S : Type 0} → (S → Option (List ℕ)) → Option S → Option S → List ℕ → Type 0
Heard remaining old None bytes = Unit {0}
Heard remaining None (Some new) bytes = ⊥
Heard remaining (Some old) (Some new) bytes = Consumes (remaining old) (remaining new) bytes
