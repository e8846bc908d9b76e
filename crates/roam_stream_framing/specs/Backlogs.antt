-- Bytes that wait, in pieces.
use Rattle.std.specs.Prelude.{ℕ, ◌<◌, List, length, Vec}
use Rattle.std.specs.List.{All, flat_map}
use Rattle.std.specs.declared.alloc.Global.{Global}

-- the bytes of pieces, one after another
abbrev pub joined : List (Vec ℕ Global) → List ℕ
joined pieces = flat_map (λ piece. piece.items) pieces

-- no piece is without bytes
abbrev pub AreFilled : List (Vec ℕ Global) → Type 0
AreFilled pieces = All (λ (piece : Vec ℕ Global). 0 < length piece.items) pieces
