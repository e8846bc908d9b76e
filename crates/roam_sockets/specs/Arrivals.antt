-- The datagrams from two sources, which take turns to be asked first.
use Rattle.std.specs.Prelude.{◌≡◌, ℕ, List, [], ◌∷◌, take, Option, Some, None, IsSome}
use Rattle.roam_cells.specs.declared.addresses.Addr.{Addr}

-- a datagram that arrived, and its sender
pub record Arrived : Type 0 where
  pub from : Addr
  pub datagram : List ℕ

-- if the arrived datagrams are known, the first is given, up to this length; none is if none arrived
abbrev pub Gives : Option (List Arrived) → Option (List Arrived) → List ℕ → Option (Addr × ℕ) → Type 0
Gives None after buf result = Unit {0}
Gives (Some []) after buf result = (after ≡ Some []) × (result ≡ None)
Gives (Some (first ∷ others)) after buf result =
    (after ≡ Some others) × ((len : ℕ) × (result ≡ Some (first.from, len)) × (take len buf ≡ take len first.datagram))

-- The source that is asked first gives its datagram. If it has none, the other source gives its own.
pub data GivesFirst (one one' other other' : Option (List Arrived)) (buf : List ℕ) (result : Option (Addr × ℕ)) : Type 0 where
  of_one : IsSome result → Gives one one' buf result → other' ≡ other → GivesFirst one one' other other' buf result
  of_other : (before : List ℕ) → Gives one one' before None → Gives other other' buf result → GivesFirst one one' other other' buf result
