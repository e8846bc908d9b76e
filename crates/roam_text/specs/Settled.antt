-- The characters that a byte settles.
use Rattle.std.specs.Prelude.{ℕ, List, [], ◌∷◌}
use Rattle.roam_text.specs.declared.decoders.Settled.{Settled}
use Rattle.roam_text.specs.declared.decoders.Settled.TheVariants.{Nothing, One, AfterReplacement}

-- the characters, in order
abbrev pub characters_of : Settled → List ℕ
characters_of Nothing = []
characters_of (One c) = c ∷ []
characters_of (AfterReplacement c) = 0xFFFD ∷ c ∷ []
