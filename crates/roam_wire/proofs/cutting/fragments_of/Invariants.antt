use Rattle.std.proofs.Common.{◌≡◌, ◌++◌, length}
use Rattle.roam_wire.specs.Cutting.{fragments_of, texts_of}
use Rattle.roam_wire.proofs.cutting.fragments_of.Given as goal

-- the fragments so far, and those of the rest
abbrev pub invariant-loop-rest : goal.invariant-loop-rest
invariant-loop-rest l = texts_of l.fragments.items ++ fragments_of l.rest ≡ fragments_of l.text

abbrev pub decreases-loop-rest : goal.decreases-loop-rest
decreases-loop-rest l = length l.rest
