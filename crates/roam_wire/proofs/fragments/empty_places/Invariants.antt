use Rattle.std.proofs.Common.{◌≡◌, None}
use Rattle.std.specs.Prelude.{replicate}
use Rattle.roam_wire.specs.Fragments.{seen}
use Rattle.roam_wire.proofs.fragments.empty_places.Given as goal

abbrev pub invariant-loop : goal.invariant-loop
invariant-loop l = seen l.places.items ≡ replicate l.counter None
