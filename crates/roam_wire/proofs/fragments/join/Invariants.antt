use Rattle.std.proofs.Common.{◌≡◌, ◌++◌, drop}
use Rattle.roam_wire.specs.Fragments.{seen, text_of}
use Rattle.roam_wire.proofs.fragments.join.Given as goal

abbrev pub invariant-loop-place : goal.invariant-loop-place
invariant-loop-place l = l.text.items ++ text_of (seen (drop l.place-index l.places)) ≡ text_of (seen l.places)
