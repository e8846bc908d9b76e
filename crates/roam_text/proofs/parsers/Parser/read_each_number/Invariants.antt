use Rattle.std.proofs.Common.{length, ◌-◌, ◌≡◌, ◌≤◌, ◌++◌, List, map, take}
use Rattle.roam_text.specs.Log.{Sign, character}
use Rattle.roam_text.specs.Functions.{AreAscii}
use Rattle.roam_text.specs.Residual.{outcome}
use Rattle.roam_text.specs.declared.parsers.Phase.TheVariants.{InControlSequence}
use Rattle.roam_text.proofs.parsers.Parser.read_each_number.Given as goal

abbrev pub invariant-loop-count : goal.invariant-loop-count
invariant-loop-count l = (l.count ≤ length l.piece) × AreAscii (take l.count l.piece)
    × ((rest : List Sign) → outcome l.initial.self (map character (take l.count l.piece) ++ rest) ≡ outcome l.self rest)
    × (l.self.phase ≡ InControlSequence)

abbrev pub decreases-loop-count : goal.decreases-loop-count
decreases-loop-count l = length l.piece - l.count
