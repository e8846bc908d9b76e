use Rattle.std.proofs.Common.{length, ◌-◌, ◌≡◌, ◌≢◌, ◌≤◌, ◌++◌, List, map, take}
use Rattle.roam_text.specs.Log.{Sign, character}
use Rattle.roam_text.specs.Functions.{AreAscii}
use Rattle.roam_text.specs.Residual.{outcome}
use Rattle.roam_text.specs.declared.parsers.Phase.TheVariants.{InControlSequence}
use Rattle.roam_text.specs.declared.parsers.Place.TheVariants.{Intermediates}
use Rattle.roam_text.proofs.parsers.Parser.read_short_numbers.Given as goal

abbrev pub invariant-loop-at : goal.invariant-loop-at
invariant-loop-at l = record {
  within : l.at ≤ length l.piece;
  ascii : AreAscii (take l.at l.piece);
  read : (rest : List Sign) → outcome l.initial.self (map character (take l.at l.piece) ++ rest) ≡ outcome l.self rest;
  phase : l.self.phase ≡ InControlSequence;
  place : l.self.sequence.place ≢ Intermediates;
}

abbrev pub decreases-loop-at : goal.decreases-loop-at
decreases-loop-at l = length l.piece - l.at
