use Rattle.std.proofs.Common.{ap, ◌∙◌}
use Rattle.roam_update.specs.ChangeText.{change_read}
use Rattle.roam_update.proofs.ChangeAgain.{change_again}
use Rattle.roam_update.proofs.ChangeSpelled.{change_spelled, one_change}
use Rattle.roam_update.proofs.laws.grammar.Goals as goal

pub returns : goal.returns
returns c = record {
  again = λ x text h. ap change_read h.spelled ∙ change_again x h.change h.short;
  spelled = λ text x. change_spelled text x;
  one = λ x y text. one_change x y text;
}
