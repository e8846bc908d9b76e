use Rattle.std.proofs.Common.{ap, ◌∙◌}
use Rattle.roam_update.specs.TableText.{tabled_read}
use Rattle.roam_update.proofs.TableAgain.{tabled_again}
use Rattle.roam_update.proofs.TableSpelled.{tabled_spelled, one_tabled}
use Rattle.roam_update.proofs.laws.tabled_grammar.Goals as goal

pub returns : goal.returns
returns c = record {
  again = λ x text h. ap tabled_read h.spelled ∙ tabled_again x h.change;
  spelled = λ text x. tabled_spelled text x;
  one = λ x y text. one_tabled x y text;
}
