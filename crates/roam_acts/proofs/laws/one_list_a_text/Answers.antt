use Rattle.std.proofs.lemmas.List.Elements.{recursion_from_All}
use Rattle.roam_acts.specs.Acts.{IsAct}
use Rattle.roam_acts.proofs.Texts.{one_list}
use Rattle.roam_acts.proofs.laws.one_list_a_text.Goals as goal

pub returns : goal.returns
returns c = record { one = λ xs ys p q e. one_list xs ys (recursion_from_All IsAct xs p) (recursion_from_All IsAct ys q) e }
