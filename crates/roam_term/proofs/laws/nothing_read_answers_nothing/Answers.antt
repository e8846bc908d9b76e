use Rattle.std.proofs.Common.{refl}
use Rattle.roam_text.specs.Functions as text
use Rattle.roam_term.specs.Terminal.{term, reports}
use Rattle.roam_term.proofs.laws.nothing_read_answers_nothing.Goals as goal

pub returns : goal.returns
unfolding term reports text.functions text.functions_from
returns c = record { silent = λ rows cols lines. refl }
