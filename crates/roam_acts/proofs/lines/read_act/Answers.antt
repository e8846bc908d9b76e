use Rattle.std.proofs.Common.{subst, sym, ◌∙◌}
use Rattle.std.specs.Prelude.{IfOk}
use Rattle.roam_acts.specs.Acts.{IsAct, IsInRange}
use Rattle.roam_acts.specs.Lines.{Spells}
use Rattle.roam_acts.proofs.Spelling.{is_found, is_ranged, only_act}
use Rattle.roam_acts.proofs.lines.read_act.Goals as goal

pub returns-clause-found : goal.returns-clause-found
returns-clause-found c =
    subst (λ r. IfOk r (λ a. IsAct a × Spells c.args.line.now a)) (sym c.ok_or.ensures.value) (is_found c.args.line.now c.act_in.result c.act_in.ensures.act)

pub returns-clause-in_range : goal.returns-clause-in_range
returns-clause-in_range c = subst (λ r. IfOk r IsInRange) (sym c.ok_or.ensures.value) (is_ranged c.args.line.now c.act_in.result c.act_in.ensures.act)

pub returns-clause-only : goal.returns-clause-only
returns-clause-only c = λ a is s. c.ok_or.ensures.value ∙ only_act c.args.line.now c.act_in.result c.act_in.ensures.act a is s
