use Rattle.std.proofs.Common.{sym, ◌∙◌}
use Rattle.roam_normalize.proofs.Glances.{unchanged}
use Rattle.roam_normalize.proofs.renditions.is_changed.Goals as goal

pub returns-else-may_change : goal.returns-else-may_change
returns-else-may_change c = record {
  changed = c.if-may_change.false ∙ unchanged c.args.bytes.now (sym c.may_change.ensures.may ∙ c.if-may_change.false);
}
