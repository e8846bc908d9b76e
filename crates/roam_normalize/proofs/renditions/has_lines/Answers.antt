use Rattle.std.proofs.Common.{sym, ◌∙◌}
use Rattle.roam_normalize.specs.Renditions.{is_of_lines}
use Rattle.std.proofs.Common.{ap}
use Rattle.roam_normalize.proofs.Spelling.{lines-found, lines-none, lines-on, on-within}
use Rattle.roam_normalize.proofs.renditions.has_lines.Goals as goal

pub returns-then-is_of_lines : goal.returns-then-is_of_lines
returns-then-is_of_lines c = record {
  lines = lines-found c.args.bytes.now c.loop-rest.at c.loop-rest.invariant.1
      (sym (c.is_of_lines.ensures.lines ∙ ap is_of_lines c.first_kind.ensures.kind) ∙ c.if-is_of_lines.true);
}

pub returns-then-end-rest : goal.returns-then-end-rest
returns-then-end-rest c = record {
  lines = lines-none c.args.bytes.now c.loop-rest.at c.group_length-end.result c.group_length-end.ensures.length c.loop-rest.invariant.1
      (sym (c.is_of_lines.ensures.lines ∙ ap is_of_lines c.first_kind.ensures.kind) ∙ c.if-is_of_lines.false) c.if-end-rest.true;
}

pub loop-rest-preserved : goal.loop-rest-preserved
loop-rest-preserved c = (
  on-within c.args.bytes.now c.loop-rest.at c.group_length-end.result c.loop-rest.invariant.0 c.if-end-rest.false,
  lines-on c.args.bytes.now c.loop-rest.at c.group_length-end.result c.group_length-end.ensures.length c.loop-rest.invariant.1
      (sym (c.is_of_lines.ensures.lines ∙ ap is_of_lines c.first_kind.ensures.kind) ∙ c.if-is_of_lines.false) c.if-end-rest.false,
)
