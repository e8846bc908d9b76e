use Rattle.std.proofs.Common.{subst, sym}
use Rattle.roam_world_script.specs.Arguments.{IsRead}
use Rattle.roam_world_script.proofs.Heads.{plain_read}
use Rattle.roam_world_script.proofs.lines.argument.Goals as goal

pub returns-in_default-clause-read : goal.returns-in_default-clause-read
returns-in_default-clause-read c =
    subst (IsRead c.args.kind c.args.text.now) (sym c.ok_or.ensures.value) (plain_read c.args.kind c.args.text.now c.plain.result
    c.in_default.not-PaneBytes c.in_default.not-Typed c.plain.ensures.line)
