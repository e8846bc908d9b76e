use Rattle.std.proofs.Common.{◌≡◌, Some, length, ap, rules, arith}
use Rattle.roam_acts.specs.Kinds.{headed_in, kinds}
use Rattle.roam_acts.proofs.Tables.{head_fits}
use Rattle.roam_acts.proofs.lines.act_in.Goals as goal

pub split_at-requires : goal.split_at-requires
split_at-requires c =
    let found : headed_in kinds c.args.line.now ≡ Some c.in_ok-kind.kind = search rules in
    omega (arith, head_fits c.args.line.now c.in_ok-kind.kind found, ap length c.entry.ensures.head)
