use Rattle.std.proofs.Common.{rules}
use Rattle.std.specs.Prelude.{IsTrue}
use Rattle.roam_history.proofs.Pushing.{kept_at_first}
use Rattle.roam_history.proofs.histories.History.new.Goals as goal

pub invariant_of-result : goal.invariant_of-result
invariant_of-result c =
    let yes : IsTrue c.is_history_size.result = search rules in
    kept_at_first c.in_ok-ring.ring c.args.lines c.args.cols (c.is_history_size.ensures.size.0 yes) c.in_ok-ring.ensures.ring
