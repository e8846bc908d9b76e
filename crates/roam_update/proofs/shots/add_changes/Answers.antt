use Rattle.std.proofs.Common.{rules}
use Rattle.std.specs.Prelude.{IsTrue}
use Rattle.roam_update.proofs.Sizing.{sized_at_same}
use Rattle.roam_update.proofs.shots.add_changes.Goals as goal

pub returns-then-is_same_size-clause-runs : goal.returns-then-is_same_size-clause-runs
returns-then-is_same_size-clause-runs g c =
    let base = g.B.Seen.screen c.args.base.now in
    let shot = g.S.Seen.screen c.args.shot.now in
    let yes : IsTrue c.is_same_size.result = search rules in
    let size = c.is_same_size.ensures.same.0 yes in
    rw (← sized_at_same shot.rows shot.cols base c.facts.ensures.screenshot size.rows size.cols) c.add_runs.ensures.runs

pub returns-then-is_same_size-clause-count : goal.returns-then-is_same_size-clause-count
returns-then-is_same_size-clause-count g c =
    let base = g.B.Seen.screen c.args.base.now in
    let shot = g.S.Seen.screen c.args.shot.now in
    let yes : IsTrue c.is_same_size.result = search rules in
    let size = c.is_same_size.ensures.same.0 yes in
    rw (← sized_at_same shot.rows shot.cols base c.facts.ensures.screenshot size.rows size.cols) c.add_runs.ensures.count

pub returns-then-is_same_size-clause-form : goal.returns-then-is_same_size-clause-form
returns-then-is_same_size-clause-form g c =
    let base = g.B.Seen.screen c.args.base.now in
    let shot = g.S.Seen.screen c.args.shot.now in
    let yes : IsTrue c.is_same_size.result = search rules in
    let size = c.is_same_size.ensures.same.0 yes in
    rw (← sized_at_same shot.rows shot.cols base c.facts.ensures.screenshot size.rows size.cols) c.add_runs.ensures.form
