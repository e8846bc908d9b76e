use Rattle.std.proofs.Common.{rules}
use Rattle.std.specs.Prelude.{IsTrue}
use Rattle.roam_screens.specs.Screenshot.{IsScreenshot, blank_screenshot}
use Rattle.roam_screens.proofs.Screens.{blank_is_screenshot}
use Rattle.roam_screens.proofs.shots.Shot.blank.Goals as goal

pub invariant_of-result : goal.invariant_of-result
invariant_of-result c =
    let yes : IsTrue c.is_size.result = search rules in
    let blank : IsScreenshot (blank_screenshot c.args.rows c.args.cols) = blank_is_screenshot c.args.rows c.args.cols (c.is_size.ensures.size.0 yes) in
    search (rules, blank)

pub returns-clause-blank : goal.returns-clause-blank
returns-clause-blank c = search rules
