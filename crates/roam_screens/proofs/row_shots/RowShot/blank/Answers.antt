use Rattle.std.proofs.Common.{◌∙◌, ap, replicate, rules}
use Rattle.std.specs.Prelude.{IsTrue}
use Rattle.roam_screens.specs.Screenshot.{blank_screenshot}
use Rattle.roam_screens.proofs.Screens.{blank_is_screenshot}
use Rattle.roam_screens.proofs.Lined.{blank_lines, blank_joined}
use Rattle.roam_screens.proofs.row_shots.RowShot.blank.Goals as goal

pub invariant_of-result : goal.invariant_of-result
invariant_of-result c =
    let yes : IsTrue c.is_size.result = search rules in
    let is = blank_is_screenshot c.args.rows c.args.cols (c.is_size.ensures.size.0 yes) in
    let all = c.in_ok-lines.ensures.lines ∙ ap (replicate c.args.rows) c.in_ok-line.ensures.line in
    record {
      lines = blank_lines c.args.cols c.args.rows c.in_ok-lines.lines.items all;
      screen = rw (blank_joined c.args.cols c.args.rows c.in_ok-lines.lines.items all) is;
    }

pub returns-clause-blank : goal.returns-clause-blank
returns-clause-blank c =
    let all = c.in_ok-lines.ensures.lines ∙ ap (replicate c.args.rows) c.in_ok-line.ensures.line in
    ap (λ cells. record (blank_screenshot c.args.rows c.args.cols) { cells = cells }) (blank_joined c.args.cols c.args.rows c.in_ok-lines.lines.items all)
