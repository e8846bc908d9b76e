use Rattle.std.proofs.Common.{◌≡◌, ◌++◌}
use Rattle.roam_pane_protocol.specs.Closes.{close_head}
use Rattle.roam_pane_protocol.proofs.ReadAgain.{behind_head, line_found, line_only}
use Rattle.roam_pane_protocol.proofs.closes.read_close.Goals as goal

pub returns-clause-found : goal.returns-clause-found
returns-clause-found c =
    let rest = c.in_ok-strip_prefix.field-0 in
    let cut : c.args.line.now ≡ close_head ++ rest.now = behind_head c.args.line.now c.as_slice.result.now rest c.as_slice.ensures
    c.in_ok-strip_prefix.ensures.cases in
    line_found c.args.line.now rest.now c.close_behind.result cut c.close_behind.ensures.close

pub returns-clause-only : goal.returns-clause-only
returns-clause-only c =
    let rest = c.in_ok-strip_prefix.field-0 in
    let cut : c.args.line.now ≡ close_head ++ rest.now = behind_head c.args.line.now c.as_slice.result.now rest c.as_slice.ensures
    c.in_ok-strip_prefix.ensures.cases in
    line_only c.args.line.now rest.now c.close_behind.result cut c.close_behind.ensures.close
