use Rattle.roam_update.specs.Sizes.{sized_at}
use Rattle.roam_screens.proofs.Narrowed.{IsMore, line_none, line_more}
use Rattle.roam_update.proofs.drafts.sized_rows.Goals as goal

pub loop-row-init : goal.loop-row-init
loop-row-init c =
    let none = line_none c.args.cols (sized_at c.args.cols c.args.base.now) c.in_ok-made.made.items c.in_ok-made.ensures.items in
    record { lines = none.lines; cells = none.cells }

pub loop-row-preserved : goal.loop-row-preserved
loop-row-preserved c =
    let f = sized_at c.args.cols c.args.base.now in
    let lines = c.loop-row.made.items in
    let is : IsMore c.loop-row.row c.args.cols f lines = record { lines = c.loop-row.invariant.lines; cells = c.loop-row.invariant.cells } in
    let more = line_more c.loop-row.row c.args.cols f lines c.in_ok-line.line is c.in_ok-line.ensures.row in
    rw c.in_ok-push.ensures.items (record { lines = more.lines; cells = more.cells })
