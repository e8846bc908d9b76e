use Rattle.roam_viewport.specs.Parts.{part_at}
use Rattle.roam_screens.proofs.Narrowed.{IsMore, line_none, line_more}
use Rattle.roam_viewport.proofs.parts.View.lines.Goals as goal

pub loop-row-init : goal.loop-row-init
loop-row-init c =
    let none = line_none c.args.self.now.part.cols (part_at c.args.self.now.part c.args.self.now.masks.now c.args.self.now.shot.now) c.in_ok-lines.lines.items c.in_ok-lines.ensures.items in
    record { lines = none.lines; cells = none.cells }

pub loop-row-preserved : goal.loop-row-preserved
loop-row-preserved c =
    let cols = c.args.self.now.part.cols in
    let f = part_at c.args.self.now.part c.args.self.now.masks.now c.args.self.now.shot.now in
    let lines = c.loop-row.lines.items in
    let is : IsMore c.loop-row.row cols f lines = record { lines = c.loop-row.invariant.lines; cells = c.loop-row.invariant.cells } in
    let more = line_more c.loop-row.row cols f lines c.in_ok-line.line is c.in_ok-line.ensures.line in
    rw c.in_ok-push.ensures.items (record { lines = more.lines; cells = more.cells })
