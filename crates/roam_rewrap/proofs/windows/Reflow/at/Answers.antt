use Rattle.std.proofs.Common.{ap, ◌∙◌}
use Rattle.roam_rewrap.specs.Windows.{leaving_rows, shown_cells, shown_rows}
use Rattle.roam_rewrap.proofs.Shots.{same_reflow}
use Rattle.roam_rewrap.proofs.windows.Reflow.at.Goals as goal

pub returns-clause-reflowed : goal.returns-clause-reflowed
returns-clause-reflowed c =
    let rows = c.args.rows in
    let cols = c.args.cols in
    let off = c.leaving-off.result in
    same_reflow c.args.all.items c.args.place rows cols c.args.visible off c.in_ok-cells.cells.items c.in-Some.shot c.is_behind-pending.result
    (c.leaving-off.ensures.leaving ∙ ap (leaving_rows rows c.args.place.row) c.deref.ensures.value)
    (c.in_ok-cells.ensures.cells ∙ ap (λ l. shown_cells rows cols (shown_rows rows off l)) c.deref-2.ensures.value)
    c.in-Some.ensures.shot
    c.is_behind-pending.ensures.behind
