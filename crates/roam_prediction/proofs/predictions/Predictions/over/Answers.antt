use Rattle.std.proofs.Common.{◌≡◌, ap, sym, ◌∙◌, rules}
use Rattle.roam_screens.specs.Screenshot.{Screenshot}
use Rattle.roam_prediction.specs.Overlay.{cursor_line, with_predictions}
use Rattle.roam_prediction.proofs.Whole.{over_row}
use Rattle.roam_prediction.proofs.predictions.Predictions.over.Goals as goal

pub set_row-requires-clause-count : goal.set_row-requires-clause-count
set_row-requires-clause-count c =
    let line : c.row.result.now ≡ cursor_line c.args.shown.now = search rules in
    let cells : c.deref-2.result.now ≡ with_predictions c.row.result.now c.self.inside.list.items = search rules in
    let same : c.in_ok-over.over ≡ c.args.shown.now = search rules in
    (over_row c.args.shown.now c.self.inside.list.items c.deref-2.result.now c.row.result.now c.facts.ensures.screenshot
    c.self.invariant.predictions cells line).long
    ∙ ap (λ (s : Screenshot). s.cols) (sym same)

pub set_row-requires-clause-whole : goal.set_row-requires-clause-whole
set_row-requires-clause-whole c =
    let line : c.row.result.now ≡ cursor_line c.args.shown.now = search rules in
    let cells : c.deref-2.result.now ≡ with_predictions c.row.result.now c.self.inside.list.items = search rules in
    (over_row c.args.shown.now c.self.inside.list.items c.deref-2.result.now c.row.result.now c.facts.ensures.screenshot
    c.self.invariant.predictions cells line).whole

pub set_row-requires-clause-unguarded : goal.set_row-requires-clause-unguarded
set_row-requires-clause-unguarded c =
    let line : c.row.result.now ≡ cursor_line c.args.shown.now = search rules in
    let cells : c.deref-2.result.now ≡ with_predictions c.row.result.now c.self.inside.list.items = search rules in
    (over_row c.args.shown.now c.self.inside.list.items c.deref-2.result.now c.row.result.now c.facts.ensures.screenshot
    c.self.invariant.predictions cells line).unguarded
