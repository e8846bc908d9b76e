use Rattle.std.proofs.Common.{◌*◌, arith, ◌∙◌, ap, refl}
use Rattle.roam_screens.proofs.Lined.{all_rows}
use Rattle.roam_display_state.proofs.painting.has_same_rows.Goals as goal

pub returns : goal.returns
returns c =
    let before = c.args.before.now in
    let view = c.args.view.now in
    let end = c.loop-row-test.false in
    let rows = c.rows-row-end.ensures.rows in
    record {
      same = (
        λ yes.
            all_rows view.rows view.cols before.cells view.cells
            (c.facts.ensures.screenshot.count ∙ ap (λ n. n * before.cols) c.requires.rows ∙ ap (λ n. view.rows * n) c.requires.cols)
            c.facts-2.ensures.screenshot.count (λ k h. c.loop-row.invariant k (omega (arith, end, rows, h))),
        λ is. refl,
      );
    }
