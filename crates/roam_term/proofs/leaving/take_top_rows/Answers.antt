use Rattle.std.proofs.Common.{◌≡◌, ◌+◌, suc, sym, ap, ◌∙◌, subst, arith}
use Rattle.roam_cells.specs.Place.{IsWholeRow}
use Rattle.roam_history.specs.Histories.{Scrollback, after_push}
use Rattle.roam_history.specs.Lines.{with_blanks}
use Rattle.roam_term.specs.Leaving.{top_rows}
use Rattle.roam_term.specs.Terminal.{with_rows}
use Rattle.roam_term.proofs.Scrollback.{with_pushed}
use Rattle.roam_term.proofs.Views.{front_whole}
use Rattle.roam_term.proofs.leaving.take_top_rows.Goals as goal

pub push_front-requires-clause-whole : goal.push_front-requires-clause-whole
push_front-requires-clause-whole c =
    let s = c.args.grid.now.screen in
    let cols : c.loop-i.history.cols ≡ s.cols = ap (λ (h : Scrollback). h.cols) c.loop-i.invariant ∙ c.requires.cols in
    subst (λ n. IsWholeRow (with_blanks n c.front_of_row.result.now)) (sym cols)
    (front_whole s.rows s.cols c.loop-i.i s.cells c.front_of_row.result.now c.facts.ensures.screen.whole (omega (arith, c.requires.few, c.loop-i-test.true)) c.front_of_row.ensures.few c.front_of_row.ensures.row)

pub loop-i-preserved : goal.loop-i-preserved
loop-i-preserved c =
    let s = c.args.grid.now.screen in
    let i = c.loop-i.i in
    let front = c.front_of_row.result.now in
    let cols : c.loop-i.history.cols ≡ s.cols = ap (λ (h : Scrollback). h.cols) c.loop-i.invariant ∙ c.requires.cols in
    let next : suc i ≡ i + 1 = omega arith in
    c.push_front.ensures.pushed
    ∙ ap (λ n. after_push (with_blanks n front) c.loop-i.history) cols
    ∙ ap (λ row. after_push row c.loop-i.history) (sym c.front_of_row.ensures.row)
    ∙ ap (after_push _) c.loop-i.invariant
    ∙ with_pushed (top_rows i s) _ c.args.history.now
    ∙ ap (λ n. with_rows (top_rows n s) c.args.history.now) next
