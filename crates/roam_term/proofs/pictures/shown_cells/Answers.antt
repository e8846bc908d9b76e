use Rattle.std.proofs.Common.{◌≡◌, ◌*◌, ◌++◌, List, take, take_all, ap, ◌∙◌, arith}
use Rattle.roam_cells.specs.Glyph.{Glyph}
use Rattle.roam_cells.specs.Place.{row_of}
use Rattle.roam_grid.specs.Screen.{Screen}
use Rattle.roam_term.specs.Picture.{picture_with}
use Rattle.roam_term.proofs.Views.{rows_more}
use Rattle.roam_term.proofs.Showing.{shown_size}
use Rattle.roam_term.proofs.pictures.shown_cells.Goals as goal

pub loop-row-preserved : goal.loop-row-preserved
loop-row-preserved c =
    let l = c.args.canvas.now.live in
    let all = (picture_with c.args.v l c.args.history.now).cells in
    let r = c.loop-row.row in
    c.in_ok-push_shown.ensures.row ∙ ap (λ (cells : List Glyph). cells ++ row_of l.screen.cols all r) c.loop-row.invariant ∙ rows_more l.screen.cols r all

pub returns : goal.returns
returns c =
    let l = c.args.canvas.now.live in
    let h = c.args.history.now in
    let all = (picture_with c.args.v l h).cells in
    let rows : c.rows-row-end.result ≡ l.screen.rows = c.rows-row-end.ensures.rows ∙ ap (λ (s : Screen). s.rows) c.grid-grid.ensures.screen in
    let done : c.loop-row.row ≡ l.screen.rows = omega (arith, rows, c.loop-row-test.false, c.loop-row.auto) in
    let size = shown_size c.args.v l h c.facts.ensures.screen c.facts-2.ensures.scrollback c.requires.cols in
    record {
      cells =
          c.loop-row.invariant ∙ ap (λ n. take (n * l.screen.cols) all) done
          ∙ take_all (l.screen.rows * l.screen.cols) all (omega (arith, size));
    }
