use Rattle.std.proofs.Common.{◌∙◌, false, ap}
use Rattle.roam_rows.specs.Rows.{Rows}
use Rattle.roam_grid.specs.Erasing.{erased_selectively_in_page, line_to, page_to}
use Rattle.roam_grid.specs.Kept.{screen_of}
use Rattle.roam_grid.proofs.Guards.{page_erased_selectively}
use Rattle.roam_grid.proofs.grids.Grid.erase_selectively_in_page.Goals as goal

pub returns-clause-screen : goal.returns-clause-screen
unfolding erased_selectively_in_page
returns-clause-screen c =
    let f = c.self.inside in
    let e = c.args.extent in
    let line = c.columns-left in
    let page = c.other_rows-top in
    rw (← c.self.view_is)
    (ap (λ (v : Rows). screen_of (record f { ring = v; pending = false }))
    (page_erased_selectively e f.row f.col line.result.0 line.result.1 page.result.0 page.result.1 f.ring c.erase_unguarded.new.self c.blank_unguarded_rows.new.self
    c.facts.ensures.rows c.facts-2.ensures.rows c.self.invariant.row_in
    line.ensures.from (line.ensures.to ∙ ap (λ k. line_to e k f.col) c.cols-cols.ensures.cols) page.ensures.from (page.ensures.to ∙ ap (λ k. page_to e k f.row) c.rows-rows.ensures.rows)
    c.erase_unguarded.ensures.ring c.blank_unguarded_rows.ensures.ring))
