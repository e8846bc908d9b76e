use Rattle.std.proofs.Common.{◌∙◌, ap}
use Rattle.roam_rows.specs.Rows.{Rows, mapped_rows}
use Rattle.roam_rows.specs.Erasing.{rows_blanked}
use Rattle.roam_grid.specs.Frames.{all_blank}
use Rattle.roam_grid.specs.Kept.{screen_of}
use Rattle.roam_grid.proofs.Pages.{rows_all_blank}
use Rattle.roam_grid.proofs.grids.Grid.blank_all.Goals as goal

pub returns-clause-screen : goal.returns-clause-screen
unfolding all_blank
returns-clause-screen c =
    let f = c.self.inside in
    rw (← c.self.view_is)
    (ap (λ (v : Rows). screen_of (record f { ring = v }))
    (rows_all_blank f.ring c.blank_rows.new.self (c.blank_rows.ensures.ring ∙ ap (λ k. mapped_rows (rows_blanked 0 k) f.ring) c.rows-rows.ensures.rows)))
