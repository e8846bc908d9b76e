use Rattle.std.proofs.Common.{◌∙◌, sym, ap}
use Rattle.roam_grid.specs.Writing.{columns, after_advance}
use Rattle.roam_grid.proofs.MarkedRuns.{marks_inside}
use Rattle.roam_grid.proofs.Puts.{put_inside, first_inside}
use Rattle.roam_grid.proofs.grids.Grid.put_inside.Goals as goal

pub returns-clause-screen : goal.returns-clause-screen
returns-clause-screen c =
    let a = c.args in
    let q = c.requires in
    let s = a.self.now.screen in
    c.advance.ensures.screen ∙ ap (λ n. after_advance n a.writing c.ink.new.self.screen) c.columns_of.ensures.columns
    ∙ ap (after_advance (columns a.cell) a.writing) c.ink.ensures.screen ∙ sym (put_inside a.cell a.writing s q.over q.settled q.room)

pub returns-clause-first : goal.returns-clause-first
returns-clause-first c =
    let a = c.args in
    let q = c.requires in
    c.advance.ensures.first ∙ c.ink.ensures.first ∙ sym (first_inside a.cell a.writing a.self.now.screen a.self.now.first q.settled q.room)

pub returns-clause-marks : goal.returns-clause-marks
returns-clause-marks c =
    let a = c.args in
    let q = c.requires in
    c.advance.ensures.marks ∙ c.ink.ensures.marks
    ∙ sym (marks_inside a.cell a.writing a.self.now.screen a.self.now.marks q.settled q.room c.facts.ensures.screen.frame.size.least_columns)
