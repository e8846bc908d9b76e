use Rattle.std.proofs.Common.{◌≡◌, ◌∙◌, ap}
use Rattle.roam_grid.specs.Screen.{Screen}
use Rattle.roam_grid.specs.Marks.{row_marked, marks_with_room, marks_put}
use Rattle.roam_grid.specs.Writing.{columns, wrap_done, with_room, first_with_room, first_put}
use Rattle.roam_grid.proofs.MarkedRuns.{made_row}
use Rattle.roam_grid.proofs.Puts.{first_steps}
use Rattle.roam_grid.proofs.grids.Grid.put.Goals as goal

pub returns-clause-first : goal.returns-clause-first
unfolding first_put
returns-clause-first c =
    let a = c.args in
    let s = a.self.now.screen in
    let n = columns a.cell in
    c.advance.ensures.first ∙ c.ink.ensures.first ∙ c.make_way.ensures.first ∙ c.make_room.ensures.first
    ∙ ap (λ t. first_with_room n a.writing t c.settle.new.self.first) c.settle.ensures.screen
    ∙ ap (first_with_room n a.writing (wrap_done s)) c.settle.ensures.first
    ∙ first_steps n a.writing s a.self.now.first c.facts.ensures.screen.frame.size.least_columns

pub returns-clause-marks : goal.returns-clause-marks
unfolding marks_put
returns-clause-marks c =
    let a = c.args in
    let s = a.self.now.screen in
    let n = columns a.cell in
    let w = a.writing in
    let room : c.make_room.new.self.screen ≡ with_room n w (wrap_done s) = c.make_room.ensures.screen ∙ ap (with_room n w) c.settle.ensures.screen in
    let row : c.make_way.new.self.screen.row ≡ (with_room n w (wrap_done s)).row =
    ap (λ (t : Screen). t.row) c.make_way.ensures.screen ∙ made_row c.if-is_wide.columns w c.make_room.new.self.screen ∙ ap (λ (t : Screen). t.row) room in
    c.advance.ensures.marks ∙ c.ink.ensures.marks
    ∙ ap (λ r. row_marked r c.make_way.new.self.marks) row
    ∙ ap (row_marked (with_room n w (wrap_done s)).row)
    (c.make_way.ensures.marks ∙ c.make_room.ensures.marks ∙ ap (λ t. marks_with_room n w t c.settle.new.self.marks) c.settle.ensures.screen
    ∙ ap (marks_with_room n w (wrap_done s)) c.settle.ensures.marks)
