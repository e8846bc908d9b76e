use Rattle.std.proofs.Common.{◌∙◌, ◌<◌, ap, arith, length}
use Rattle.roam_cells.specs.Glyph.{inked_bytes}
use Rattle.roam_grid.specs.Marks.{marks_put_all}
use Rattle.roam_grid.specs.Writing.{wrap_done, put_all, first_put_all}
use Rattle.roam_rows.proofs.Inking.{length-bytes}
use Rattle.roam_grid.proofs.MarkedRuns.{marks_put_all_settled}
use Rattle.roam_grid.proofs.Runs.{put_all_settled, first_put_all_settled}
use Rattle.roam_grid.proofs.grids.Grid.put_settled.Goals as goal

pub returns-clause-screen : goal.returns-clause-screen
returns-clause-screen c =
    let a = c.args in
    let gs = inked_bytes a.pen a.bytes.now in
    let some : 0 < length gs = omega (arith, length-bytes a.pen a.bytes.now, c.requires.some) in
    c.put_segment.ensures.screen ∙ ap (put_all gs a.writing) c.settle.ensures.screen ∙ put_all_settled gs a.writing a.self.now.screen some

pub returns-clause-first : goal.returns-clause-first
returns-clause-first c =
    let a = c.args in
    let s = a.self.now.screen in
    let gs = inked_bytes a.pen a.bytes.now in
    let some : 0 < length gs = omega (arith, length-bytes a.pen a.bytes.now, c.requires.some) in
    c.put_segment.ensures.first ∙ ap (λ t. first_put_all gs a.writing t c.settle.new.self.first) c.settle.ensures.screen
    ∙ ap (first_put_all gs a.writing (wrap_done s)) c.settle.ensures.first
    ∙ first_put_all_settled gs a.writing s a.self.now.first some c.facts.ensures.screen.frame.size.least_columns

pub returns-clause-marks : goal.returns-clause-marks
returns-clause-marks c =
    let a = c.args in
    let s = a.self.now.screen in
    let gs = inked_bytes a.pen a.bytes.now in
    let some : 0 < length gs = omega (arith, length-bytes a.pen a.bytes.now, c.requires.some) in
    c.put_segment.ensures.marks ∙ ap (λ t. marks_put_all gs a.writing t c.settle.new.self.marks) c.settle.ensures.screen
    ∙ ap (marks_put_all gs a.writing (wrap_done s)) c.settle.ensures.marks
    ∙ marks_put_all_settled gs a.writing s a.self.now.marks some
