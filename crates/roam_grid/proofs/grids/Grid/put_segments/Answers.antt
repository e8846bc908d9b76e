use Rattle.std.proofs.Common.{◌≡◌, ◌∙◌, ◌++◌, ◌+◌, ◌-◌, ◌<◌, ◌≤◌, ap, sym, arith, length, take, drop, List, ℕ}
use Rattle.roam_cells.specs.Glyph.{inked_bytes}
use Rattle.roam_grid.specs.Marks.{marks_put_all}
use Rattle.roam_grid.proofs.MarkedRuns.{marks_put_all-append, marks_put_all_settled}
use Rattle.roam_grid.specs.Writing.{wrap_done, put_all, first_put_all}
use Rattle.roam_rows.proofs.Inking.{length-bytes}
use Rattle.roam_grid.proofs.Runs.{put_all-append, first_put_all-append, put_all_settled, first_put_all_settled, bytes_split, bytes_some, bytes_none}
use Rattle.roam_grid.proofs.grids.Grid.put_segments.Goals as goal

pub loop-at-preserved : goal.loop-at-preserved
loop-at-preserved c =
    let a = c.args in
    let l = c.loop-at in
    let m = c.min-count.result in
    let at = l.at in
    let w = a.writing in
    let s = l.self.screen in
    let part : List ℕ = take (at + m - at) (drop at a.bytes.now) in
    let rest = inked_bytes a.pen (drop (at + m) a.bytes.now) in
    let now = inked_bytes a.pen part in
    let pos : 0 < m = omega (arith, c.room.ensures.some, c.min-count.ensures, c.loop-at-test.true) in
    let within : at + m ≤ length a.bytes.now = omega (arith, c.min-count.ensures, c.loop-at-test.true) in
    let split : inked_bytes a.pen (drop at a.bytes.now) ≡ now ++ rest = bytes_split a.pen a.bytes.now at m (at + m - at) (omega arith) in
    let some : 0 < length now = omega (arith, length-bytes a.pen part, bytes_some a.bytes.now at m (at + m - at) (omega arith) within) in
    let wide : 4 ≤ s.cols = c.facts.ensures.screen.frame.size.least_columns in
    let seg : c.put_segment.new.self.screen ≡ put_all now w s =
    c.put_segment.ensures.screen ∙ ap (put_all now w) c.settle.ensures.screen ∙ put_all_settled now w s some in
    let seg' : c.put_segment.new.self.first ≡ first_put_all now w s l.self.first =
    c.put_segment.ensures.first ∙ ap (λ t. first_put_all now w t c.settle.new.self.first) c.settle.ensures.screen
    ∙ ap (first_put_all now w (wrap_done s)) c.settle.ensures.first ∙ first_put_all_settled now w s l.self.first some wide in
    let marks : c.put_segment.new.self.marks ≡ marks_put_all now w s l.self.marks =
    c.put_segment.ensures.marks ∙ ap (λ t. marks_put_all now w t c.settle.new.self.marks) c.settle.ensures.screen
    ∙ ap (marks_put_all now w (wrap_done s)) c.settle.ensures.marks ∙ marks_put_all_settled now w s l.self.marks some in
    record {
      within = within;
      screen = ap (put_all rest w) seg ∙ sym (put_all-append now rest w s) ∙ sym (ap (λ xs. put_all xs w s) split) ∙ l.invariant.screen;
      first =
          ap (λ t. first_put_all rest w t c.put_segment.new.self.first) seg ∙ ap (first_put_all rest w (put_all now w s)) seg'
          ∙ sym (first_put_all-append now rest w s l.self.first) ∙ sym (ap (λ xs. first_put_all xs w s l.self.first) split) ∙ l.invariant.first;
      marks =
          ap (λ t. marks_put_all rest w t c.put_segment.new.self.marks) seg ∙ ap (marks_put_all rest w (put_all now w s)) marks
          ∙ sym (marks_put_all-append now rest w s l.self.marks) ∙ sym (ap (λ xs. marks_put_all xs w s l.self.marks) split) ∙ l.invariant.marks;
      size = record {
        rows = c.put_segment.ensures.size.rows ∙ c.settle.ensures.size.rows ∙ l.invariant.size.rows;
        cols = c.put_segment.ensures.size.cols ∙ c.settle.ensures.size.cols ∙ l.invariant.size.cols;
      };
    }

pub returns-clause-screen : goal.returns-clause-screen
unfolding put_all
returns-clause-screen c =
    let a = c.args in
    let l = c.loop-at in
    sym (ap (λ xs. put_all xs a.writing l.self.screen) (bytes_none a.pen a.bytes.now l.at (omega (arith, c.loop-at-test.false)))) ∙ l.invariant.screen

pub returns-clause-first : goal.returns-clause-first
unfolding first_put_all
returns-clause-first c =
    let a = c.args in
    let l = c.loop-at in
    sym (ap (λ xs. first_put_all xs a.writing l.self.screen l.self.first) (bytes_none a.pen a.bytes.now l.at (omega (arith, c.loop-at-test.false)))) ∙ l.invariant.first

pub returns-clause-size : goal.returns-clause-size
returns-clause-size c = c.loop-at.invariant.size

pub returns-clause-marks : goal.returns-clause-marks
unfolding marks_put_all
returns-clause-marks c =
    let a = c.args in
    let l = c.loop-at in
    sym (ap (λ xs. marks_put_all xs a.writing l.self.screen l.self.marks) (bytes_none a.pen a.bytes.now l.at (omega (arith, c.loop-at-test.false)))) ∙ l.invariant.marks
