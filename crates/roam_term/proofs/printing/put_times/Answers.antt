use Rattle.std.proofs.Common.{◌≡◌, ◌∙◌, ◌-◌, ◌+◌, replicate, sym, ap, arith}
use Rattle.roam_grid.specs.Marks.{marks_put_all}
use Rattle.roam_grid.specs.Writing.{put_on, put_all}
use Rattle.roam_history.specs.Histories.{Scrollback}
use Rattle.roam_term.specs.Leaving.{left_by_puts}
use Rattle.roam_term.specs.Terminal.{on_main, with_rows}
use Rattle.roam_term.proofs.Prints.{put_step, put_none, marks_step, marks_none}
use Rattle.roam_term.proofs.Scrollback.{left_step, main_stays}
use Rattle.roam_term.proofs.printing.put_times.Goals as goal

pub loop-preserved : goal.loop-preserved
loop-preserved c =
    let a = c.args in
    let l = c.loop in
    let m = a.n - (l.counter + 1) in
    record {
      screen =
          ap (put_all (replicate m a.cell) a.writing) c.put.ensures.screen
          ∙ sym (put_step a.cell a.writing l.grid.screen (a.n - l.counter) m (omega (arith, c.loop-test.true)))
          ∙ l.invariant.screen;
      marks =
          ap (λ s. marks_put_all (replicate m a.cell) a.writing s c.put.new.self.marks) c.put.ensures.screen
          ∙ ap (marks_put_all (replicate m a.cell) a.writing (put_on a.cell a.writing l.grid.screen)) c.put.ensures.marks
          ∙ sym (marks_step a.cell a.writing l.grid.screen l.grid.marks (a.n - l.counter) m (omega (arith, c.loop-test.true)))
          ∙ l.invariant.marks;
      history =
          ap (λ s. with_rows (on_main a.alternate (left_by_puts (replicate m a.cell) a.writing s)) c.leave_by_put.new.history) c.put.ensures.screen
          ∙ ap (with_rows (on_main a.alternate (left_by_puts (replicate m a.cell) a.writing (put_on a.cell a.writing l.grid.screen)))) c.leave_by_put.ensures.history
          ∙ left_step a.alternate a.cell a.writing l.grid.screen l.history (a.n - l.counter) m (omega (arith, c.loop-test.true))
          ∙ l.invariant.history;
      cols = ap (λ (h : Scrollback). h.cols) c.leave_by_put.ensures.history ∙ l.invariant.cols ∙ sym c.put.ensures.size.cols;
      size = record { rows = c.put.ensures.size.rows ∙ l.invariant.size.rows; cols = c.put.ensures.size.cols ∙ l.invariant.size.cols };
    }

pub returns : goal.returns
returns c =
    let a = c.args in
    let l = c.loop in
    let none : a.n - l.counter ≡ 0 = omega (arith, c.loop-test.false) in
    record {
      screen = sym (put_none a.cell a.writing l.grid.screen (a.n - l.counter) (omega (arith, c.loop-test.false))) ∙ l.invariant.screen;
      marks =
          sym (marks_none a.cell a.writing l.grid.screen l.grid.marks (a.n - l.counter) (omega (arith, c.loop-test.false))) ∙ l.invariant.marks;
      history =
          sym
          (ap (λ k. with_rows (on_main a.alternate (left_by_puts (replicate k a.cell) a.writing l.grid.screen)) l.history) none
          ∙ main_stays a.alternate l.history c.stays.ensures.stays)
          ∙ l.invariant.history;
      size = l.invariant.size;
    }
