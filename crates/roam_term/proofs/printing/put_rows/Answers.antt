use Rattle.std.proofs.Common.{◌≡◌, ◌∙◌, ◌++◌, ◌+◌, ◌-◌, ap, sym, arith, length, take, drop}
use Rattle.roam_cells.specs.Glyph.{inked_bytes}
use Rattle.roam_grid.specs.Marks.{marks_put_all}
use Rattle.roam_grid.specs.Writing.{put_all}
use Rattle.roam_grid.proofs.MarkedRuns.{marks_put_all-append}
use Rattle.roam_grid.proofs.Runs.{put_all-append, bytes_split, bytes_none}
use Rattle.roam_history.specs.Histories.{Scrollback}
use Rattle.roam_term.specs.Leaving.{left_by_puts}
use Rattle.roam_term.specs.Terminal.{on_main, with_rows}
use Rattle.roam_term.proofs.Lists.{all-after}
use Rattle.roam_term.proofs.Scrollback.{left_run, main_stays}
use Rattle.roam_term.proofs.printing.put_rows.Goals as goal

pub loop-at-preserved : goal.loop-at-preserved
loop-at-preserved c =
    let a = c.args in
    let l = c.loop-at in
    let n = c.put_front-count.result in
    let w = a.writing in
    let s = l.grid.screen in
    let part = take (length a.bytes.now - l.at) (drop l.at a.bytes.now) in
    let here : part ≡ drop l.at a.bytes.now = all-after l.at a.bytes.now in
    let now = inked_bytes a.pen (take n (drop l.at a.bytes.now)) in
    let rest = inked_bytes a.pen (drop (l.at + n) a.bytes.now) in
    let split : inked_bytes a.pen (drop l.at a.bytes.now) ≡ now ++ rest = bytes_split a.pen a.bytes.now l.at n n (omega arith) in
    let screen : c.put_front-count.new.grid.screen ≡ put_all now w s =
    c.put_front-count.ensures.screen ∙ ap (λ bs. put_all (inked_bytes a.pen (take n bs)) w s) here in
    let marks : c.put_front-count.new.grid.marks ≡ marks_put_all now w s l.grid.marks =
    c.put_front-count.ensures.marks ∙ ap (λ bs. marks_put_all (inked_bytes a.pen (take n bs)) w s l.grid.marks) here in
    let history : c.put_front-count.new.history ≡ with_rows (on_main a.alternate (left_by_puts now w s)) l.history =
    c.put_front-count.ensures.history ∙ ap (λ bs. with_rows (on_main a.alternate (left_by_puts (inked_bytes a.pen (take n bs)) w s)) l.history) here in
    record {
      within = omega (arith, c.put_front-count.ensures.within, ap length here);
      screen = ap (put_all rest w) screen ∙ sym (put_all-append now rest w s) ∙ sym (ap (λ xs. put_all xs w s) split) ∙ l.invariant.screen;
      marks =
          ap (λ t. marks_put_all rest w t c.put_front-count.new.grid.marks) screen ∙ ap (marks_put_all rest w (put_all now w s)) marks
          ∙ sym (marks_put_all-append now rest w s l.grid.marks) ∙ sym (ap (λ xs. marks_put_all xs w s l.grid.marks) split) ∙ l.invariant.marks;
      history =
          ap (λ t. with_rows (on_main a.alternate (left_by_puts rest w t)) c.put_front-count.new.history) screen
          ∙ ap (with_rows (on_main a.alternate (left_by_puts rest w (put_all now w s)))) history
          ∙ left_run a.alternate now rest w s l.history
          ∙ sym (ap (λ xs. with_rows (on_main a.alternate (left_by_puts xs w s)) l.history) split)
          ∙ l.invariant.history;
      cols = ap (λ (h : Scrollback). h.cols) history ∙ l.invariant.cols ∙ sym c.put_front-count.ensures.size.cols;
      size = record {
        rows = c.put_front-count.ensures.size.rows ∙ l.invariant.size.rows;
        cols = c.put_front-count.ensures.size.cols ∙ l.invariant.size.cols;
      };
    }

pub returns : goal.returns
unfolding put_all marks_put_all
returns c =
    let a = c.args in
    let l = c.loop-at in
    let none = bytes_none a.pen a.bytes.now l.at (omega (arith, c.loop-at-test.false)) in
    record {
      screen = sym (ap (λ xs. put_all xs a.writing l.grid.screen) none) ∙ l.invariant.screen;
      marks = sym (ap (λ xs. marks_put_all xs a.writing l.grid.screen l.grid.marks) none) ∙ l.invariant.marks;
      history =
          sym
          (ap (λ xs. with_rows (on_main a.alternate (left_by_puts xs a.writing l.grid.screen)) l.history) none
          ∙ main_stays a.alternate l.history c.stays.ensures.stays)
          ∙ l.invariant.history;
      size = l.invariant.size;
    }
