use Rattle.std.proofs.Common.{◌≡◌, ◌∙◌, ◌∷◌, ◌+◌, drop, get_or, sym, ap, arith}
use Rattle.std.proofs.lemmas.List.{drop_more}
use Rattle.roam_cells.specs.Glyph.{ascii_in, inked_bytes}
use Rattle.roam_grid.specs.Marks.{marks_put, marks_put_all}
use Rattle.roam_grid.specs.Writing.{put_on, first_put, put_all, first_put_all}
use Rattle.roam_grid.proofs.Runs.{bytes_none}
use Rattle.roam_grid.proofs.grids.Grid.put_each.Goals as goal

pub loop-i-preserved : goal.loop-i-preserved
unfolding put_all first_put_all marks_put_all
loop-i-preserved c =
    let a = c.args in
    let l = c.loop-i in
    let w = a.writing in
    let s = l.self.screen in
    let g = ascii_in (get_or a.bytes.now l.i 0) a.pen in
    let rest = inked_bytes a.pen (drop (l.i + 1) a.bytes.now) in
    let split : inked_bytes a.pen (drop l.i a.bytes.now) ≡ g ∷ rest = ap (inked_bytes a.pen) (drop_more a.bytes.now l.i 0 (omega (arith, c.loop-i-test.true))) in
    let put : c.put.new.self.screen ≡ put_on g w s = c.put.ensures.screen ∙ ap (λ x. put_on x w s) c.set_ascii.ensures.cell in
    let first : c.put.new.self.first ≡ first_put g w s l.self.first = c.put.ensures.first ∙ ap (λ x. first_put x w s l.self.first) c.set_ascii.ensures.cell in
    let marks : c.put.new.self.marks ≡ marks_put g w s l.self.marks = c.put.ensures.marks ∙ ap (λ x. marks_put x w s l.self.marks) c.set_ascii.ensures.cell in
    record {
      screen = ap (put_all rest w) put ∙ sym (ap (λ xs. put_all xs w s) split) ∙ l.invariant.screen;
      first =
          ap (λ t. first_put_all rest w t c.put.new.self.first) put ∙ ap (first_put_all rest w (put_on g w s)) first
          ∙ sym (ap (λ xs. first_put_all xs w s l.self.first) split) ∙ l.invariant.first;
      marks =
          ap (λ t. marks_put_all rest w t c.put.new.self.marks) put ∙ ap (marks_put_all rest w (put_on g w s)) marks
          ∙ sym (ap (λ xs. marks_put_all xs w s l.self.marks) split) ∙ l.invariant.marks;
      size = record { rows = c.put.ensures.size.rows ∙ l.invariant.size.rows; cols = c.put.ensures.size.cols ∙ l.invariant.size.cols };
    }

pub returns-clause-screen : goal.returns-clause-screen
unfolding put_all
returns-clause-screen c =
    let a = c.args in
    let l = c.loop-i in
    sym (ap (λ xs. put_all xs a.writing l.self.screen) (bytes_none a.pen a.bytes.now l.i (omega (arith, c.loop-i-test.false)))) ∙ l.invariant.screen

pub returns-clause-first : goal.returns-clause-first
unfolding first_put_all
returns-clause-first c =
    let a = c.args in
    let l = c.loop-i in
    sym (ap (λ xs. first_put_all xs a.writing l.self.screen l.self.first) (bytes_none a.pen a.bytes.now l.i (omega (arith, c.loop-i-test.false)))) ∙ l.invariant.first

pub returns-clause-size : goal.returns-clause-size
returns-clause-size c = c.loop-i.invariant.size

pub returns-clause-marks : goal.returns-clause-marks
unfolding marks_put_all
returns-clause-marks c =
    let a = c.args in
    let l = c.loop-i in
    sym (ap (λ xs. marks_put_all xs a.writing l.self.screen l.self.marks) (bytes_none a.pen a.bytes.now l.i (omega (arith, c.loop-i-test.false)))) ∙ l.invariant.marks
