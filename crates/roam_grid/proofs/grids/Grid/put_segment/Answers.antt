use Rattle.std.proofs.Common.{◌≡◌, ◌∙◌, sym, ap, arith, length}
use Rattle.roam_cells.specs.Glyph.{inked_bytes}
use Rattle.roam_rows.specs.Writing.{written_run}
use Rattle.roam_rows.specs.Places.{in_row}
use Rattle.roam_grid.specs.Screen.{mapped_screen}
use Rattle.roam_grid.specs.Writing.{after_advance}
use Rattle.roam_rows.proofs.Inking.{bytes_narrow, length-bytes}
use Rattle.roam_grid.proofs.MarkedRuns.{marks_some}
use Rattle.roam_grid.proofs.Runs.{put_some_is}
use Rattle.roam_grid.proofs.grids.Grid.put_segment.Goals as goal

pub returns-clause-screen : goal.returns-clause-screen
returns-clause-screen c =
    let a = c.args in
    let q = c.requires in
    let s = a.self.now.screen in
    let gs = inked_bytes a.pen a.bytes.now in
    let e : length gs ≡ length a.bytes.now = length-bytes a.pen a.bytes.now in
    let f = c.facts.ensures.screen in
    c.advance.ensures.screen ∙ ap (after_advance (length a.bytes.now) a.writing) c.ink_run.ensures.screen ∙ sym (ap (λ n. after_advance n a.writing (mapped_screen (in_row s.row (written_run gs s.col)) s)) e)
    ∙ sym (put_some_is gs a.writing s a.self.now.first q.over (omega (arith, e, q.some)) (bytes_narrow a.pen a.bytes.now q.printable) q.settled (omega (arith, e, q.fits)) f.frame.row_in f.whole).0

pub returns-clause-first : goal.returns-clause-first
returns-clause-first c =
    let a = c.args in
    let q = c.requires in
    let s = a.self.now.screen in
    let gs = inked_bytes a.pen a.bytes.now in
    let e : length gs ≡ length a.bytes.now = length-bytes a.pen a.bytes.now in
    let f = c.facts.ensures.screen in
    c.advance.ensures.first ∙ c.ink_run.ensures.first
    ∙ sym (put_some_is gs a.writing s a.self.now.first q.over (omega (arith, e, q.some)) (bytes_narrow a.pen a.bytes.now q.printable) q.settled (omega (arith, e, q.fits)) f.frame.row_in f.whole).1

pub returns-clause-marks : goal.returns-clause-marks
returns-clause-marks c =
    let a = c.args in
    let q = c.requires in
    let s = a.self.now.screen in
    let gs = inked_bytes a.pen a.bytes.now in
    let e : length gs ≡ length a.bytes.now = length-bytes a.pen a.bytes.now in
    c.advance.ensures.marks ∙ c.ink_run.ensures.marks
    ∙ sym (marks_some gs a.writing s a.self.now.marks q.over (omega (arith, e, q.some)) (bytes_narrow a.pen a.bytes.now q.printable) q.settled (omega (arith, e, q.fits)))
