use Rattle.std.proofs.Common.{◌≤◌, ◌+◌, length, refl, sym, ap, subst, ◌∙◌, arith}
use Rattle.roam_cells.specs.Glyph.{inked_bytes}
use Rattle.roam_grid.specs.Screen.{Screen}
use Rattle.roam_grid.proofs.Puts.{settled_same}
use Rattle.roam_rows.proofs.Inking.{bytes_narrow, length-bytes}
use Rattle.roam_term.specs.Terminal.{on_main, with_rows}
use Rattle.roam_term.proofs.Scrollback.{main_stays, none_by_puts}
use Rattle.roam_term.proofs.printing.put_run.Goals as goal

pub put_row_run-requires-clause-fits : goal.put_row_run-requires-clause-fits
put_row_run-requires-clause-fits c =
    let s = c.args.grid.now.screen in
    let fits = c.if-fits_row.ensures in
    subst (λ (t : Screen). t.col + length c.args.bytes.now ≤ t.cols) (sym (settled_same s (fits.settled refl))) (fits.room refl)

pub returns-then-fits_row-clause-history : goal.returns-then-fits_row-clause-history
returns-then-fits_row-clause-history c =
    let a = c.args in
    let s = a.grid.now.screen in
    let fits = c.if-fits_row.ensures in
    let room = fits.room refl in
    let gs = inked_bytes a.pen a.bytes.now in
    sym (main_stays a.alternate a.history.now c.stays.ensures.stays)
    ∙ sym (ap (λ rows. with_rows (on_main a.alternate rows) a.history.now)
    (none_by_puts gs a.writing s (bytes_narrow a.pen a.bytes.now c.requires.printable) (fits.settled refl) (omega (arith, room, length-bytes a.pen a.bytes.now))))
