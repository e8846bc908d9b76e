use Rattle.std.proofs.Common.{sym, ap, ◌∙◌, arith}
use Rattle.roam_term.specs.Leaving.{left_by_put}
use Rattle.roam_term.specs.Terminal.{on_main, with_rows}
use Rattle.roam_term.proofs.Scrollback.{bytes_alone}
use Rattle.roam_term.proofs.printing.put_front.Goals as goal

pub returns-clause-history : goal.returns-clause-history
returns-clause-history c =
    let a = c.args in
    let n = c.min-count.result in
    let s = a.grid.now.screen in
    c.leave_by_put.ensures.history
    ∙ ap (λ g. with_rows (on_main a.alternate (left_by_put g a.writing s)) a.history.now) c.set_ascii.ensures.cell
    ∙ sym (ap (λ rows. with_rows (on_main a.alternate rows) a.history.now)
    (bytes_alone a.pen a.bytes.now n a.writing s c.requires.printable (omega (arith, c.min-count.ensures, c.requires.some, c.columns_left.ensures.some)) (omega (arith, c.min-count.ensures))
    (omega (arith, c.min-count.ensures, c.columns_left.ensures.left))))
