use Rattle.std.proofs.Common.{◌≡◌, suc, ◌+◌, sym, subst, arith}
use Rattle.roam_term.specs.Leaving.{top_rows}
use Rattle.roam_scrollback.specs.Lines.{rows_with, Writes}
use Rattle.roam_scrollback.proofs.Tops.{top-more}
use Rattle.roam_scrollback.proofs.Writing.{writes-none, writes-then}
use Rattle.roam_scrollback.proofs.surfaces.push_top.Goals as goal

pub loop-row-init : goal.loop-row-init
loop-row-init c = record { within = omega arith; written = writes-none c.args.lines.now c.facts-2.ensures.lost }

pub loop-row-preserved : goal.loop-row-preserved
loop-row-preserved c =
    let row = c.loop-row.row in
    let s = c.args.grid.now.screen in
    let one : row + 1 ≡ suc row = omega arith in
    record {
      within = omega (arith, c.loop-row-test.true);
      written =
          subst (λ l. Writes c.args.lines.now c.push_row.new.lines l) (sym (top-more row (row + 1) s c.args.wraps.now one))
          (writes-then c.args.lines.now c.loop-row.lines c.push_row.new.lines (rows_with (top_rows row s) c.args.wraps.now) _
          c.loop-row.invariant.written c.push_row.ensures.written);
    }
