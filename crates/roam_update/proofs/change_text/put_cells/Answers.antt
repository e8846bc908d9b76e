use Rattle.std.proofs.Common.{◌≡◌, ◌+◌, ◌*◌, get_or, Some, sym, ap, ◌∙◌, arith, length-set}
use Rattle.roam_update.specs.CellText.{glyph_read, cell_size}
use Rattle.roam_update.proofs.Putting.{cells_put_go}
use Rattle.roam_update.proofs.change_text.put_cells.Goals as goal

pub loop-k-preserved : goal.loop-k-preserved
loop-k-preserved c =
    let text = c.loop-k.rest.now in
    let e : glyph_read c.loop-k.form text ≡ Some c.in-Some.cell = sym c.read_cell.ensures.cell ∙ c.in-Some.is in
    let size : c.head_size.result + 4 * get_or text 0 0 ≡ cell_size c.loop-k.form text = ap (λ n. n + 4 * get_or text 0 0) c.head_size.ensures.size in
    record {
      len = length-set _ _ _ ∙ c.loop-k.invariant.len;
      same =
          rw c.split_at.ensures.back
          (cells_put_go c.loop-k.form c.pass.new.self c.args.n c.loop-k.k c.args.first c.loop-k.cells text c.in-Some.cell
          (c.head_size.result + 4 * get_or text 0 0) (omega arith) e size c.pass.ensures.passed
          ∙ c.loop-k.invariant.same);
    }
