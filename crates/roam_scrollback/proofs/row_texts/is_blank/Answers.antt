use Rattle.std.proofs.Common.{ap, ◌∙◌}
use Rattle.roam_cells.specs.Same.{same}
use Rattle.roam_cells.proofs.SameCells.{tells, glyph_same, glyph_again}
use Rattle.roam_scrollback.proofs.row_texts.is_blank.Goals as goal

pub returns : goal.returns
returns c =
    let x = c.args.cell.now in
    record {
      blank = tells same glyph_same glyph_again c.is_same.result x c.blank.result c.is_same.ensures.same ∙ ap (same x) c.blank.ensures.cell;
    }
