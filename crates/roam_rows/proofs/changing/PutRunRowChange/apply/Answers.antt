use Rattle.std.proofs.Common.{arith, length}
use Rattle.roam_cells.specs.Glyph.{inked_bytes}
use Rattle.roam_rows.specs.Writing.{written_run}
use Rattle.roam_rows.proofs.Inking.{length-bytes}
use Rattle.roam_rows.proofs.Edits.{blank_past, run_past, still_column}
use Rattle.roam_rows.proofs.changing.PutRunRowChange.apply.Goals as goal

pub returns-clause-rest : goal.returns-clause-rest
returns-clause-rest c =
    let run = c.args.self in
    let glyphs = inked_bytes run.pen run.bytes.now in
    let one = written_run glyphs run.col in
    let size = length-bytes run.pen run.bytes.now in
    blank_past c.args.row.now one c.args.len c.max.result c.requires.rest (λ j p q.
    still_column (length c.args.row.now) c.args.len j one (run_past glyphs run.col j (omega (arith, size, c.max.ensures))) (omega (arith, c.max.ensures)) q)
    _ c.write_run.ensures.after
