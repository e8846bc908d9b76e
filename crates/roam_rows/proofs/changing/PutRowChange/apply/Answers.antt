use Rattle.std.proofs.Common.{arith, length, inl, inr, sym, ◌∙◌}
use Rattle.std.proofs.lemmas.Bool.{false≢true}
use Rattle.roam_cells.specs.Glyph.{is_wide}
use Rattle.roam_rows.specs.Writing.{writing_source}
use Rattle.roam_rows.proofs.Edits.{blank_past, flag, still_column, written_past}
use Rattle.roam_rows.proofs.changing.PutRowChange.apply.Goals as goal

pub returns-clause-rest : goal.returns-clause-rest
returns-clause-rest c =
    let put = c.args.self in
    let one = writing_source put.cell put.col in
    let end = c.end_of-end.ensures in
    blank_past c.args.row.now one c.args.len c.max.result c.requires.rest (λ j p q.
    still_column (length c.args.row.now) c.args.len j one (elim (flag (is_wide put.cell)) [
      | inl wide ↦ written_past put.cell put.col j (omega (arith, end.wide wide, c.max.ensures)) (λ h. omega (arith, end.wide wide, c.max.ensures))
      | inr narrow ↦ written_past put.cell put.col j (omega (arith, end.narrow narrow, c.max.ensures)) (λ h. absurd (false≢true (sym narrow ∙ h)))
    ]) (omega (arith, c.max.ensures)) q)
    _ c.write.ensures.after
