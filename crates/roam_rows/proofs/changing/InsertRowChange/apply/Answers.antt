use Rattle.std.proofs.Common.{◌+◌, length, ltb, refl}
use Rattle.roam_rows.specs.Editing.{insertion_source}
use Rattle.roam_rows.proofs.Edits.{blank_past}
use Rattle.roam_rows.proofs.Shifts.{inserted_past}
use Rattle.roam_rows.proofs.changing.InsertRowChange.apply.Goals as goal

pub returns-clause-rest : goal.returns-clause-rest
returns-clause-rest c =
    let insert = c.args.self in
    let cols = length c.args.row.now in
    let by = c.length_inserted.ensures in
    blank_past c.args.row.now (insertion_source insert.col insert.n) c.args.len c.length_inserted.result c.requires.rest
    (λ j p q. inserted_past cols c.args.len insert.col insert.n c.length_inserted.result j c.requires.len_in by.left by.right p q
    (ltb j insert.col) (ltb j (insert.col + insert.n)) refl refl)
    _ c.insert.ensures.after
