use Rattle.std.proofs.Common.{◌+◌, length, ltb, refl}
use Rattle.roam_rows.specs.Editing.{deletion_source}
use Rattle.roam_rows.proofs.Edits.{blank_past}
use Rattle.roam_rows.proofs.Shifts.{deleted_past}
use Rattle.roam_rows.proofs.changing.DeleteRowChange.apply.Goals as goal

pub returns-clause-rest : goal.returns-clause-rest
returns-clause-rest c =
    let delete = c.args.self in
    let cols = length c.args.row.now in
    let by = c.length_deleted.ensures in
    blank_past c.args.row.now (deletion_source cols delete.col delete.n) c.args.len c.length_deleted.result c.requires.rest
    (λ j p q. deleted_past cols c.args.len delete.col delete.n c.length_deleted.result j by.left (λ d h i. by.right d h i) p q
    (ltb j delete.col) (ltb (j + delete.n) cols) refl refl)
    _ c.delete.ensures.after
