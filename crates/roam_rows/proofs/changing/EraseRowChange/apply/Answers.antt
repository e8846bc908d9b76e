use Rattle.std.proofs.Common.{length}
use Rattle.roam_rows.specs.Erasing.{erasure_source}
use Rattle.roam_rows.proofs.Edits.{blank_past, blanked_after}
use Rattle.roam_rows.proofs.changing.EraseRowChange.apply.Goals as goal

pub returns-clause-rest : goal.returns-clause-rest
returns-clause-rest c =
    let erase = c.args.self in
    blank_past c.args.row.now (erasure_source erase.from erase.to) c.args.len c.length_after.result c.requires.rest
    (λ j p q. blanked_after (length c.args.row.now) c.args.len erase.from erase.to j q (c.length_after.ensures.rest j p))
    _ c.erase.ensures.after
