use Rattle.std.proofs.Common.{length}
use Rattle.roam_rows.specs.Erasing.{unguarded_blanked}
use Rattle.roam_rows.proofs.Edits.{blank_past}
use Rattle.roam_rows.proofs.Guards.{unguarded_past}
use Rattle.roam_rows.proofs.changing.EraseUnguardedRowChange.apply.Goals as goal

pub returns-clause-rest : goal.returns-clause-rest
returns-clause-rest c =
    let erase = c.args.self in
    let row = c.args.row.now in
    blank_past row (unguarded_blanked row erase.from erase.to) c.args.len c.args.len c.requires.rest
    (λ j p q. unguarded_past (length row) c.args.len erase.from erase.to j row p q)
    _ c.erase_unguarded.ensures.after
