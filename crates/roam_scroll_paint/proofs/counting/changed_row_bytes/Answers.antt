use Rattle.std.proofs.Common.{sym}
use Rattle.roam_paint.proofs.Loops.{quiet_style}
use Rattle.roam_paint.proofs.Places.{rows_quiet}
use Rattle.roam_scroll_paint.proofs.counting.changed_row_bytes.Goals as goal

pub returns-then-known-clause-style : goal.returns-then-known-clause-style
returns-then-known-clause-style g c =
    let old = g.O.Seen.screen c.args.old.now in
    let new = g.N.Seen.screen c.args.new.now in
    let same = c.requires.known c.if-known.true in
    sym (quiet_style old new c.args.row c.args.style (rows_quiet old new same.size c.args.row c.requires.row same.cells) new.cols)
