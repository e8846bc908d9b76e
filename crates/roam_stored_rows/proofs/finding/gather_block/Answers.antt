use Rattle.std.proofs.Common.{arith, ◌<◌, length}
use Rattle.roam_stored_rows.proofs.Blocks.{pushed-row}
use Rattle.roam_stored_rows.proofs.finding.gather_block.Goals as goal

pub loop-next-preserved : goal.loop-next-preserved
loop-next-preserved c =
    let low : c.loop-next.next < length c.args.rows.now = omega (arith, c.loop-next-test.true, c.requires.end) in
    pushed-row c.args.folded c.args.rows.now c.args.low c.loop-next.next c.loop-next.buffers.line.items c.text_at.result.now
    c.push_row.new.buffers.line.items c.loop-next.auto.next low c.loop-next.invariant c.text_at.ensures.text c.in_ok-push_row.ensures.line
