use Rattle.std.proofs.Common.{arith, ap, ◌<◌, length}
use Rattle.roam_stored_rows.proofs.Blocks.{pushed-row}
use Rattle.roam_stored_rows.proofs.finding.row_at.Goals as goal

pub returns-then-place-len : goal.returns-then-place-len
returns-then-place-len c =
    let low : c.loop-at.at < length c.args.rows.now = omega (arith, c.loop-at-test.true, c.requires.end) in
    let line = pushed-row c.args.folded c.args.rows.now c.args.low c.loop-at.at c.loop-at.buffers.line.items c.text_at.result.now
    c.push_row.new.buffers.line.items c.loop-at.auto.at low c.loop-at.invariant.line c.text_at.ensures.text c.in_ok-push_row.ensures.line in
    let size = ap length line in
    record {
      row = record {
        begun = c.loop-at.auto.at;
        within = c.loop-at-test.true;
        start = c.loop-at.invariant.start;
        end = omega (arith, c.if-place-len.true, c.len.ensures, c.push_row.new.buffers.line.ok.0, size);
      };
    }

pub loop-at-preserved : goal.loop-at-preserved
loop-at-preserved c =
    let low : c.loop-at.at < length c.args.rows.now = omega (arith, c.loop-at-test.true, c.requires.end) in
    let line = pushed-row c.args.folded c.args.rows.now c.args.low c.loop-at.at c.loop-at.buffers.line.items c.text_at.result.now
    c.push_row.new.buffers.line.items c.loop-at.auto.at low c.loop-at.invariant.line c.text_at.ensures.text c.in_ok-push_row.ensures.line in
    let size = ap length line in
    record { line = line; start = omega (arith, c.if-place-len.false, c.len.ensures, c.push_row.new.buffers.line.ok.0, size) }
