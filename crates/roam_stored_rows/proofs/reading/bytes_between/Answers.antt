use Rattle.std.proofs.Common.{◌+◌, ◌-◌, ◌<◌, length, arith, ap}
use Rattle.roam_stored_rows.proofs.Sums.{bytes-more, bytes-part}
use Rattle.roam_stored_rows.proofs.reading.bytes_between.Goals as goal

pub overflow_add-bytes-in-loop-next : goal.overflow_add-bytes-in-loop-next
overflow_add-bytes-in-loop-next c =
    let rows = c.args.rows.now in
    let from = c.args.from in
    let next = c.loop-next.next in
    let low : next < length rows = omega (arith, c.loop-next-test.true, c.requires.end) in
    let more = bytes-more rows from next c.loop-next.auto.next low in
    let text = ap length c.text_at.ensures.text in
    omega (arith, more, text, c.loop-next.invariant, bytes-part rows from (next + 1 - from), c.requires.fits)

pub loop-next-preserved : goal.loop-next-preserved
loop-next-preserved c =
    let rows = c.args.rows.now in
    let from = c.args.from in
    let next = c.loop-next.next in
    let low : next < length rows = omega (arith, c.loop-next-test.true, c.requires.end) in
    let more = bytes-more rows from next c.loop-next.auto.next low in
    let text = ap length c.text_at.ensures.text in
    omega (arith, more, text, c.loop-next.invariant)
