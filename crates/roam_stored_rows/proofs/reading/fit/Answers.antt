use Rattle.std.proofs.Common.{◌+◌, ◌-◌, ◌<◌, length, arith, ap, inl, inr}
use Rattle.roam_stored_rows.proofs.Sums.{bytes-more, bytes-part, stops}
use Rattle.roam_stored_rows.proofs.reading.fit.Goals.{else-most-bytes-via-then-most-bytes+else-at-next, else-most-bytes-via-else-most-bytes}
use Rattle.roam_stored_rows.proofs.reading.fit.Goals as goal

pub overflow_add-bytes-in-loop-next : goal.overflow_add-bytes-in-loop-next
overflow_add-bytes-in-loop-next c =
    let rows = c.args.rows.now in
    let at = c.args.at in
    let next = c.loop-next.next in
    let low : next < length rows = omega (arith, c.loop-next-test.true, c.requires.end) in
    let more = bytes-more rows at next c.loop-next.invariant.begun low in
    let text = ap length c.text_at.ensures.text in
    omega (arith, more, text, c.loop-next.invariant.bytes, bytes-part rows at (next + 1 - at), c.requires.fits)

pub returns-then-at-next : goal.returns-then-at-next
returns-then-at-next c =
    let text = ap length c.text_at.ensures.text in
    record {
      fit = stops c.args.rows.now c.args.at c.args.end c.loop-next.next c.loop-next.bytes c.args.most c.if-at-next.true c.loop-next-test.true
          c.requires.end c.loop-next.invariant.bytes c.loop-next.invariant.fits (omega (arith, text, c.if-most-bytes.true));
    }

pub loop-next-preserved : goal.loop-next-preserved
loop-next-preserved c =
    let rows = c.args.rows.now in
    let at = c.args.at in
    let next = c.loop-next.next in
    let low : next < length rows = omega (arith, c.loop-next-test.true, c.requires.end) in
    let more = bytes-more rows at next c.loop-next.invariant.begun low in
    let text = ap length c.text_at.ensures.text in
    record {
      begun = omega (arith, c.loop-next.invariant.begun);
      within = omega (arith, c.loop-next-test.true);
      bytes = omega (arith, more, text, c.loop-next.invariant.bytes);
      fits = elim c.else-most-bytes.branch [
        | else-most-bytes-via-then-most-bytes+else-at-next w ↦ inr (omega (arith, w.if-at-next.false, c.loop-next.invariant.begun))
        | else-most-bytes-via-else-most-bytes w ↦ inl w.if-most-bytes.false
      ];
    }
