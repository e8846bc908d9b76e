use Rattle.std.proofs.Common.{◌≡◌, ◌+◌, ◌<◌, arith, ap, length, sym, true, ◌∙◌, length-append}
use Rattle.roam_stored_rows.specs.Rows.{is_on, row_of}
use Rattle.roam_stored_rows.proofs.Blocks.{block-line, line-more}
use Rattle.roam_stored_rows.proofs.finding.gather.Goals as goal

pub loop-next-init : goal.loop-next-init
loop-next-init c =
    record {
      is = block-line c.args.sought.now.folded c.args.rows.now c.args.low c.args.high c.gather_block.new.buffers.line.items c.requires.place c.requires.end
          c.requires.on c.in_ok-gather_block.ensures.line;
      inside = omega (arith, c.requires.place, c.requires.end);
      size = omega (arith, c.len-size.ensures, c.gather_block.new.buffers.line.ok.0);
    }

pub loop-next-preserved : goal.loop-next-preserved
loop-next-preserved c =
    let rows = c.args.rows.now in
    let next = c.loop-next.next in
    let inside : next + 1 < length rows = omega (arith, c.loop-next-test.true, c.len-last.ensures.len, c.requires.place, c.requires.end) in
    let on : is_on (row_of rows next).wrap ≡ true = ap is_on (sym c.wrap_at.ensures.wrap) ∙ sym c.is_on.ensures.on ∙ c.if-not-is_on.false in
    let longer = ap length c.in_ok-push_row.ensures.line ∙ length-append c.loop-next.buffers.line.items _ in
    record {
      is = line-more c.args.sought.now.folded rows next _ c.loop-next.buffers.line.items c.text_at.result.now c.push_row.new.buffers.line.items inside
          c.loop-next.invariant.is on c.text_at.ensures.text c.in_ok-push_row.ensures.line;
      inside = inside;
      size = omega (arith, longer, c.loop-next.invariant.size);
    }
