use Rattle.std.proofs.Common.{◌≡◌, ◌-◌, ◌<◌, ◌++◌, ℕ, List, drop, length, take, arith, ap, ◌∙◌}
use Rattle.roam_stored_rows.specs.Pages.{lines_of}
use Rattle.roam_stored_rows.specs.Rows.{StoredRow, line_of, row_of}
use Rattle.roam_stored_rows.specs.declared.wraps.Wrap.{Wrap}
use Rattle.roam_stored_rows.proofs.Sums.{kept-further, lines-more}
use Rattle.roam_stored_rows.proofs.reading.push_lines.Goals as goal

pub returns-in_err-push_line-clause-kept : goal.returns-in_err-push_line-clause-kept
returns-in_err-push_line-clause-kept c =
    kept-further c.args.out.now.items (lines_of (take (c.loop-next.next - c.args.at) (drop c.args.at c.args.rows.now))) c.loop-next.out.items
    c.push_line.new.out.items c.loop-next.invariant c.push_line.ensures.kept

pub loop-next-preserved : goal.loop-next-preserved
loop-next-preserved c =
    let rows = c.args.rows.now in
    let at = c.args.at in
    let next = c.loop-next.next in
    let low : next < length rows = omega (arith, c.loop-next-test.true, c.requires.end) in
    let line = line_of (record { wrap = c.wrap_at.result; text = c.text_at.result.now }) in
    let line_is : line ≡ line_of (row_of rows next) =
    ap (λ (b : Wrap). let row : StoredRow = record { wrap = b; text = c.text_at.result.now } in line_of row) c.wrap_at.ensures.wrap
    ∙ ap (λ (l : List ℕ). let row : StoredRow = record { wrap = (row_of rows next).wrap; text = l } in line_of row) c.text_at.ensures.text in
    c.in_ok-push_line.ensures.line
    ∙ ap (λ (l : List ℕ). l ++ line) c.loop-next.invariant
    ∙ ap (λ (l : List ℕ). c.args.out.now.items ++ lines_of (take (next - at) (drop at rows)) ++ l) line_is
    ∙ lines-more rows at next c.args.out.now.items c.loop-next.auto.next low
