use Rattle.std.proofs.Common.{◌≡◌, ◌++◌, ◌+◌, ◌-◌, ◌∷◌, [], length, length-drop, drop, refl, sym, ap, ◌∙◌, arith}
use Rattle.roam_rewrap.specs.Wrapping.{fitting, rows_of_line, rows_within}
use Rattle.roam_rewrap.proofs.Cutting.{cut, last_of, cuts, ends, after-is}
use Rattle.roam_rewrap.proofs.wrapping.push_line.Goals as goal

pub loop-at-init : goal.loop-at-init
unfolding rows_of_line
loop-at-init c = record { within = omega arith; fuel = length c.args.line.now; enough = omega arith; rows = refl }

pub loop-at-preserved : goal.loop-at-preserved
loop-at-preserved c =
    let i = c.loop-at.invariant in
    let f = c.fitting-count.ensures in
    let long = c.loop-at-test.true in
    let few = f.few in
    let at = c.loop-at.at in
    let n = c.fitting-count.result in
    let line = c.args.line.now in
    let size : at + n - at ≡ n = omega arith in
    let next = cuts i.fuel c.args.cols at n line c.loop-at.rows.items _ long i.enough f.some
    (f.fitting ∙ ap (fitting c.args.cols) (after-is at line)) i.rows in
    record {
      within = omega (arith, long, few);
      fuel = next.less;
      enough = next.enough;
      rows =
          ap (λ l. l ++ rows_within next.less c.args.cols (drop (at + n) line))
          (c.in_ok-push_row.ensures.row ∙ ap (λ m. c.loop-at.rows.items ++ cut m (drop at line) ∷ []) size)
          ∙ next.rows_are;
    }

pub returns : goal.returns
returns c =
    let i = c.loop-at.invariant in
    let short = c.loop-at-test.false in
    let at = c.loop-at.at in
    let line = c.args.line.now in
    record {
      rows =
          c.in_ok-push_row-2.ensures.row
          ∙ ap (λ l. c.loop-at.rows.items ++ last_of l ∷ []) (after-is at line)
          ∙ ap (λ l. c.loop-at.rows.items ++ l) (sym (ends i.fuel c.args.cols (drop at line) (omega (arith, short, length-drop at line))))
          ∙ i.rows;
    }
