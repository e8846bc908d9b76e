use Rattle.std.proofs.Common.{◌∙◌, ◌≡◌, ◌+◌, ◌-◌, ◌<◌, arith, refl, subst, ℕ}
use Rattle.roam_rows.specs.Vertical.{AreLowered}
use Rattle.roam_rows.proofs.Whole.{lowered_none}
use Rattle.roam_rows.proofs.Scrolls.{lowered_next, copied_cols}
use Rattle.roam_rows.proofs.rings.Ring.lower_rows.Goals as goal

pub loop-r-init : goal.loop-r-init
loop-r-init c = record { low = omega (arith, c.requires.on_rows); shape = record { rows = refl; cols = refl; first = refl }; lowered = lowered_none _ _ _ _ _ }

pub loop-r-preserved : goal.loop-r-preserved
loop-r-preserved c =
    let l = c.loop-r in
    let v = c.args.self.now in
    let n = c.args.n in
    let r = l.r - 1 in
    let s = l.invariant.shape in
    let one = c.copy_row.ensures.copied in
    let t = one.shape in
    let more : c.args.from < l.r = c.loop-r-test.true in
    let back : r + 1 ≡ l.r = omega arith in
    let by = copied_cols v.rows v.cols (r - n) r l.self c.copy_row.new.self s.rows s.cols one in
    let was : AreLowered v.rows v.cols (r + 1) c.args.to n v.cells l.self.cells = rw back l.invariant.lowered in
    record {
      low = omega arith;
      shape = record { rows = t.rows ∙ s.rows; cols = t.cols ∙ s.cols; first = t.first ∙ s.first };
      lowered =
          lowered_next v.rows v.cols c.args.from c.args.to r n v.cells l.self.cells c.copy_row.new.self.cells (omega (arith, l.auto.r)) (omega (arith, c.requires.on_rows)) (omega arith) (omega (arith, c.requires.on_rows))
          was by.0 by.1 by.2;
    }

pub returns-clause-lowered : goal.returns-clause-lowered
returns-clause-lowered c =
    let l = c.loop-r in
    let v = c.args.self.now in
    let e : l.r ≡ c.args.from = omega (arith, l.invariant.low, c.loop-r-test.false) in
    subst (λ (k : ℕ). AreLowered v.rows v.cols k c.args.to c.args.n v.cells l.self.cells) e l.invariant.lowered
