use Rattle.std.proofs.Common.{◌∙◌, ◌+◌, ◌<◌, arith, refl}
use Rattle.roam_rows.specs.Vertical.{AreBlanked}
use Rattle.roam_rows.proofs.Whole.{blanked_next, blanked_none}
use Rattle.roam_rows.proofs.rings.Ring.clear_rows.Goals as goal

pub loop-r-init : goal.loop-r-init
loop-r-init c = record { shape = record { rows = refl; cols = refl; first = refl }; blanked = blanked_none _ _ _ _ }

pub loop-r-preserved : goal.loop-r-preserved
loop-r-preserved c =
    let l = c.loop-r in
    let v = c.args.self.now in
    let s = l.invariant.shape in
    let t = c.blank_row.ensures.shape in
    let r_in : l.r < v.rows = omega (arith, c.loop-r-test.true, c.requires.on_rows) in
    let one : AreBlanked v.rows v.cols l.r (l.r + 1) l.self.cells c.blank_row.new.self.cells = rw (← s.rows, ← s.cols) c.blank_row.ensures.blanked in
    record {
      shape = record { rows = t.rows ∙ s.rows; cols = t.cols ∙ s.cols; first = t.first ∙ s.first };
      blanked = blanked_next v.rows v.cols c.args.from l.r v.cells l.self.cells c.blank_row.new.self.cells r_in (omega (arith, l.auto.r)) l.invariant.blanked one;
    }
