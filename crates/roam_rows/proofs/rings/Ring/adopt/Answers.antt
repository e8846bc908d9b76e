use Rattle.std.proofs.Common.{◌≡◌, ◌∙◌, ◌+◌, ◌-◌, ap, arith, refl, inl, inr, min, sym}
use Rattle.std.proofs.lemmas.Bool.{cases_eq}
use Rattle.roam_cells.specs.Place.{cell_at}
use Rattle.roam_rows.specs.Rows.{Rows}
use Rattle.roam_rows.specs.Vertical.{cut_at_edge}
use Rattle.roam_rows.proofs.Starting.{all_blank}
use Rattle.roam_rows.proofs.Sizes.{sized_is, taken_by}
use Rattle.roam_rows.proofs.rings.Ring.adopt.Goals as goal

pub loop-row-init : goal.loop-row-init
loop-row-init c =
    let w = c.fitted.inside.ring in
    record {
      shape = record { rows = refl; cols = refl; first = refl };
      taken = λ r j p q. absurd (omega arith);
      rest = λ r j p h q. ap (λ (x : Rows). cell_at w.cols x.cells r j) c.fitted.invariant.blank ∙ all_blank w.rows w.cols r j h q;
    }

pub take_row-requires-clause-on_rows : goal.take_row-requires-clause-on_rows
take_row-requires-clause-on_rows c =
    let s = c.loop-row.invariant.shape in
    (omega (arith, c.loop-row-test.true, c.min-count.ensures, c.rows-2.ensures.rows, s.rows), omega (arith, c.loop-row-test.true, c.min-count.ensures, c.saturating_sub.ensures, c.rows.ensures.rows))

pub take_row-requires-clause-empty : goal.take_row-requires-clause-empty
take_row-requires-clause-empty c =
    let i = c.loop-row.invariant in
    rw i.shape.cols (λ j q. i.rest c.loop-row.row j (omega arith) (omega (arith, c.loop-row-test.true, c.min-count.ensures, c.rows-2.ensures.rows)) q)

pub loop-row-preserved : goal.loop-row-preserved
loop-row-preserved c =
    let i = c.loop-row.invariant in
    let w = c.fitted.inside.ring in
    let v = c.args.self.now in
    let row = c.loop-row.row in
    let s = i.shape in
    let by = taken_by w.rows w.cols row (row + c.args.off) v c.loop-row.ring c.take_row.new.self s.rows s.cols c.take_row.ensures.taken in
    let t = c.take_row.ensures.taken.shape in
    record {
      shape = record { rows = t.rows ∙ s.rows; cols = t.cols ∙ s.cols; first = t.first ∙ s.first };
      taken = λ r j p q. elim (cases_eq r row) [
        | inl e ↦ ap (λ k. cell_at w.cols c.take_row.new.self.cells k j) e ∙ by.0 j q ∙ ap (λ k. cut_at_edge w.cols v.cols v.cells (k + c.args.off) j) (sym e)
        | inr ne ↦ by.1 r j (omega (arith, c.loop-row-test.true, c.min-count.ensures, c.rows-2.ensures.rows)) q ne ∙ i.taken r j (omega arith) q
      ];
      rest = λ r j p h q. by.1 r j h q (λ e. absurd (omega arith)) ∙ i.rest r j (omega arith) h q;
    }

pub returns : goal.returns
returns c =
    let i = c.loop-row.invariant in
    let w = c.fitted.inside.ring in
    let v = c.args.self.now in
    let first_is = ap (λ (x : Rows). x.first) c.fitted.invariant.blank in
    let end : c.loop-row.row ≡ c.min-count.result = omega (arith, c.loop-row-test.false, c.loop-row.auto.row-end) in
    record {
      ring = rw (← c.fitted.view_is)
          (sized_is v c.loop-row.ring w.rows w.cols c.args.off c.loop-row.row c.facts-2.ensures.rows c.facts-3.ensures.rows i.shape.rows i.shape.cols (i.shape.first ∙ first_is)
          (end ∙ c.min-count.ensures ∙ ap (min c.saturating_sub.result) c.rows-2.ensures.rows ∙ ap (λ n. min n w.rows) (c.saturating_sub.ensures ∙ ap (λ n. n - c.args.off) c.rows.ensures.rows)) i.taken i.rest);
    }
