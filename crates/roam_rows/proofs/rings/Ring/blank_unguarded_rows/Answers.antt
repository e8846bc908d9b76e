use Rattle.std.proofs.Common.{◌≡◌, ◌∙◌, ◌<◌, inl, inr, ap, arith, refl, sym}
use Rattle.roam_cells.specs.Place.{row_of}
use Rattle.roam_rows.specs.Rows.{with_row}
use Rattle.roam_rows.specs.Erasing.{unguarded_blanked}
use Rattle.roam_rows.proofs.Pages.{erased_more, erased_row, erased_rows}
use Rattle.roam_rows.proofs.rings.Ring.blank_unguarded_rows.Goals as goal

pub loop-r-init : goal.loop-r-init
loop-r-init c = record { shape = record { rows = refl; cols = refl; first = refl }; inside = λ r j p q h i. absurd (omega arith); outside = λ r j p h i. refl }

pub loop-r-preserved : goal.loop-r-preserved
loop-r-preserved c =
    let l = c.loop-r in
    let i = l.invariant in
    let old = c.args.self.now in
    let w = c.erase_unguarded.new.self in
    let r_in : l.r < old.rows = omega (arith, c.loop-r-test.true, c.requires.on_rows) in
    let cols_are = c.cols-cols.ensures.cols ∙ sym i.shape.cols in
    let is = c.erase_unguarded.ensures.ring ∙ ap (λ n. with_row l.r (unguarded_blanked (row_of l.self.cols l.self.cells l.r) 0 n) l.self) cols_are in
    let step = erased_row l.r l.self w c.facts-in-loop-r.ensures.rows (omega (arith, r_in, i.shape.rows)) is in
    let next = erased_more c.args.from l.r old l.self w i.shape step.0 r_in (omega (arith, l.auto.r)) step.1 step.2 i.inside i.outside in
    record { shape = next.0; inside = next.1; outside = next.2 }

pub returns : goal.returns
returns c =
    let l = c.loop-r in
    let i = l.invariant in
    let end : l.r ≡ c.args.to = omega (arith, c.loop-r-test.false, l.auto.r-end, c.requires.on_rows) in
    record {
      ring = erased_rows c.args.from c.args.to c.args.self.now l.self c.facts.ensures.rows c.facts-2.ensures.rows i.shape
          (λ r j p q h k. i.inside r j p (omega arith) h k)
          (λ r j p h k. i.outside r j (elim p [ inl a ↦ inl a | inr b ↦ inr (omega arith) ]) h k);
    }
