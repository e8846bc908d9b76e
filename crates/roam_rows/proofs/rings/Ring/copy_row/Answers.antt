use Rattle.std.proofs.Common.{rules, ◌≡◌, ◌∙◌, ◌*◌, ◌<◌, ◌≤◌, List, ap, sym, subst, refl, arith, length, set}
use Rattle.std.proofs.lemmas.List.{with_items_is}
use Rattle.std.specs.Vec.{with_items}
use Rattle.roam_cells.specs.Glyph.{Glyph}
use Rattle.roam_rows.specs.Turned.{IsTurned, in_order}
use Rattle.roam_rows.specs.Rows.{Rows}
use Rattle.roam_rows.specs.Vertical.{IsCopied}
use Rattle.roam_rows.specs.Kept.{AreLengths}
use Rattle.roam_rows.proofs.Edits.{rows_by}
use Rattle.roam_rows.proofs.Written.{read_length}
use Rattle.roam_rows.proofs.Whole.{copied_by, copied_here, copied_other, copy_kept}
use Rattle.roam_rows.proofs.rings.Ring.copy_row.Goals as goal
use Rattle.roam_rows.proofs.rings.Ring.copy_row.Goals.{After-blank_between}

done : (c : After-blank_between) →
    let f = c.self.inside in
    let cells = (with_items f.cells c.blank_between.new.cells).items in
    (IsTurned f.rows f.cols f.first cells) × (AreLengths f.rows f.cols cells (set f.lengths.items c.place-to.result c.index-size.result.now))
    × (IsCopied c.args.source c.args.target (rows_by f.rows f.cols f.first (in_order f.cols f.first f.cells.items)) (rows_by f.rows f.cols f.first (in_order f.cols f.first cells)))
done c =
    let a = c.args in
    let f = c.self.inside in
    let k = c.self.invariant in
    let rows_are = ap (λ (s : Rows). s.rows) c.self.view_is in
    let source_in : a.source < f.rows = omega (arith, c.requires.on_rows) in
    let target_in : a.target < f.rows = omega (arith, c.requires.on_rows) in
    let s = c.place-from in
    let t = c.place-to in
    let new = c.blank_between.new.cells in
    let copy = c.copy_within.ensures in
    let by = c.blank_between.ensures in
    let u = read_length f.lengths.items s.result c.index-size.result.now (omega (arith, k.lengths.count, s.ensures.low)) c.index-size.ensures in
    let v = read_length f.lengths.items t.result c.index.result.now (omega (arith, k.lengths.count, t.ensures.low)) c.index.ensures in
    let laid = copied_by f.rows f.cols f.first s.result t.result c.start_of-source_start.result c.start_of-target_start.result c.index-size.result.now c.index.result.now c.max-end.result
    f.cells.items c.copy_within.new.self new f.lengths.items k.turned k.lengths s.ensures.low t.ensures.low c.start_of-source_start.ensures.start c.start_of-target_start.ensures.start u v c.max-end.ensures
    (rw c.as_mut_slice-cells.ensures.value at copy.by_index) by.before by.inside by.after in
    let len : length new ≡ length f.cells.items = by.len ∙ copy.len ∙ ap (length {A = Glyph}) c.as_mut_slice-cells.ensures.value in
    let items_are = with_items_is f.cells new (c.blank_between.ensures.len ∙ copy.len ∙ c.as_mut_slice-cells.ensures.len) in
    let kept = copy_kept f.rows f.cols f.first a.source a.target s.result t.result c.start_of-source_start.result c.start_of-target_start.result c.index-size.result.now f.cells.items new f.lengths.items
    k.turned k.lengths source_in target_in s.ensures.place s.ensures.low t.ensures.place t.ensures.low c.start_of-source_start.ensures.start c.start_of-target_start.ensures.start u len laid.0 laid.1 laid.2 in
    let here = copied_here f.rows f.cols f.first a.source a.target s.result t.result c.start_of-source_start.result c.start_of-target_start.result c.index-size.result.now f.cells.items new f.lengths.items
    k.turned k.lengths source_in target_in s.ensures.place s.ensures.low t.ensures.place t.ensures.low c.start_of-source_start.ensures.start c.start_of-target_start.ensures.start u len laid.0 laid.1 laid.2 in
    let other = copied_other f.rows f.cols f.first a.source a.target s.result t.result c.start_of-source_start.result c.start_of-target_start.result c.index-size.result.now f.cells.items new f.lengths.items
    k.turned k.lengths source_in target_in s.ensures.place s.ensures.low t.ensures.place t.ensures.low c.start_of-source_start.ensures.start c.start_of-target_start.ensures.start u len laid.0 laid.1 laid.2 in (
      subst (λ (xs : List Glyph). IsTurned f.rows f.cols f.first xs) (sym items_are) kept.0,
      subst (λ (xs : List Glyph). AreLengths f.rows f.cols xs (set f.lengths.items t.result c.index-size.result.now)) (sym items_are) kept.1,
      subst (λ (xs : List Glyph). IsCopied a.source a.target (rows_by f.rows f.cols f.first (in_order f.cols f.first f.cells.items)) (rows_by f.rows f.cols f.first (in_order f.cols f.first xs))) (sym items_are)
          (record {
            shape = record { rows = refl; cols = refl; first = refl };
            here = here;
            below = λ r col p q. other r col (omega arith) q (λ e. absurd (omega arith));
            above = λ r col p h q. other r col h q (λ e. absurd (omega arith));
          }),
    )

pub invariant_of-self : goal.invariant_of-self
invariant_of-self c =
    let d = done (goal.at.invariant_of-self c).After-blank_between in
    record { turned = d.0; lengths = d.1 }

pub returns : goal.returns
returns c =
    let d = done (goal.at.returns c).After-blank_between in
    record { copied = rw (← c.self.view_is) d.2 }

pub copy_within-requires : goal.copy_within-requires
copy_within-requires c =
    let f = c.self.inside in
    let k = c.self.invariant in
    let s = c.place-from.ensures in
    let read = read_length f.lengths.items c.place-from.result c.index-size.result.now (omega (arith, k.lengths.count, s.low)) c.index-size.ensures in
    let few : c.index-size.result.now ≤ f.cols = omega (arith, read, k.lengths.low c.place-from.result s.low) in
    let long : length c.as_mut_slice-cells.result.now ≡ f.rows * f.cols = ap (length {A = Glyph}) c.as_mut_slice-cells.ensures.value ∙ k.turned.size in
    record {
      start_le_end = omega arith;
      in_bounds = omega (arith, few, long, c.start_of-source_start.ensures.room);
      dest_in_bounds = omega (arith, few, long, c.start_of-target_start.ensures.room);
      not_exhausted = search rules;
    }
