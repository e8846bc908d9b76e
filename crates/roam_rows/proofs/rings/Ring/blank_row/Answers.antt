use Rattle.std.proofs.Common.{◌≡◌, ◌∙◌, ◌+◌, ◌*◌, ◌<◌, ◌≤◌, List, ap, sym, subst, arith, length, set}
use Rattle.std.proofs.lemmas.List.{with_items_is}
use Rattle.std.specs.Vec.{with_items}
use Rattle.roam_cells.specs.Glyph.{Glyph}
use Rattle.roam_rows.specs.Turned.{IsTurned, in_order}
use Rattle.roam_rows.specs.Rows.{Rows}
use Rattle.roam_rows.specs.Vertical.{AreBlanked}
use Rattle.roam_rows.specs.Kept.{AreLengths}
use Rattle.roam_rows.proofs.Written.{read_length}
use Rattle.roam_rows.proofs.Whole.{row_blanked, blank_kept}
use Rattle.roam_rows.proofs.rings.Ring.blank_row.Goals as goal
use Rattle.roam_rows.proofs.rings.Ring.blank_row.Goals.{After-blank_between}

done : (c : After-blank_between) →
    let f = c.self.inside in
    let cells = (with_items f.cells c.blank_between.new.cells).items in
    (IsTurned f.rows f.cols f.first cells) × (AreLengths f.rows f.cols cells (set f.lengths.items c.place-at.result 0))
    × (AreBlanked f.rows f.cols c.args.row (c.args.row + 1) (in_order f.cols f.first f.cells.items) (in_order f.cols f.first cells))
done c =
    let a = c.args in
    let f = c.self.inside in
    let k = c.self.invariant in
    let rows_are = ap (λ (s : Rows). s.rows) c.self.view_is in
    let row_in : a.row < f.rows = omega (arith, c.requires.on_rows) in
    let place = c.place-at.ensures in
    let new = c.blank_between.new.cells in
    let by = rw c.deref_mut.ensures.value at c.blank_between.ensures in
    let read = read_length f.lengths.items c.place-at.result c.index.result.now (omega (arith, k.lengths.count, place.low)) c.index.ensures in
    let items_are = with_items_is f.cells new (c.blank_between.ensures.len ∙ c.deref_mut.ensures.len) in
    let kept = blank_kept f.rows f.cols f.first a.row c.place-at.result c.start_of-start.result c.index.result.now f.cells.items new f.lengths.items k.turned k.lengths row_in place.place place.low
    c.start_of-start.ensures.start read by.len by.before by.inside by.after in
    let blanked = row_blanked f.rows f.cols f.first a.row c.place-at.result c.start_of-start.result c.index.result.now f.cells.items new f.lengths.items k.turned k.lengths row_in place.place place.low
    c.start_of-start.ensures.start read by.len by.before by.inside by.after in (
      subst (λ (xs : List Glyph). IsTurned f.rows f.cols f.first xs) (sym items_are) kept.0,
      subst (λ (xs : List Glyph). AreLengths f.rows f.cols xs (set f.lengths.items c.place-at.result 0)) (sym items_are) kept.1,
      subst (λ (xs : List Glyph). AreBlanked f.rows f.cols a.row (a.row + 1) (in_order f.cols f.first f.cells.items) (in_order f.cols f.first xs)) (sym items_are) blanked,
    )

pub invariant_of-self : goal.invariant_of-self
invariant_of-self c =
    let d = done (goal.at.invariant_of-self c).After-blank_between in
    record { turned = d.0; lengths = d.1 }

pub returns-clause-blanked : goal.returns-clause-blanked
returns-clause-blanked c = rw (← c.self.view_is) (done (goal.at.returns-clause-blanked c).After-blank_between).2

pub blank_between-requires : goal.blank_between-requires
blank_between-requires c =
    let f = c.self.inside in
    let k = c.self.invariant in
    let place = c.place-at.ensures in
    let read = read_length f.lengths.items c.place-at.result c.index.result.now (omega (arith, k.lengths.count, place.low)) c.index.ensures in
    let few : c.index.result.now ≤ f.cols = omega (arith, read, k.lengths.low c.place-at.result place.low) in
    let long : length c.deref_mut.result.now ≡ f.rows * f.cols = ap (length {A = Glyph}) c.deref_mut.ensures.value ∙ k.turned.size in
    record { range = (omega arith, omega (arith, few, long, c.start_of-start.ensures.room)) }
