use Rattle.std.proofs.Common.{◌≡◌, ◌≢◌, ◌∙◌, ◌+◌, ◌-◌, ◌<◌, ℕ, ap, arith, length, refl, set, true, ltb, sym}
use Rattle.std.proofs.lemmas.List.{with_items_is}
use Rattle.std.specs.Vec.{with_items}
use borrow.Rule.Slice.PartMut.{put_mid}
use Rattle.roam_cells.specs.Glyph.{Glyph}
use Rattle.roam_cells.specs.Place.{cell_at, glyph_at}
use Rattle.roam_rows.specs.Row.{mended_glyph}
use Rattle.roam_rows.specs.Turned.{IsTurned, in_order}
use Rattle.roam_rows.specs.Rows.{Rows}
use Rattle.roam_rows.specs.Kept.{AreLengths}
use Rattle.roam_rows.specs.Vertical.{cut_at_edge}
use Rattle.roam_rows.proofs.Lifting.{length-slice, row_before}
use Rattle.roam_rows.proofs.Edits.{a_turned, put_fits, replaced}
use Rattle.roam_rows.proofs.Sizes.{cut_here, cut_past, front_whole}
use Rattle.roam_rows.proofs.rings.Ring.take_row.Goals as goal
use Rattle.roam_rows.proofs.rings.Ring.take_row.Goals.{After-cut_into}

pub cut_into-requires-clause-empty : goal.cut_into-requires-clause-empty
cut_into-requires-clause-empty c =
    let a = c.args in
    let f = c.self.inside in
    let k = c.self.invariant in
    let place = c.place-at.ensures in
    let start = c.start_of-start in
    let rows_are = ap (λ (s : Rows). s.rows) c.self.view_is in
    let row_in : a.row < f.rows = omega (arith, c.requires.on_rows) in
    let m = start.result + f.cols - start.result in
    let m_is : m ≡ f.cols = omega arith in
    let a_is = a_turned f.rows f.cols f.first a.row c.place-at.result start.result m f.cells.items f.lengths.items k.turned k.lengths row_in place.place place.low start.ensures.start m_is in
    let size = length-slice f.rows f.cols f.first a.row start.result m f.cells.items k.turned row_in a_is m_is in
    let empty = rw (← c.self.view_is) at c.requires.empty in
    rw c.deref_mut.ensures.value (λ j q.
    let j_in : j < f.cols = omega (arith, size) in
    row_before f.rows f.cols f.first a.row start.result m f.cells.items k.turned row_in a_is m_is j j_in ∙ empty j j_in)

pub cut_into-requires-clause-whole : goal.cut_into-requires-clause-whole
cut_into-requires-clause-whole c =
    let v = c.args.other.now in
    let by = c.front_of_row-front.ensures in
    front_whole v.rows v.cols c.args.source v.cells c.front_of_row-front.result.now c.facts.ensures.rows.whole c.requires.on_rows.1 by.row by.few

done : (c : After-cut_into) →
    let f = c.self.inside in
    let v = c.args.other.now in
    let a = c.start_of-start.result in
    let cells = (with_items f.cells (put_mid a (a + f.cols - a) f.cells.items c.cut_into.new.row)).items in
    (IsTurned f.rows f.cols f.first cells) × (AreLengths f.rows f.cols cells (set f.lengths.items c.place-at.result c.min.result))
    × ((j : ℕ) → j < f.cols → cell_at f.cols (in_order f.cols f.first cells) c.args.row j ≡ cut_at_edge f.cols v.cols v.cells c.args.source j)
    × ((r j : ℕ) → r < f.rows → j < f.cols → r ≢ c.args.row → cell_at f.cols (in_order f.cols f.first cells) r j ≡ cell_at f.cols (in_order f.cols f.first f.cells.items) r j)
done c =
    let a = c.args in
    let v = a.other.now in
    let f = c.self.inside in
    let k = c.self.invariant in
    let place = c.place-at.ensures in
    let start = c.start_of-start in
    let front = c.front_of_row-front.result.now in
    let by = c.front_of_row-front.ensures in
    let rows_are = ap (λ (s : Rows). s.rows) c.self.view_is in
    let row_in : a.row < f.rows = omega (arith, c.requires.on_rows) in
    let m = start.result + f.cols - start.result in
    let m_is : m ≡ f.cols = omega arith in
    let a_is = a_turned f.rows f.cols f.first a.row c.place-at.result start.result m f.cells.items f.lengths.items k.turned k.lengths row_in place.place place.low start.ensures.start m_is in
    let ys = c.cut_into.new.row in
    let ys_long = rw c.deref_mut.ensures.value at c.cut_into.ensures.len in
    let size : length ys ≡ f.cols = ys_long ∙ length-slice f.rows f.cols f.first a.row start.result m f.cells.items k.turned row_in a_is m_is in
    let each : (j : ℕ) → j < f.cols → glyph_at ys j ≡ mended_glyph (glyph_at front j) (ltb (j + 1) f.cols) true =
    λ j q. c.cut_into.ensures.each j (omega (arith, size)) ∙ ap (λ n. mended_glyph (glyph_at front j) (ltb (j + 1) n) true) size in
    let long : length (put_mid start.result m f.cells.items ys) ≡ f.cells.len =
    put_fits f.rows f.cols f.first a.row c.place-at.result start.result m f.cells.items f.lengths.items k.turned k.lengths row_in place.place place.low start.ensures.start m_is ys size
    ∙ sym (ap (length {A = Glyph}) c.deref_mut.ensures.value) ∙ c.deref_mut.ensures.len in
    let d = replaced f.rows f.cols f.first a.row c.place-at.result start.result m f.cells.items f.lengths.items k.turned k.lengths row_in place.place place.low start.ensures.start m_is
    ys size c.cut_into.ensures.whole c.min.result (omega (arith, c.min.ensures))
    (λ j p q. each j q ∙ cut_past v.rows v.cols a.source v.cells front c.facts.ensures.rows.whole c.requires.on_rows.1 by.row by.few f.cols j (omega (arith, c.min.ensures)))
    _ (with_items_is f.cells (put_mid start.result m f.cells.items ys) long) in
    (d.0, d.1, λ j q. d.2 j q ∙ each j q ∙ cut_here v.rows v.cols a.source v.cells front c.facts.ensures.rows.whole c.requires.on_rows.1 by.row by.few f.cols j, d.3)

pub invariant_of-self : goal.invariant_of-self
invariant_of-self c =
    let d = done (goal.at.invariant_of-self c).After-cut_into in
    rw c.deref_mut.ensures.value (record { turned = d.0; lengths = d.1 })

pub returns : goal.returns
returns c =
    let d = done (goal.at.returns c).After-cut_into in
    record { taken = rw (← c.self.view_is, c.deref_mut.ensures.value) (record { shape = record { rows = refl; cols = refl; first = refl }; here = d.2; others = d.3 }) }
