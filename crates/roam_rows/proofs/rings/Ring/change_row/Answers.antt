use Rattle.std.proofs.Common.{◌≡◌, ◌∙◌, ◌+◌, ◌-◌, ◌<◌, ℕ, List, ap, arith, drop, length, set, subst, sym, take}
use Rattle.std.proofs.lemmas.List.{with_items_is}
use Rattle.std.specs.Vec.{with_items}
use borrow.Rule.Slice.PartMut.{put_mid}
use Rattle.roam_cells.specs.Glyph.{Glyph}
use Rattle.roam_cells.specs.Place.{row_of}
use Rattle.roam_rows.specs.Row.{IsInRow, row_moved_at}
use Rattle.roam_rows.specs.Places.{mapped_cells, in_row}
use Rattle.roam_rows.specs.Turned.{IsTurned, in_order}
use Rattle.roam_rows.specs.Rows.{Rows}
use Rattle.roam_rows.specs.Kept.{AreLengths}
use Rattle.roam_rows.proofs.Lifting.{length-slice, slice_whole}
use Rattle.roam_rows.proofs.Edits.{a_turned, edited, put_fits, rows_by}
use Rattle.roam_rows.proofs.Columns.{length-row}
use Rattle.roam_rows.proofs.Buffers.{slice_is_row}
use Rattle.roam_rows.proofs.rings.Ring.change_row.Goals as goal
use Rattle.roam_rows.proofs.rings.Ring.change_row.Goals.{After-apply}

pub apply-requires-clause-whole : goal.apply-requires-clause-whole
apply-requires-clause-whole g c =
    let f = c.self.inside in
    let k = c.self.invariant in
    let place = c.place-at.ensures in
    let rows_are = ap (λ (s : Rows). s.rows) c.self.view_is in
    let row_in : c.args.row < f.rows = omega (arith, c.requires.row_in) in
    let m = c.start_of-start.result + f.cols - c.start_of-start.result in
    let m_is : m ≡ f.cols = omega arith in
    rw c.deref_mut.ensures.value (slice_whole f.rows f.cols f.first c.args.row c.start_of-start.result m f.cells.items k.turned row_in
    (a_turned f.rows f.cols f.first c.args.row c.place-at.result c.start_of-start.result m f.cells.items f.lengths.items k.turned k.lengths row_in place.place place.low c.start_of-start.ensures.start m_is) m_is)

done : (g : _) (c : After-apply g) →
    let f = c.self.inside in
    let start = c.start_of-start.result in
    let cells = (with_items f.cells (put_mid start (start + f.cols - start) f.cells.items c.apply.new.row)).items in
    let all = in_order f.cols f.first f.cells.items in
    (IsTurned f.rows f.cols f.first cells) × (AreLengths f.rows f.cols cells (set f.lengths.items c.place-at.result c.apply.result))
    × (in_order f.cols f.first cells ≡ mapped_cells f.rows f.cols all (in_row c.args.row (g.C.RowChange.source c.args.change (row_of f.cols all c.args.row))))
done g c =
    let f = c.self.inside in
    let k = c.self.invariant in
    let place = c.place-at.ensures in
    let start = c.start_of-start in
    let rows_are = ap (λ (s : Rows). s.rows) c.self.view_is in
    let row_in : c.args.row < f.rows = omega (arith, c.requires.row_in) in
    let m = start.result + f.cols - start.result in
    let m_is : m ≡ f.cols = omega arith in
    let row = take m (drop start.result f.cells.items) in
    let all = in_order f.cols f.first f.cells.items in
    let ys = c.apply.new.row in
    let one = g.C.RowChange.source c.args.change row in
    let size : length row ≡ f.cols = length-slice f.rows f.cols f.first c.args.row start.result m f.cells.items k.turned row_in
    (a_turned f.rows f.cols f.first c.args.row c.place-at.result start.result m f.cells.items f.lengths.items k.turned k.lengths row_in place.place place.low start.ensures.start m_is) m_is in
    let after = rw c.deref_mut.ensures.value at c.apply.ensures.after in
    let stays = rw c.deref_mut.ensures.value at c.apply.ensures.stays in
    let low = rw c.deref_mut.ensures.value at c.apply.ensures.low in
    let rest = rw c.deref_mut.ensures.value at c.apply.ensures.rest in
    let d = edited f.rows f.cols f.first c.args.row c.place-at.result start.result m f.cells.items f.lengths.items k.turned k.lengths row_in place.place place.low start.ensures.start m_is
    ys one (subst (λ (n : ℕ). (j : ℕ) → j < n → IsInRow n (one j)) size stays) after c.apply.ensures.whole c.apply.result (omega (arith, low, size))
    (λ j p q. rest j p (omega (arith, size, q))) in
    let ys_long : length ys ≡ f.cols = ap length after ∙ length-row (length row) (row_moved_at row one) ∙ size in
    let long : length (put_mid start.result m f.cells.items ys) ≡ f.cells.len =
    put_fits f.rows f.cols f.first c.args.row c.place-at.result start.result m f.cells.items f.lengths.items k.turned k.lengths row_in place.place place.low start.ensures.start m_is ys ys_long
    ∙ sym (ap (length {A = Glyph}) c.deref_mut.ensures.value) ∙ c.deref_mut.ensures.len in
    let cells_are = with_items_is f.cells (put_mid start.result m f.cells.items ys) long in
    let row_is = slice_is_row f.rows f.cols f.first c.args.row c.place-at.result start.result m f.cells.items k.turned row_in place.place start.ensures.start m_is in (
      subst (λ (l : List Glyph). IsTurned f.rows f.cols f.first l) (sym cells_are) d.0,
      subst (λ (l : List Glyph). AreLengths f.rows f.cols l (set f.lengths.items c.place-at.result c.apply.result)) (sym cells_are) d.1,
      ap (in_order f.cols f.first) cells_are ∙ d.2
          ∙ ap (λ (l : List Glyph). mapped_cells f.rows f.cols all (in_row c.args.row (g.C.RowChange.source c.args.change l))) row_is,
    )

pub invariant_of-self : goal.invariant_of-self
invariant_of-self g c =
    let d = done g (goal.at.invariant_of-self g c).After-apply in
    rw c.deref_mut.ensures.value (record { turned = d.0; lengths = d.1 })

pub returns : goal.returns
returns g c =
    let f = c.self.inside in
    let d = done g (goal.at.returns g c).After-apply in
    record { ring = rw (← c.self.view_is, c.deref_mut.ensures.value) (ap (rows_by f.rows f.cols f.first) d.2) }
