use Rattle.std.proofs.Common.{◌≡◌, ◌∙◌, ap, ◌+◌, ◌-◌, ◌*◌, ◌<◌, ◌≤◌, take, drop, length, arith}
use Rattle.roam_cells.specs.Glyph.{Glyph}
use Rattle.roam_rows.specs.Rows.{Rows}
use Rattle.roam_rows.proofs.Written.{read_length}
use Rattle.roam_rows.proofs.Buffers.{front_of_row, length-front}
use Rattle.roam_rows.proofs.rings.Ring.front_of_row.Goals as goal

pub returns-clause-row : goal.returns-clause-row
returns-clause-row c =
    let f = c.self.inside in
    let k = c.self.invariant in
    let place = c.place-at.ensures in
    let a = c.start_of-start.result in
    let u = c.index.result.now in
    let i_in : c.args.i < f.rows = omega (arith, c.requires, ap (λ (s : Rows). s.rows) c.self.view_is) in
    let read = read_length f.lengths.items c.place-at.result u (omega (arith, k.lengths.count, place.low)) c.index.ensures in
    let size : a + u - a ≡ u = omega arith in
    let long : length (take u (drop a f.cells.items)) ≡ u =
    length-front f.rows f.cols f.first c.place-at.result a u f.cells.items f.lengths.items k.turned k.lengths place.low c.start_of-start.ensures.start read in
    rw (← c.self.view_is, c.deref.ensures.value, size, long)
    (front_of_row f.rows f.cols f.first c.args.i c.place-at.result a u f.cells.items f.lengths.items k.turned k.lengths i_in place.place place.low c.start_of-start.ensures.start read)

pub returns-clause-few : goal.returns-clause-few
returns-clause-few c =
    let f = c.self.inside in
    let k = c.self.invariant in
    let place = c.place-at.ensures in
    let a = c.start_of-start.result in
    let u = c.index.result.now in
    let read = read_length f.lengths.items c.place-at.result u (omega (arith, k.lengths.count, place.low)) c.index.ensures in
    let size : a + u - a ≡ u = omega arith in
    let long : length (take u (drop a f.cells.items)) ≡ u =
    length-front f.rows f.cols f.first c.place-at.result a u f.cells.items f.lengths.items k.turned k.lengths place.low c.start_of-start.ensures.start read in
    rw (← c.self.view_is, c.deref.ensures.value, size, long) (omega (arith, read, k.lengths.low c.place-at.result place.low))

pub slice_bounds-result-end : goal.slice_bounds-result-end
slice_bounds-result-end c =
    let f = c.self.inside in
    let k = c.self.invariant in
    let place = c.place-at.ensures in
    let u = c.index.result.now in
    let read = read_length f.lengths.items c.place-at.result u (omega (arith, k.lengths.count, place.low)) c.index.ensures in
    let few : u ≤ f.cols = omega (arith, read, k.lengths.low c.place-at.result place.low) in
    let long : length c.deref.result.now ≡ f.rows * f.cols = ap (length {A = Glyph}) c.deref.ensures.value ∙ k.turned.size in
    omega (arith, few, long, c.start_of-start.ensures.room)
