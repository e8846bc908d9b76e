use Rattle.std.proofs.Common.{◌≡◌, ◌+◌, ◌-◌, ◌*◌, ◌/◌, ◌%◌, ◌<◌, ◌≤◌, ◌++◌, [], ℕ, List, append_assoc, sym, ap, ◌∙◌, arith}
use Rattle.std.specs.Prelude.{slice_range}
use Rattle.std.proofs.lemmas.List.{append-nil}
use Rattle.roam_cells.specs.Glyph.{Glyph}
use Rattle.roam_cells.specs.Place.{row_of}
use Rattle.roam_update.specs.Numbers.{form_in, form_over, cells_said}
use Rattle.roam_update.proofs.Said.{cells_split, forms_split, cells_end, forms_end, count_over}
use Rattle.roam_update.proofs.Slices.{range_more, range_none, row_range, range_count}
use Rattle.roam_update.proofs.Walking.{place_is, col_below}
use Rattle.roam_update.proofs.change_text.add_places.Goals as goal

pub loop-place-preserved : goal.loop-place-preserved
loop-place-preserved g c =
    let cells = (g.S.Seen.screen c.args.shot.now).cells in
    let cols = c.cols-cols.result in
    let place = c.loop-place.place in
    let col = place % cols in
    let stop = c.min-stop.result in
    let is = c.facts.ensures.screenshot in
    let some : 0 < cols = omega (arith, is.size.least_columns, c.cols-cols.ensures.cols) in
    let here : place / cols * cols + col ≡ place = place_is place cols cols some in
    let below : col < cols = col_below place cols cols some in
    let more : place < c.args.end = c.loop-place-test.true in
    let up : col ≤ stop = omega (arith, c.min-stop.ensures, below, more) in
    let low : stop ≤ cols = omega (arith, c.min-stop.ensures) in
    let high : place + (stop - col) ≤ c.args.end = omega (arith, c.min-stop.ensures, below, more) in
    let next : place / cols * cols + stop ≡ place + (stop - col) = omega (arith, here, up) in
    let after = place + (stop - col) in
    let row : c.row.result.now ≡ row_of cols cells (place / cols) =
    c.row.ensures.row ∙ ap (λ n. row_of n cells (place / cols)) (sym c.cols-cols.ensures.cols) in
    let part : slice_range c.row.result.now col stop ≡ slice_range cells place after =
    ap (λ l. slice_range l col stop) row ∙ row_range cols cells (place / cols) col stop up low
    ∙ (λ i. slice_range cells (here i) (next i)) in
    let old = form_in c.loop-place.numbers in
    let mine = slice_range cells place after in
    let rest = slice_range cells after c.args.end in
    let all : mine ++ rest ≡ slice_range cells place c.args.end = range_more cells place after c.args.end (omega arith) high c.requires.places.1 in
    let form : form_in c.add_cells.new.numbers ≡ form_over old mine = c.in_ok-add_cells.ensures.form ∙ ap (form_over old) part in
    let count = count_over old (form_in c.add_cells.new.numbers) mine form in
    let long = range_count cells place after in
    record {
      low = omega (arith, c.loop-place.invariant.low);
      high = high;
      are = c.in_ok-add_cells.ensures.are;
      few = omega (arith, count, long, c.loop-place.invariant.few, c.loop-place.invariant.low);
      form = rw form (sym (forms_split old mine rest) ∙ ap (form_over old) all ∙ c.loop-place.invariant.form);
      text =
          rw (c.in_ok-add_cells.ensures.cells, part, form)
          (append_assoc c.loop-place.text.items (cells_said old mine) (cells_said (form_over old mine) rest)
          ∙ ap (λ (t : List ℕ). c.loop-place.text.items ++ t) (sym (cells_split old mine rest) ∙ ap (cells_said old) all)
          ∙ c.loop-place.invariant.text);
    }

pub returns-clause-form : goal.returns-clause-form
returns-clause-form g c =
    let cells = (g.S.Seen.screen c.args.shot.now).cells in
    let end : c.loop-place.place ≡ c.args.end = omega (arith, c.loop-place-test.false, c.loop-place.invariant.high) in
    let f = form_in c.loop-place.numbers in
    let none : slice_range cells c.loop-place.place c.args.end ≡ [] = ap (λ n. slice_range cells n c.args.end) end ∙ range_none cells c.args.end in
    sym (forms_end f) ∙ ap (form_over f) (sym none) ∙ c.loop-place.invariant.form

pub returns-clause-cells : goal.returns-clause-cells
returns-clause-cells g c =
    let cells = (g.S.Seen.screen c.args.shot.now).cells in
    let end : c.loop-place.place ≡ c.args.end = omega (arith, c.loop-place-test.false, c.loop-place.invariant.high) in
    let f = form_in c.loop-place.numbers in
    let text = c.loop-place.text.items in
    let none : slice_range cells c.loop-place.place c.args.end ≡ [] = ap (λ n. slice_range cells n c.args.end) end ∙ range_none cells c.args.end in
    sym (ap (λ (gs : List Glyph). text ++ cells_said f gs) none ∙ ap (λ (x : List ℕ). text ++ x) (cells_end f) ∙ append-nil text)
    ∙ c.loop-place.invariant.text
