use Rattle.std.proofs.Common.{◌≡◌, ◌≤◌, ◌+◌, ◌-◌, ◌*◌, ◌/◌, ◌%◌, List, [], length, get_or, Some, None, sym, ap, subst, ◌∙◌, length-set, arith, rules}
use Rattle.std.proofs.lemmas.List.{get_or_read}
use Rattle.std.proofs.lemmas.Nat.{mod_below}
use Rattle.roam_cells.specs.Glyph.{Glyph}
use Rattle.roam_screens.specs.Lines.{cells_in_order}
use Rattle.roam_update.specs.Put.{cells_put}
use Rattle.roam_update.proofs.Putting.{cells_put_none}
use Rattle.roam_update.proofs.Drafted.{step_row, step_go, step_stops, step_lines}
use Rattle.roam_update.proofs.drafts.put_run.Goals as goal

pub loop-place-preserved : goal.loop-place-preserved
loop-place-preserved c =
    let rows = c.loop-place.rows.items in
    let cols = c.args.cols in
    let place = c.loop-place.place in
    let end = c.args.first + c.args.n in
    let n = c.min-count.result in
    let text = c.loop-place.rest.now in
    let are = c.loop-place.invariant.lines in
    let many = ap (λ k. k * cols) are.count in
    let fits : end ≤ length rows * cols = omega (arith, many, c.requires.there) in
    let inside = mod_below place cols c.requires.cols in
    let part : place % cols + n ≤ cols = omega (arith, c.min-count.ensures, inside) in
    let left : n ≤ end - place = omega (arith, c.min-count.ensures) in
    let there = c.loop-place-test.true in
    let row = step_row c.loop-place.form cols rows place end n text c.requires.cols are.long there fits part left in
    let row_is : c.index_mut.result.now ≡ get_or rows (place / cols) [] = get_or_read rows (place / cols) c.index_mut.result.now row c.index_mut.ensures.value [] in
    let put : cells_put c.loop-place.form n (place % cols) (get_or rows (place / cols) []) text
    ≡ Some (record { value = c.put.new.self; rest = c.in_ok-rest.rest.now; form = c.put.new.form }) =
    subst (λ (l : List Glyph). cells_put c.loop-place.form n (place % cols) l text
    ≡ Some (record { value = c.put.new.self; rest = c.in_ok-rest.rest.now; form = c.put.new.form })) row_is c.in_ok-rest.ensures.ok in
    record {
      lines = record {
        count = length-set rows (place / cols) c.put.new.self ∙ are.count;
        long = step_lines c.loop-place.form cols rows place end n text c.requires.cols are.long there fits part left c.put.new.self (c.in_ok-rest.ensures.len ∙ ap length row_is);
      };
      within = omega (arith, left, there);
      same = step_go c.loop-place.form cols rows place end n text c.requires.cols are.long there fits part left c.put.new.self c.in_ok-rest.rest.now c.put.new.form put
          ∙ c.loop-place.invariant.same;
    }

pub returns-in_err-rest-clause-bad : goal.returns-in_err-rest-clause-bad
returns-in_err-rest-clause-bad c =
    λ e.
    let rows = c.loop-place.rows.items in
    let cols = c.args.cols in
    let place = c.loop-place.place in
    let end = c.args.first + c.args.n in
    let n = c.min-count.result in
    let text = c.loop-place.rest.now in
    let are = c.loop-place.invariant.lines in
    let many = ap (λ k. k * cols) are.count in
    let fits : end ≤ length rows * cols = omega (arith, many, c.requires.there) in
    let inside = mod_below place cols c.requires.cols in
    let part : place % cols + n ≤ cols = omega (arith, c.min-count.ensures, inside) in
    let left : n ≤ end - place = omega (arith, c.min-count.ensures) in
    let there = c.loop-place-test.true in
    let row = step_row c.loop-place.form cols rows place end n text c.requires.cols are.long there fits part left in
    let row_is : c.index_mut.result.now ≡ get_or rows (place / cols) [] = get_or_read rows (place / cols) c.index_mut.result.now row c.index_mut.ensures.value [] in
    let put : cells_put c.loop-place.form n (place % cols) (get_or rows (place / cols) []) text ≡ None =
    subst (λ (l : List Glyph). cells_put c.loop-place.form n (place % cols) l text ≡ None) row_is (c.in_err-rest.ensures.bad (search rules)) in
    sym c.loop-place.invariant.same ∙ step_stops c.loop-place.form cols rows place end n text c.requires.cols are.long there fits part left put

pub returns-clause-ok : goal.returns-clause-ok
returns-clause-ok c =
    let end = c.args.first + c.args.n in
    let place = c.loop-place.place in
    sym c.loop-place.invariant.same
    ∙ cells_put_none c.loop-place.form (end - place) place (cells_in_order c.loop-place.rows.items) c.loop-place.rest.now (omega (arith, c.loop-place-test.false))
