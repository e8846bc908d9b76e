use Rattle.std.proofs.Common.{◌≡◌, ◌+◌, ◌++◌, ◌∷◌, [], ℕ, List, drop, sym, ap, ◌∙◌, arith}
use Rattle.std.proofs.lemmas.List.{drop_more, drop_all, append-nil}
use Rattle.roam_cells.specs.Glyph.{Glyph}
use Rattle.roam_update.specs.Numbers.{form_in, form_over, cells_said}
use Rattle.roam_update.proofs.Said.{cells_step, forms_step, cells_end, forms_end, count_form}
use Rattle.roam_update.proofs.numbers.add_cells.Goals as goal

pub loop-cell-preserved : goal.loop-cell-preserved
loop-cell-preserved c =
    let cells = c.args.cells.now in
    let i = c.loop-cell.cell-index in
    let g = c.cell-item.result in
    let rest = drop (i + 1) cells in
    let more : drop i cells ≡ g ∷ rest = drop_more cells i g (omega arith) ∙ ap (λ (x : Glyph). x ∷ rest) (sym c.cell-item.is) in
    let old = form_in c.loop-cell.numbers in
    let new = c.in_ok-add_cell.ensures.form in
    let text = c.loop-cell.text.items in
    record {
      are = c.in_ok-add_cell.ensures.are;
      few = omega (arith, count_form old (form_in c.add_cell.new.numbers) g.style new, c.loop-cell.invariant.few);
      form = rw new (forms_step old g rest ∙ ap (form_over old) (sym more) ∙ c.loop-cell.invariant.form);
      text =
          rw (c.in_ok-add_cell.ensures.cell, new)
          (cells_step text old g rest ∙ ap (λ (gs : List Glyph). text ++ cells_said old gs) (sym more) ∙ c.loop-cell.invariant.text);
    }

pub returns-clause-form : goal.returns-clause-form
returns-clause-form c =
    let table = form_in c.loop-cell.numbers in
    let over : drop c.loop-cell.cell-index c.args.cells.now ≡ [] = drop_all c.loop-cell.cell-index c.args.cells.now (omega arith) in
    sym (forms_end table) ∙ ap (form_over table) (sym over) ∙ c.loop-cell.invariant.form

pub returns-clause-cells : goal.returns-clause-cells
returns-clause-cells c =
    let table = form_in c.loop-cell.numbers in
    let text = c.loop-cell.text.items in
    let over : drop c.loop-cell.cell-index c.args.cells.now ≡ [] = drop_all c.loop-cell.cell-index c.args.cells.now (omega arith) in
    sym (ap (λ (gs : List Glyph). text ++ cells_said table gs) over ∙ ap (λ (x : List ℕ). text ++ x) (cells_end table) ∙ append-nil text)
    ∙ c.loop-cell.invariant.text
