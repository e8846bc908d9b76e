use Rattle.std.proofs.Common.{◌++◌, List, length, sym, ap, ◌∙◌, arith}
use Rattle.roam_cells.specs.declared.styles.Style.{Style}
use Rattle.roam_update.specs.CellText.{cell_text}
use Rattle.roam_update.specs.Numbers.{form_with, styles_of}
use Rattle.roam_update.specs.Styles.{Form, Numbered}
use Rattle.roam_update.proofs.Said.{form_full, form_numbered}
use Rattle.roam_update.proofs.numbers.add_cell.Goals as goal

pub returns-then-numbers-clause-form : goal.returns-then-numbers-clause-form
returns-then-numbers-clause-form c =
    let n = c.args.numbers.now in
    let e = form_full n c.if-numbers.true in
    e ∙ ap (λ (f : Form). form_with f c.args.cell.now.style) (sym e)

pub returns-then-numbers-clause-cell : goal.returns-then-numbers-clause-cell
returns-then-numbers-clause-cell c =
    let n = c.args.numbers.now in
    c.in_ok-add_whole_cell.ensures.cell ∙ ap (λ (f : Form). c.args.text.now.items ++ cell_text f c.args.cell.now) (sym (form_full n c.if-numbers.true))

pub add_numbered_cell-requires-clause-few : goal.add_numbered_cell-requires-clause-few
add_numbered_cell-requires-clause-few c =
    let n = c.args.numbers.now in
    omega (arith, c.requires.few, ap (λ (f : Form). length (styles_of f)) (form_numbered n c.if-numbers.false))

pub returns-clause-form : goal.returns-clause-form
returns-clause-form c =
    let old = c.args.numbers.now in
    let new = c.add_numbered_cell.new.numbers in
    form_numbered new (c.in_ok-add_numbered_cell.ensures.kept ∙ c.if-numbers.false)
    ∙ ap (λ (t : List Style). Numbered t 0) c.in_ok-add_numbered_cell.ensures.styles
    ∙ ap (λ (f : Form). form_with f c.args.cell.now.style) (sym (form_numbered old c.if-numbers.false))

pub returns-clause-cell : goal.returns-clause-cell
returns-clause-cell c =
    let new = c.add_numbered_cell.new.numbers in
    c.in_ok-add_numbered_cell.ensures.cell
    ∙ ap (λ (f : Form). c.args.text.now.items ++ cell_text f c.args.cell.now)
    (sym (form_numbered new (c.in_ok-add_numbered_cell.ensures.kept ∙ c.if-numbers.false)))
