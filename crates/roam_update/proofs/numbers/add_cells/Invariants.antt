use Rattle.std.proofs.Common.{◌≡◌, ◌≤◌, ◌+◌, ◌++◌, drop, length}
use Rattle.roam_update.specs.Numbers.{form_in, styles_of, form_over, AreNumbers, cells_said}
use Rattle.roam_update.proofs.numbers.add_cells.Given as goal

abbrev pub invariant-loop-cell : goal.invariant-loop-cell
invariant-loop-cell l =
    record {
      are : AreNumbers l.numbers;
      few : length (styles_of (form_in l.numbers)) ≤ length (styles_of (form_in l.fn.numbers)) + l.cell-index;
      form : form_over (form_in l.numbers) (drop l.cell-index l.cells) ≡ form_over (form_in l.fn.numbers) l.cells;
      text : l.text.items ++ cells_said (form_in l.numbers) (drop l.cell-index l.cells) ≡ l.fn.text.items ++ cells_said (form_in l.fn.numbers) l.cells;
    }
