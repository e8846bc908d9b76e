use Rattle.std.proofs.Common.{◌≡◌, ◌∙◌, List, ap, length, subst, sym, arith}
use Rattle.std.proofs.lemmas.List.{with_items_is}
use Rattle.roam_cells.specs.Glyph.{Glyph}
use Rattle.roam_history.specs.Lines.{IsWritten}
use Rattle.roam_history.proofs.Refitting.{refitted_written}
use Rattle.roam_history.proofs.lines.Line.take.Goals as goal

pub invariant_of-self : goal.invariant_of-self
invariant_of-self c =
    let f = c.self.inside in
    let new = c.write_over.new.line in
    let by = rw c.deref_mut.ensures.value at c.write_over.ensures in
    let size : length f.cells.items ≡ f.cells.len = ap length (sym c.deref_mut.ensures.value) ∙ c.deref_mut.ensures.len in
    let items_are = with_items_is f.cells new (by.len ∙ size) in
    subst (λ (xs : List Glyph). IsWritten c.min-self-inside.result xs) (sym (items_are ∙ by.line))
    (refitted_written (length f.cells.items) c.args.row.now c.min-self-inside.result (omega (arith, c.min-self-inside.ensures, c.len.ensures, size)))
