use Rattle.std.proofs.Common.{◌≡◌, ◌∙◌, ◌*◌, ℕ, List, ap, length, replicate, sym, subst}
use Rattle.std.proofs.lemmas.List.{with_items_is}
use Rattle.std.specs.Vec.{with_items}
use Rattle.roam_cells.specs.Glyph.{Glyph}
use Rattle.roam_rows.specs.Turned.{IsTurned, in_order}
use Rattle.roam_rows.specs.Kept.{AreLengths}
use Rattle.roam_rows.proofs.Edits.{rows_by}
use Rattle.roam_rows.proofs.Starting.{filled_turned, full_lengths, constant_in_order}
use Rattle.roam_rows.proofs.rings.Ring.fill.Goals as goal
use Rattle.roam_rows.proofs.rings.Ring.fill.Goals.{After-fill-2}

cells_are : (c : After-fill-2) → (with_items c.self.inside.cells c.fill.new.self).items ≡ replicate (c.self.inside.rows * c.self.inside.cols) c.args.cell
cells_are c =
    let f = c.self.inside in
    let is = c.fill.ensures.after (λ y e. e) in
    let long = c.fill.ensures.len ∙ c.as_mut_slice.ensures.len in
    with_items_is f.cells c.fill.new.self long ∙ is ∙ ap (λ n. replicate n c.args.cell) (ap (length {A = Glyph}) c.as_mut_slice.ensures.value ∙ c.self.invariant.turned.size)

lengths_are : (c : After-fill-2) → (with_items c.self.inside.lengths c.fill-2.new.self).items ≡ replicate c.self.inside.rows c.self.inside.cols
lengths_are c =
    let f = c.self.inside in
    let is = c.fill-2.ensures.after (λ y e. e) in
    let long = c.fill-2.ensures.len ∙ c.as_mut_slice-2.ensures.len in
    with_items_is f.lengths c.fill-2.new.self long ∙ is ∙ ap (λ n. replicate n f.cols) (ap (length {A = ℕ}) c.as_mut_slice-2.ensures.value ∙ c.self.invariant.lengths.count)

pub invariant_of-self : goal.invariant_of-self
invariant_of-self c =
    let f = c.self.inside in
    let k = c.self.invariant in
    let h = (goal.at.invariant_of-self c).After-fill-2 in
    record {
      turned = subst (λ (xs : List Glyph). IsTurned f.rows f.cols f.first xs) (sym (cells_are h)) (filled_turned f.rows f.cols f.first c.args.cell f.cells.items k.turned c.requires.narrow);
      lengths = subst (λ (us : List ℕ). AreLengths f.rows f.cols (with_items f.cells c.fill.new.self).items us) (sym (lengths_are h)) (full_lengths f.rows f.cols (with_items f.cells c.fill.new.self).items);
    }

pub returns : goal.returns
returns c =
    let f = c.self.inside in
    let h = (goal.at.returns c).After-fill-2 in
    record { ring = rw (← c.self.view_is) (ap (rows_by f.rows f.cols f.first) (ap (in_order f.cols f.first) (cells_are h) ∙ constant_in_order f.rows f.cols f.first c.args.cell c.self.invariant.turned.first_in)) }
