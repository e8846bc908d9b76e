use Rattle.std.proofs.Common.{sym, subst, List, ◌∙◌, ◌<◌, inl, inr, arith, length}
use Rattle.std.proofs.lemmas.Bool.{cases_lt}
use Rattle.roam_cells.specs.Glyph.{Glyph}
use Rattle.roam_cells.specs.Place.{IsWholeRow}
use Rattle.roam_rows.proofs.Inking.{blanked_is, blanked_whole}
use Rattle.roam_rows.proofs.Edits.{parted_blank}
use Rattle.roam_rows.proofs.erasing.erase.Goals as goal

pub returns-clause-after : goal.returns-clause-after
returns-clause-after c =
    let a = c.args in
    let p = c.part_twice.ensures.parted in
    let f = c.blank_between.ensures in
    let end = c.min-end.ensures in
    let start = c.min.ensures in
    blanked_is a.from a.to a.row.now c.part_twice.new.row c.blank_between.new.cells c.requires.whole p (f.len ∙ p.len) c.requires.range.0
    (λ k h. elim (cases_lt k c.min.result) [
      | inl low ↦ f.before k low
      | inr high ↦ f.after k (omega arith)
    ])
    (λ k h j. elim (cases_lt k c.min-end.result) [
      | inl low ↦ f.inside k (omega arith) low
      | inr high ↦
          let q : k < length a.row.now = omega (arith, c.requires.range.1) in
          f.after k high ∙ parted_blank _ a.row.now c.part_twice.new.row p k q (c.requires.rest k (omega arith) q)
    ])
    (λ k h. f.after k (omega arith))

pub returns-clause-whole : goal.returns-clause-whole
returns-clause-whole c =
    subst (λ (xs : List Glyph). IsWholeRow xs) (sym (returns-clause-after c)) (blanked_whole c.args.from c.args.to c.args.row.now c.args.row.now c.args.row.now c.requires.whole)
