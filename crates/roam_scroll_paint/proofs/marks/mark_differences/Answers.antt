use Rattle.std.proofs.Common.{◌≡◌, ℕ, ◌<◌, false, not, length, inl, inr, sym, ap, ◌∙◌, arith}
use Rattle.std.specs.Prelude.{slice_index_or, slice_set}
use Rattle.std.proofs.lemmas.Bool.{cases_lt}
use Rattle.std.proofs.lemmas.List.{get_or_default, get_or-set_other}
use Rattle.std.proofs.lemmas.Grind.{get_or-set_at}
use Rattle.roam_cells.specs.Glyph.{blank}
use Rattle.roam_cells.specs.Place.{glyph_at}
use Rattle.roam_cells.specs.Same.{same}
use Rattle.roam_scroll_paint.proofs.marks.mark_differences.Goals as goal

pub loop-col-preserved : goal.loop-col-preserved
loop-col-preserved c =
    let marks = c.loop-col.marks in
    let i = c.loop-col.col in
    let over = c.args.over.now in
    let cells = c.args.cells.now in
    let v = c.is_other.result in
    let inside : i < length marks = omega arith in
    let set_here : (j : ℕ) → j ≡ i → slice_index_or (slice_set marks i v) j false ≡ v = λ j e. get_or-set_at marks i j v false e inside in
    let set_there : (j : ℕ) → j < i → slice_index_or (slice_set marks i v) j false ≡ slice_index_or marks j false =
    λ j k. get_or-set_other marks i j v false (λ e. absurd (omega (arith, k, e))) in
    let one : glyph_at over i ≡ c.index-over-col.result =
    get_or_default over i blank c.index-over-col.result (omega arith) ∙ sym c.index-over-col.is in
    let other : glyph_at cells i ≡ c.index-cells-col.result =
    get_or_default cells i blank c.index-cells-col.result (omega arith) ∙ sym c.index-cells-col.is in (
      (λ j k off. elim (cases_lt j i) [
        | inl p ↦ c.loop-col.invariant.0 j p (sym (set_there j p) ∙ off)
        | inr p ↦
            let e : j ≡ i = omega (arith, k, p) in
            ap (glyph_at over) e ∙ one ∙ c.is_other.ensures.same (sym (set_here j e) ∙ off) ∙ sym other ∙ sym (ap (glyph_at cells) e)
      ]),
      (λ j k. elim (cases_lt j i) [
        | inl p ↦ set_there j p ∙ c.loop-col.invariant.1 j p
        | inr p ↦
            let e : j ≡ i = omega (arith, k, p) in
            set_here j e ∙ c.is_other.ensures.other ∙ sym (ap (λ x. not (same x c.index-cells-col.result)) (ap (glyph_at over) e ∙ one))
            ∙ sym (ap (λ x. not (same (glyph_at over j) x)) (ap (glyph_at cells) e ∙ other))
      ]),
    )
