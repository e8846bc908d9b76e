use Rattle.std.proofs.Common.{◌≡◌, ◌+◌, ◌*◌, ◌/◌, ◌%◌, refl, ap, ◌∙◌, arith}
use Rattle.roam_cells.specs.Glyph.{Glyph}
use Rattle.roam_cells.proofs.Words.{same_shape, kept_as, shown_as}
use Rattle.roam_cells.proofs.cells.Cell.with_ink.Goals as goal

pub invariant_of-cell : goal.invariant_of-cell
invariant_of-cell c =
    let old = c.cell.inside.word in
    let number = c.number.result in
    let word = old % 8 + 8 * number in
    let same = same_shape word old (omega arith) in
    let kept = c.cell.invariant in
    let shows : word / 8 ≡ number = omega arith in
    kept_as c.cell.inside.points _ _ number word _ refl kept.scalars kept.rest kept.width kept.text c.number.ensures.ink same.0 same.1 shows

pub returns : goal.returns
returns c =
    let old = c.cell.inside.word in
    let number = c.number.result in
    let word = old % 8 + 8 * number in
    let same = same_shape word old (omega arith) in
    let shows : word / 8 ≡ number = omega arith in
    record {
      cell = shown_as c.cell.inside.points _ _ number word c.args.ink refl same.0 shows c.number.ensures.number
          ∙ ap (λ (g : Glyph). record { points = g.points; style = c.args.ink.style; guarded = c.args.ink.guarded }) c.cell.view_is;
    }
