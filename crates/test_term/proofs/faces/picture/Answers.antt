use Rattle.std.proofs.Common.{◌≡◌, ◌*◌, List, length, refl, sym, subst, ap, ◌∙◌, arith}
use Rattle.roam_cells.specs.Glyph.{Glyph}
use Rattle.roam_cells.specs.Place.{AreWhole}
use Rattle.test_term.proofs.faces.picture.Goals as goal

pub new-requires-clause-whole : goal.new-requires-clause-whole
new-requires-clause-whole c =
    let rows = c.args.rect.rows in
    let cells = c.in_ok-cells.cells.items in
    let size = c.in_ok-blank.ensures.size in
    let e : c.from-3.result ≡ c.args.rect.cols = c.from-3.ensures in
    let count : length c.deref.result.now ≡ rows * c.from-3.result =
    ap (λ (l : List Glyph). length l) c.deref.ensures.value
    ∙ (c.in_ok-cells.ensures.count ∙ (λ i. c.from.ensures i * (c.from-2.ensures ∙ sym e) i)) in
    subst (λ n. AreWhole rows n cells) e
    (subst (λ (l : List Glyph). AreWhole rows c.from-3.result l) c.deref.ensures.value
    ((c.if-not-is_well_formed.ensures.rows rows (omega (arith, e, size.least_columns)) count).0 refl))
