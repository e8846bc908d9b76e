use Rattle.std.proofs.Common.{◌≡◌, ◌∙◌, ◌+◌, ◌-◌, ◌++◌, List, drop, true, ap, arith, sym, length, length-set, set, ltb}
use Rattle.std.proofs.lemmas.List.{get_or_default}
use Rattle.roam_cells.specs.Glyph.{Glyph, is_wide, blank}
use Rattle.roam_cells.specs.Place.{glyph_at}
use Rattle.roam_rows.specs.Row.{mended_glyph}
use Rattle.roam_rows.proofs.Sizes.{mid_long, uncut_each, cut_each, cut_whole}
use Rattle.roam_rows.proofs.sizing.cut_into.Goals as goal

pub returns-then-is_wide-clause-each : goal.returns-then-is_wide-clause-each
returns-then-is_wide-clause-each c =
    let S = c.args.source.now in
    let row = c.args.row.now in
    let k = c.min-count.result in
    let M : List Glyph = c.copy_from_slice.new.self ++ drop k row in
    let M_is = ap (λ (l : List Glyph). l ++ drop k row) c.copy_from_slice.ensures.after in
    let long : length M ≡ length row = mid_long S row M k c.min-count.ensures c.requires.empty c.requires.whole M_is in
    let last = c.index-row-count.result in
    let last_is : last ≡ glyph_at M (k - 1) = c.index-row-count.is ∙ get_or_default M (k - 1) last blank (omega (arith, long, c.min-count.ensures, c.if-count-gt0.true)) in
    let wide : is_wide last ≡ true = sym c.is_wide.ensures.wide ∙ c.if-is_wide.true in
    let size : length (set M (k - 1) c.space_in.result) ≡ length row = length-set M (k - 1) c.space_in.result ∙ long in
    λ j q. ap (λ (x : Glyph). glyph_at (set M (k - 1) x) j) c.space_in.ensures.cell
    ∙ cut_each S row M k c.min-count.ensures c.requires.empty c.requires.whole M_is last c.if-count-gt0.true last_is wide j (omega (arith, size))
    ∙ ap (λ n. mended_glyph (glyph_at S j) (ltb (j + 1) n) true) (sym size)

pub returns-then-is_wide-clause-whole : goal.returns-then-is_wide-clause-whole
returns-then-is_wide-clause-whole c =
    let S = c.args.source.now in
    let row = c.args.row.now in
    let k = c.min-count.result in
    let M : List Glyph = c.copy_from_slice.new.self ++ drop k row in
    let M_is = ap (λ (l : List Glyph). l ++ drop k row) c.copy_from_slice.ensures.after in
    let long : length M ≡ length row = mid_long S row M k c.min-count.ensures c.requires.empty c.requires.whole M_is in
    let size : length (set M (k - 1) c.space_in.result) ≡ length row = length-set M (k - 1) c.space_in.result ∙ long in
    cut_whole S row M k c.min-count.ensures c.requires.empty c.requires.whole M_is (set M (k - 1) c.space_in.result) size
    (λ j q. returns-then-is_wide-clause-each c j (omega (arith, size)) ∙ ap (λ n. mended_glyph (glyph_at S j) (ltb (j + 1) n) true) size)

pub returns-else-is_wide-clause-each : goal.returns-else-is_wide-clause-each
returns-else-is_wide-clause-each c =
    let S = c.args.source.now in
    let row = c.args.row.now in
    let k = c.min-count.result in
    let M : List Glyph = c.copy_from_slice.new.self ++ drop k row in
    let M_is = ap (λ (l : List Glyph). l ++ drop k row) c.copy_from_slice.ensures.after in
    let long : length M ≡ length row = mid_long S row M k c.min-count.ensures c.requires.empty c.requires.whole M_is in
    let last = c.index-row-count.result in
    let last_is : last ≡ glyph_at M (k - 1) = c.index-row-count.is ∙ get_or_default M (k - 1) last blank (omega (arith, long, c.min-count.ensures, c.if-count-gt0.true)) in
    λ j q. uncut_each S row M k c.min-count.ensures c.requires.empty c.requires.whole M_is (λ p. ap is_wide (sym last_is) ∙ sym c.is_wide.ensures.wide ∙ c.if-is_wide.false) j (omega (arith, long))
    ∙ ap (λ n. mended_glyph (glyph_at S j) (ltb (j + 1) n) true) (sym long)

pub returns-else-is_wide-clause-whole : goal.returns-else-is_wide-clause-whole
returns-else-is_wide-clause-whole c =
    let S = c.args.source.now in
    let row = c.args.row.now in
    let k = c.min-count.result in
    let M : List Glyph = c.copy_from_slice.new.self ++ drop k row in
    let M_is = ap (λ (l : List Glyph). l ++ drop k row) c.copy_from_slice.ensures.after in
    let long : length M ≡ length row = mid_long S row M k c.min-count.ensures c.requires.empty c.requires.whole M_is in
    cut_whole S row M k c.min-count.ensures c.requires.empty c.requires.whole M_is M long
    (λ j q. returns-else-is_wide-clause-each c j (omega (arith, long)) ∙ ap (λ n. mended_glyph (glyph_at S j) (ltb (j + 1) n) true) long)

pub returns-else-count-gt0-clause-each : goal.returns-else-count-gt0-clause-each
returns-else-count-gt0-clause-each c =
    let S = c.args.source.now in
    let row = c.args.row.now in
    let k = c.min-count.result in
    let M : List Glyph = c.copy_from_slice.new.self ++ drop k row in
    let M_is = ap (λ (l : List Glyph). l ++ drop k row) c.copy_from_slice.ensures.after in
    let long : length M ≡ length row = mid_long S row M k c.min-count.ensures c.requires.empty c.requires.whole M_is in
    λ j q. uncut_each S row M k c.min-count.ensures c.requires.empty c.requires.whole M_is (λ p. absurd (omega (arith, p, c.if-count-gt0.false))) j (omega (arith, long))
    ∙ ap (λ n. mended_glyph (glyph_at S j) (ltb (j + 1) n) true) (sym long)

pub returns-else-count-gt0-clause-whole : goal.returns-else-count-gt0-clause-whole
returns-else-count-gt0-clause-whole c =
    let S = c.args.source.now in
    let row = c.args.row.now in
    let k = c.min-count.result in
    let M : List Glyph = c.copy_from_slice.new.self ++ drop k row in
    let M_is = ap (λ (l : List Glyph). l ++ drop k row) c.copy_from_slice.ensures.after in
    let long : length M ≡ length row = mid_long S row M k c.min-count.ensures c.requires.empty c.requires.whole M_is in
    cut_whole S row M k c.min-count.ensures c.requires.empty c.requires.whole M_is M long
    (λ j q. returns-else-count-gt0-clause-each c j (omega (arith, long)) ∙ ap (λ n. mended_glyph (glyph_at S j) (ltb (j + 1) n) true) long)
