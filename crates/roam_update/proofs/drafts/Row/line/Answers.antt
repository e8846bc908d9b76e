use Rattle.std.proofs.Common.{◌≡◌, Vec, length, subst, sym, ap, ◌∙◌, arith, rules}
use Rattle.std.specs.Prelude.{IsTrue}
use Rattle.std.specs.declared.alloc.Global.{Global}
use Rattle.roam_cells.specs.Glyph.{Glyph}
use Rattle.roam_cells.specs.Place.{AreWhole, IsWholeRow}
use Rattle.roam_update.specs.Drafts.{cells_of}
use Rattle.roam_update.proofs.Drafted.{one_line}
use Rattle.roam_update.proofs.drafts.Row.line.Goals as goal

pub returns-then-not-is_well_formed-clause-bad : goal.returns-then-not-is_well_formed-clause-bad
returns-then-not-is_well_formed-clause-bad c =
    λ e whole.
    let cols = c.args.cols in
    let same : c.deref.result.now ≡ c.args.self = c.deref.ensures.value ∙ ap (λ (v : Vec Glyph Global). v.items) c.in-Own.cells-is ∙ ap cells_of (sym c.in-Own.is) ∙ c.self.view_is in
    let long : length c.deref.result.now ≡ cols = ap length same ∙ c.requires.cols.1 in
    let all : AreWhole 1 cols c.deref.result.now = (one_line cols c.deref.result.now long).1 (subst IsWholeRow (sym same) whole) in
    let yes : IsTrue c.is_well_formed.result = (c.is_well_formed.ensures.rows 1 c.requires.cols.0 (omega (arith, long))).1 all in
    absurd (search rules)

pub returns-in_ok-line-in-Own-clause-whole : goal.returns-in_ok-line-in-Own-clause-whole
returns-in_ok-line-in-Own-clause-whole c =
    let cols = c.args.cols in
    let same : c.deref.result.now ≡ c.args.self = c.deref.ensures.value ∙ ap (λ (v : Vec Glyph Global). v.items) c.in-Own.cells-is ∙ ap cells_of (sym c.in-Own.is) ∙ c.self.view_is in
    let long : length c.deref.result.now ≡ cols = ap length same ∙ c.requires.cols.1 in
    let yes : IsTrue c.is_well_formed.result = search rules in
    subst IsWholeRow same ((one_line cols c.deref.result.now long).0 ((c.is_well_formed.ensures.rows 1 c.requires.cols.0 (omega (arith, long))).0 yes))
