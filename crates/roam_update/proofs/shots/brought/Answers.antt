use Rattle.std.proofs.Common.{List, length, subst, sym, ap, ◌∙◌}
use Rattle.std.proofs.lemmas.List.Elements.{All-get_or}
use Rattle.roam_cells.specs.Glyph.{Glyph, blank}
use Rattle.roam_cells.specs.Place.{AreWhole, AreUnguarded}
use Rattle.roam_update.specs.CellText.{IsPlain}
use Rattle.roam_update.proofs.Plain.{sized_plain}
use Rattle.roam_update.proofs.Sizing.{length_sized}
use Rattle.roam_update.proofs.Touching.{sized_whole}
use Rattle.roam_update.proofs.shots.brought.Goals as goal

pub new-requires-clause-count : goal.new-requires-clause-count
new-requires-clause-count g c =
    ap length c.in_ok-cells.ensures.cells ∙ length_sized c.args.rows c.args.cols (g.B.Seen.screen c.args.base.now)

pub new-requires-clause-whole : goal.new-requires-clause-whole
new-requires-clause-whole g c =
    subst (λ (cells : List Glyph). AreWhole c.args.rows c.args.cols cells) (sym c.in_ok-cells.ensures.cells)
    (sized_whole c.args.rows c.args.cols (g.B.Seen.screen c.args.base.now) c.facts.ensures.screenshot)

pub new-requires-clause-unguarded : goal.new-requires-clause-unguarded
new-requires-clause-unguarded g c =
    let s = g.B.Seen.screen c.args.base.now in
    let plain = sized_plain c.args.rows c.args.cols s c.facts.ensures.screenshot in
    subst AreUnguarded (sym c.in_ok-cells.ensures.cells) (λ k p. (All-get_or IsPlain _ k blank p plain).unguarded)
