use Rattle.std.proofs.Common.{arith}
use Rattle.roam_layout.proofs.Pointing.{listed_place, listed_row, listed_col, listed_visible}
use Rattle.roam_layout.proofs.faces.cursor.Goals as goal

pub returns-clause-place : goal.returns-clause-place
returns-clause-place g c =
    listed_place c.args.layout.now (g.P.Pictures.shots c.args.pictures.now) c.facts.ensures.plan c.requires.pictures c.facts-2.ensures.screenshots
    c.focus_rect-rect.result
    c.focus.result c.cursor-row.result.0.0 c.cursor-row.result.0.1 c.focus_rect-rect.ensures.rect c.focus.ensures.focus
    c.cursor-row.ensures.row c.cursor-row.ensures.col

pub overflow_add-result : goal.overflow_add-result
overflow_add-result g c =
    let place = listed_place c.args.layout.now (g.P.Pictures.shots c.args.pictures.now) c.facts.ensures.plan c.requires.pictures c.facts-2.ensures.screenshots
    c.focus_rect-rect.result c.focus.result c.cursor-row.result.0.0 c.cursor-row.result.0.1 c.focus_rect-rect.ensures.rect
    c.focus.ensures.focus c.cursor-row.ensures.row c.cursor-row.ensures.col in
    omega (arith, place.row_to, c.facts.ensures.plan.size.1)

pub overflow_sub-result : goal.overflow_sub-result
overflow_sub-result g c =
    let place = listed_place c.args.layout.now (g.P.Pictures.shots c.args.pictures.now) c.facts.ensures.plan c.requires.pictures c.facts-2.ensures.screenshots
    c.focus_rect-rect.result c.focus.result c.cursor-row.result.0.0 c.cursor-row.result.0.1 c.focus_rect-rect.ensures.rect
    c.focus.ensures.focus c.cursor-row.ensures.row c.cursor-row.ensures.col in
    omega (arith, place.row_from)

pub overflow_add-result-2 : goal.overflow_add-result-2
overflow_add-result-2 g c = let place = returns-clause-place g c in omega (arith, place.col_to, c.facts.ensures.plan.size.3)

pub overflow_sub-result-2 : goal.overflow_sub-result-2
overflow_sub-result-2 g c = let place = returns-clause-place g c in omega (arith, place.col_from)

pub returns-clause-row : goal.returns-clause-row
returns-clause-row g c picture show =
    listed_row c.args.layout.now (g.P.Pictures.shots c.args.pictures.now) c.facts.ensures.plan c.requires.pictures c.facts-2.ensures.screenshots
    c.focus_rect-rect.result
    c.focus.result c.cursor-row.result.0.0 c.cursor-row.result.0.1 c.focus_rect-rect.ensures.rect c.focus.ensures.focus
    c.cursor-row.ensures.row c.cursor-row.ensures.col picture show

pub returns-clause-col : goal.returns-clause-col
returns-clause-col g c picture show =
    listed_col c.args.layout.now (g.P.Pictures.shots c.args.pictures.now) c.facts.ensures.plan c.requires.pictures c.facts-2.ensures.screenshots
    c.focus_rect-rect.result
    c.focus.result c.cursor-row.result.0.0 c.cursor-row.result.0.1 c.focus_rect-rect.ensures.rect c.focus.ensures.focus
    c.cursor-row.ensures.row c.cursor-row.ensures.col picture show

pub returns-clause-visible : goal.returns-clause-visible
returns-clause-visible g c picture show =
    listed_visible c.args.layout.now (g.P.Pictures.shots c.args.pictures.now) c.facts.ensures.plan c.requires.pictures c.facts-2.ensures.screenshots
    c.focus_rect-rect.result
    c.focus.result c.cursor-row.result.0.0 c.cursor-row.result.0.1 c.focus_rect-rect.ensures.rect c.focus.ensures.focus
    c.cursor-row.ensures.row c.cursor-row.ensures.col picture show c.cursor-row.result.1 c.cursor-row.ensures.visible
