use Rattle.std.proofs.Common.{List, ℕ, ◌<◌, subst, ◌∙◌, arith}
use Rattle.std.specs.List.{All}
use Rattle.roam_layout.specs.Status.{IsPrintable}
use Rattle.roam_layout.proofs.Facing.{row_text, text_sound, row_segments, row_sound, free_sound}
use Rattle.roam_layout.proofs.faces.push_row.Goals as goal

pub returns-in_ok-push_text-clause-row : goal.returns-in_ok-push_text-clause-row
returns-in_ok-push_text-clause-row g c picture show =
    row_text c.args.layout.now picture c.args.row c.deref.result.now c.args.cells.now.items c.push_text.new.cells.items
    (c.if-row-rows.true ∙ c.rows.ensures.rows) (c.deref.ensures.value ∙ c.in_ok-text.ensures.text) c.in_ok-push_text.ensures.text

pub returns-in_ok-push_text-clause-whole : goal.returns-in_ok-push_text-clause-whole
returns-in_ok-push_text-clause-whole g c picture show =
    (text_sound c.args.layout.now picture c.args.row (c.if-row-rows.true ∙ c.rows.ensures.rows)
    (subst (λ (l : List ℕ). All IsPrintable l) c.in_ok-text.ensures.text c.in_ok-text.ensures.printable)).whole

pub returns-in_ok-push_text-clause-unguarded : goal.returns-in_ok-push_text-clause-unguarded
returns-in_ok-push_text-clause-unguarded g c picture show =
    free_sound _ (text_sound c.args.layout.now picture c.args.row (c.if-row-rows.true ∙ c.rows.ensures.rows)
    (subst (λ (l : List ℕ). All IsPrintable l) c.in_ok-text.ensures.text c.in_ok-text.ensures.printable))

pub returns-in_ok-push_segments-clause-row : goal.returns-in_ok-push_segments-clause-row
returns-in_ok-push_segments-clause-row g c picture show =
    let high : c.args.row < c.args.layout.now.rows = omega (arith, c.if-row-rows.false, c.rows.ensures.rows, c.requires.row.1) in
    row_segments c.args.layout.now picture c.args.row (g.P.Pictures.shots c.args.pictures.now) c.facts.ensures.plan c.requires.pictures show
    c.facts-2.ensures.screenshots
    c.requires.row.0 high c.rects.result.now c.borders.result.now c.args.cells.now.items c.push_segments.new.cells.items c.rects.ensures.rects
    c.borders.ensures.borders c.in_ok-push_segments.ensures.segments

pub returns-in_ok-push_segments-clause-whole : goal.returns-in_ok-push_segments-clause-whole
returns-in_ok-push_segments-clause-whole g c picture show =
    let high : c.args.row < c.args.layout.now.rows = omega (arith, c.if-row-rows.false, c.rows.ensures.rows, c.requires.row.1) in
    (row_sound c.args.layout.now picture c.args.row (g.P.Pictures.shots c.args.pictures.now) c.facts.ensures.plan c.requires.pictures show
    c.facts-2.ensures.screenshots
    c.requires.row.0 high).whole

pub returns-in_ok-push_segments-clause-unguarded : goal.returns-in_ok-push_segments-clause-unguarded
returns-in_ok-push_segments-clause-unguarded g c picture show =
    let high : c.args.row < c.args.layout.now.rows = omega (arith, c.if-row-rows.false, c.rows.ensures.rows, c.requires.row.1) in
    free_sound _ (row_sound c.args.layout.now picture c.args.row (g.P.Pictures.shots c.args.pictures.now) c.facts.ensures.plan c.requires.pictures show
    c.facts-2.ensures.screenshots c.requires.row.0 high)
