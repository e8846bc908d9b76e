use Rattle.std.proofs.Common.{sym, ap, ◌∙◌}
use Rattle.roam_cells.specs.Place.{glyph_at}
use Rattle.roam_term.specs.Ground.{shown_at}
use Rattle.roam_scroll_paint.proofs.Adding.{row_shows, adds_nothing}
use Rattle.roam_scroll_paint.proofs.Shortly.{adds_none}
use Rattle.roam_scroll_paint.proofs.plain.write_changed_row.Goals as goal

pub returns-then-are_same_cells-clause-row : goal.returns-then-are_same_cells-clause-row
returns-then-are_same_cells-clause-row g c =
    let new = g.N.Seen.screen c.args.new.now in
    let same = c.are_same_cells.ensures.same.0 c.if-are_same_cells.true in
    λ places shows.
    adds_nothing places (shown_at new) new.cols c.args.row c.args.style c.args.text.now.items
    (λ k _. shows k ∙ ap (λ l. glyph_at l k) (same ∙ c.row.ensures.row)
    ∙ sym (row_shows new c.args.row k c.requires.row c.facts.ensures.screenshot.count))

pub returns-then-are_same_cells-clause-few : goal.returns-then-are_same_cells-clause-few
returns-then-are_same_cells-clause-few g c =
    let new = g.N.Seen.screen c.args.new.now in
    let same = c.are_same_cells.ensures.same.0 c.if-are_same_cells.true in
    λ old was.
    adds_none old new c.args.row c.args.style c.args.text.now.items
    (λ k. was k ∙ ap (λ l. glyph_at l k) (same ∙ c.row.ensures.row)
    ∙ sym (row_shows new c.args.row k c.requires.row c.facts.ensures.screenshot.count))
