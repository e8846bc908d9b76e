use Rattle.std.proofs.Common.{sym, ap, ◌∙◌}
use Rattle.roam_cells.specs.Place.{glyph_at}
use Rattle.roam_term.specs.Ground.{shown_at}
use Rattle.roam_scroll_paint.proofs.Adding.{row_shows, adds_nothing}
use Rattle.roam_scroll_paint.proofs.drawing.draw_changed_row.Goals as goal

pub returns-then-are_same_cells : goal.returns-then-are_same_cells
returns-then-are_same_cells g c =
    let new = g.N.Seen.screen c.args.new.now in
    let same = c.are_same_cells.ensures.same.0 c.if-are_same_cells.true in
    record {
      row = λ places shows.
          adds_nothing places (shown_at new) new.cols c.args.row c.args.style c.args.text.now.items
          (λ k _. shows k ∙ ap (λ l. glyph_at l k) (same ∙ c.row.ensures.row)
          ∙ sym (row_shows new c.args.row k c.requires.row c.facts.ensures.screenshot.count));
    }

pub returns-then-known : goal.returns-then-known
returns-then-known g c =
    let new = g.N.Seen.screen c.args.new.now in
    record {
      row = λ places shows.
          adds_nothing places (shown_at new) new.cols c.args.row c.args.style c.args.text.now.items
          (λ k _. shows k ∙ c.requires.known c.if-known.true k);
    }
