use Rattle.std.proofs.Common.{◌≡◌, length, sym, ap, ◌∙◌, arith, ◌++◌}
use Rattle.std.specs.List.{flat_map}
use Rattle.roam_cells.specs.Place.{glyph_at}
use Rattle.roam_term.specs.Ground.{shown_at}
use Rattle.roam_scroll_paint.specs.Rows.{row_functions, row_style_left}
use Rattle.roam_scroll_paint.specs.Sequences.{text_of}
use Rattle.roam_scroll_paint.proofs.Adding.{row_shows, plan_of, adds_written}
use Rattle.roam_scroll_paint.proofs.Shortly.{marks_alike, adds_short}
use Rattle.roam_scroll_paint.proofs.plain.write_row.Goals as goal

pub returns-clause-row : goal.returns-clause-row
returns-clause-row g c =
    let new = g.N.Seen.screen c.args.new.now in
    let cells = c.row-cells.result.now in
    let marks = c.mark_differences.new.marks in
    let end = length cells in
    let n : length marks ≡ new.cols = omega arith in
    λ places shows.
    let plan =
    plan_of places (shown_at new) new.cols c.args.row end marks marks marks c.args.over.now cells
    c.row-cells.ensures.len n shows
    (λ k. row_shows new c.args.row k c.requires.row c.facts.ensures.screenshot.count ∙ ap (λ l. glyph_at l k) (sym c.row-cells.ensures.row))
    c.mark_differences.ensures.covers (λ k off. off) (λ k off. off) (omega arith) (λ k p q. absurd (omega (arith, p, q))) in
    adds_written places (shown_at new) new.cols c.args.row end c.args.style c.in_ok-left.left c.args.text.now.items c.push_row.new.text.items marks plan
    (c.in_ok-left.ensures.text ∙ ap (λ r. c.args.text.now.items ++ flat_map text_of (row_functions marks (shown_at new) new.cols r end c.args.style)) c.from.ensures)
    (c.in_ok-left.ensures.style ∙ ap (λ r. row_style_left marks (shown_at new) new.cols r end c.args.style) c.from.ensures)

pub returns-clause-few : goal.returns-clause-few
returns-clause-few g c =
    let new = g.N.Seen.screen c.args.new.now in
    let cells = c.row-cells.result.now in
    let marks = c.mark_differences.new.marks in
    let n : length marks ≡ length cells = omega arith in
    let k : length c.args.over.now ≡ length cells = omega arith in
    let tall = c.facts.ensures.screenshot.size.most_rows in
    let broad = c.facts.ensures.screenshot.size.most_columns in
    λ old was.
    adds_short old new c.args.row c.args.style c.in_ok-left.left marks c.args.text.now.items c.push_row.new.text.items
    (omega (arith, tall, c.requires.row)) (omega (arith, broad))
    (marks_alike old new c.args.row marks c.args.over.now cells n k c.mark_differences.ensures.differences was
    (λ j. row_shows new c.args.row j c.requires.row c.facts.ensures.screenshot.count ∙ ap (λ l. glyph_at l j) (sym c.row-cells.ensures.row)))
    (c.in_ok-left.ensures.text ∙ ap (λ r. c.args.text.now.items ++ flat_map text_of (row_functions marks (shown_at new) new.cols r (length cells) c.args.style)) c.from.ensures
    ∙ ap (λ e. c.args.text.now.items ++ flat_map text_of (row_functions marks (shown_at new) new.cols c.args.row e c.args.style)) c.row-cells.ensures.len)
    (c.in_ok-left.ensures.style ∙ ap (λ r. row_style_left marks (shown_at new) new.cols r (length cells) c.args.style) c.from.ensures
    ∙ ap (λ e. row_style_left marks (shown_at new) new.cols c.args.row e c.args.style) c.row-cells.ensures.len)
