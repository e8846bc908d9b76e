use Rattle.std.proofs.Common.{◌≡◌, length, sym, ap, ◌∙◌, arith, ◌++◌}
use Rattle.std.specs.List.{flat_map}
use Rattle.roam_cells.specs.Place.{glyph_at}
use Rattle.roam_term.specs.Ground.{shown_at}
use Rattle.roam_scroll_paint.specs.Rows.{row_functions, row_style_left}
use Rattle.roam_scroll_paint.specs.Sequences.{text_of}
use Rattle.roam_scroll_paint.proofs.Adding.{row_shows, plan_of, adds_written}
use Rattle.roam_scroll_paint.proofs.drawing.draw_row.Goals as goal

pub returns : goal.returns
returns g c =
    let new = g.N.Seen.screen c.args.new.now in
    let cells = c.row-cells.result.now in
    let marks = c.end_of-end.new.marks in
    let end = c.end_of-end.result in
    let n : length marks ≡ new.cols = omega arith in
    record {
      row = λ places shows.
          let plan =
          plan_of places (shown_at new) new.cols c.args.row end c.mark_differences.new.marks c.mark_gaps.new.marks marks c.args.over.now cells
          c.row-cells.ensures.len n shows
          (λ k. row_shows new c.args.row k c.requires.row c.facts.ensures.screenshot.count ∙ ap (λ l. glyph_at l k) (sym c.row-cells.ensures.row))
          c.mark_differences.ensures.covers c.mark_gaps.ensures.keeps c.end_of-end.ensures.keeps c.end_of-end.ensures.inside c.end_of-end.ensures.blanks in
          adds_written places (shown_at new) new.cols c.args.row end c.args.style c.in_ok-left.left c.args.text.now.items c.push_row.new.text.items marks plan
          (c.in_ok-left.ensures.text ∙ ap (λ r. c.args.text.now.items ++ flat_map text_of (row_functions marks (shown_at new) new.cols r end c.args.style)) c.from-3.ensures)
          (c.in_ok-left.ensures.style ∙ ap (λ r. row_style_left marks (shown_at new) new.cols r end c.args.style) c.from-3.ensures);
    }
