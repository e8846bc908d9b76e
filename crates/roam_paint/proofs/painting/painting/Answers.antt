use Rattle.std.proofs.Common.{◌≡◌, [], ◌++◌, ap, ◌∙◌}
use Rattle.roam_paint.specs.Painting.{same_size}
use Rattle.roam_paint.specs.Texts.{rows_text, opening_text, closing_text}
use Rattle.roam_paint.proofs.Loops.{painted_text}
use Rattle.roam_paint.proofs.painting.painting.Goals as goal

pub returns : goal.returns
returns g c =
    let old = (g.O.Seen.screen c.args.old.now) in
    let new = (g.N.Seen.screen c.args.new.now) in
    let first : c.open_painting.new.text.items ≡ opening_text (same_size old new) =
    c.in_ok-open_painting.ensures.text ∙ ap (λ l. l ++ opening_text c.is_same_size.result) c.new-text.ensures.items
    ∙ ap opening_text c.is_same_size.ensures.same in
    let body = opening_text (same_size old new) ++ rows_text old new new.rows in
    record {
      text = c.in_ok-close_painting.ensures.text
          ∙ ap (λ l. l ++ closing_text c.cursor.result.0 c.cursor.result.1 c.visible.result)
          (c.in_ok-paint_rows.ensures.text ∙ ap (λ l. l ++ rows_text old new new.rows) first)
          ∙ ap (λ k. body ++ closing_text k c.cursor.result.1 c.visible.result) c.cursor.ensures.row
          ∙ ap (λ k. body ++ closing_text new.cursor_row k c.visible.result) c.cursor.ensures.col
          ∙ ap (λ k. body ++ closing_text new.cursor_row new.cursor_col k) c.visible.ensures.visible
          ∙ painted_text [] old new;
    }
