use Rattle.std.proofs.Common.{None, ap, ◌∙◌, ◌++◌}
use Rattle.std.specs.List.{flat_map}
use Rattle.roam_scroll_paint.specs.Bands.{preparing}
use Rattle.roam_scroll_paint.specs.Sequences.{text_of}
use Rattle.roam_scroll_paint.proofs.Shortly.{short_body}
use Rattle.roam_scroll_paint.proofs.painting.push_plain_body.Goals as goal

pub returns-clause-few : goal.returns-clause-few
returns-clause-few g c =
    let before = c.args.text.now.items in
    let place = c.facts.ensures.screenshot.cursor in
    short_body (g.O.Seen.screen c.args.old.now) (g.N.Seen.screen c.args.new.now) c.in_ok-style.style before
    c.push_preparing.new.text.items c.write_rows.new.text.items c.push_settling.new.text.items place.row_from place.col_from
    (c.in_ok-push_preparing.ensures.text ∙ ap (λ b. before ++ flat_map text_of (preparing b None)) c.is_same_size.ensures.same)
    c.in_ok-style.ensures.few c.in_ok-push_settling.ensures.text
