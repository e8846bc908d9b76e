use Rattle.std.proofs.Common.{◌++◌, map, ◌∙◌, ap}
use Rattle.roam_text.specs.Log.{Byte}
use Rattle.roam_term.specs.Picture.{picture}
use Rattle.roam_show.specs.ShowText.{show_text, screen_text, output_line}
use Rattle.roam_show.proofs.show.text_of.Goals as goal

pub returns-clause-text : goal.returns-clause-text
unfolding show_text
returns-clause-text c rows cols log shows reported =
    let shot = c.in_ok-shot.ensures.picture rows cols 500 (map Byte log) shows in
    c.in_ok-push_output.ensures.text
    ∙ ap (λ t. t ++ output_line c.args.report.now) (c.in_ok-push_screen.ensures.text ∙ ap (λ t. t ++ screen_text c.in_ok-shot.shot) c.new-text.ensures.bytes)
    ∙ ap (λ s. screen_text s ++ output_line c.args.report.now) shot
    ∙ ap (λ r. screen_text (picture rows cols 500 (map Byte log) 0) ++ output_line r) reported
