use Rattle.std.proofs.Common.{true, sym, ap, ◌∙◌, ◌++◌}
use Rattle.std.specs.List.{flat_map}
use Rattle.std.proofs.lemmas.Bool.{false≢true}
use Rattle.roam_scroll_paint.specs.Painting.{hiding, revealing}
use Rattle.roam_scroll_paint.specs.Sequences.{text_of}
use Rattle.roam_scroll_paint.proofs.Settled.{painting_is}
use Rattle.roam_scroll_paint.proofs.Shortly.{short_whole}
use Rattle.roam_scroll_paint.proofs.painting.plain_text.Goals as goal

pub returns-clause-painting : goal.returns-clause-painting
returns-clause-painting g c =
    let old = g.O.Seen.screen c.args.old.now in
    let new = g.N.Seen.screen c.args.new.now in
    let body = c.in_ok-body.body.items in
    let first = flat_map text_of (hiding true) in
    painting_is old new body c.in_ok-text.text.items true c.in_ok-body.ensures.body (λ e. absurd (false≢true (sym e)))
    (c.in_ok-text.ensures.text ∙ ap (λ l. first ++ (l ++ flat_map text_of (revealing true c.visible.result))) c.deref.ensures.value
    ∙ ap (λ b. first ++ (body ++ flat_map text_of (revealing true b))) c.visible.ensures.visible)

pub returns-clause-shorter : goal.returns-clause-shorter
returns-clause-shorter g c =
    let old = g.O.Seen.screen c.args.old.now in
    let new = g.N.Seen.screen c.args.new.now in
    let body = c.in_ok-body.body.items in
    let first = flat_map text_of (hiding true) in
    short_whole old new body c.in_ok-text.text.items c.in_ok-body.ensures.few
    (c.in_ok-text.ensures.text ∙ ap (λ l. first ++ (l ++ flat_map text_of (revealing true c.visible.result))) c.deref.ensures.value
    ∙ ap (λ b. first ++ (body ++ flat_map text_of (revealing true b))) c.visible.ensures.visible)
