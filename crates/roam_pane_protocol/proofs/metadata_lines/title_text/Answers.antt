use Rattle.std.proofs.Common.{◌≡◌, ◌+◌, ◌++◌, ◌∷◌, [], take, sym, ap, ◌∙◌, rules}
use Rattle.std.specs.Prelude.{encode_utf8, encode_utf8_all}
use Rattle.std.proofs.lemmas.List.{take_more}
use Rattle.roam_pane_protocol.proofs.Titles.{one_more}
use Rattle.roam_pane_protocol.proofs.metadata_lines.title_text.Goals as goal

pub loop-at-preserved : goal.loop-at-preserved
loop-at-preserved c =
    let next : take (c.loop-at.at + 1) c.args.title.now ≡ take c.loop-at.at c.args.title.now ++ c.index-title-at.result ∷ [] =
    take_more c.args.title.now c.loop-at.at c.index-title-at.result (search rules) ∙ ap (λ x. take c.loop-at.at c.args.title.now ++ x ∷ []) (search rules) in
    c.in_ok-push.ensures.bytes
    ∙ ap (λ t. t ++ encode_utf8 c.index-title-at.result) c.loop-at.invariant
    ∙ sym (one_more (take c.loop-at.at c.args.title.now) c.index-title-at.result)
    ∙ ap encode_utf8_all (sym next)
