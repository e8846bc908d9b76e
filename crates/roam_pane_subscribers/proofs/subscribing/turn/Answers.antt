use Rattle.std.proofs.Common.{◌∙◌, ap, rules}
use Rattle.std.proofs.lemmas.Fn.{filter_same}
use Rattle.roam_pane_subscribers.specs.Subscribing.{is_there, turned}
use Rattle.roam_pane_subscribers.proofs.Telling.{few_turned}
use Rattle.roam_pane_subscribers.proofs.subscribing.turn.Goals as goal

pub returns-then-len-gt1 : goal.returns-then-len-gt1
returns-then-len-gt1 g c =
    let kept = filter_same _ is_there _ (λ x b f' k. search rules) _ _ c.retain.ensures.filtered in
    record { turned = c.rotate_left.ensures.items ∙ ap turned kept }

pub returns-else-len-gt1 : goal.returns-else-len-gt1
returns-else-len-gt1 g c =
    let kept = filter_same _ is_there _ (λ x b f' k. search rules) _ _ c.retain.ensures.filtered in
    record { turned = few_turned _ (search rules) ∙ ap turned kept }
