use Rattle.std.proofs.Common.{◌≡◌, false, refl, sym, ap, ◌∙◌, subst, rules}
use Rattle.roam_terminal_input.specs.Lines.{IsFirst}
use Rattle.roam_outer_terminal.specs.Hearing.TypesLine.{typed}
use Rattle.roam_outer_terminal.specs.Terminals.{Types, acts_by, first_number, predictions_after, predictions_by}
use Rattle.roam_outer_terminal.proofs.TakenLines.{types_all}
use Rattle.roam_outer_terminal.proofs.terminal.Terminal.type_acts.Goals as goal

pub returns-in-Ok-clause-types : goal.returns-in-Ok-clause-types
returns-in-Ok-clause-types g c =
    let old = c.args.self.now in
    let client = c.args.client.now in
    let acts = c.args.acts.now in
    let heard : old.watches ≡ false = c.if-self.false in
    let kept : c.prediction.new.self.lines.kept ≡ old.lines.kept = ap (λ t. t.lines.kept) c.prediction.ensures.others in
    let types = types_all acts client c.typed_all.new.self c.in-Ok.ensures.typed in
    let predictions : c.prediction.new.self.predicting
    ≡ predictions_after c.args.is_pasted (first_number client) acts client.kept.receiver.newest.state old.predicting = search rules in
    let after : c.took_line-in-Ok.new.self.predicting ≡ c.prediction.new.self.predicting = ap (λ t. t.predicting) c.took_line-in-Ok.ensures.others in
    typed refl (λ line rest is. c.took_line-in-Ok.ensures.took line rest (subst (λ l. IsFirst l line rest) (sym kept) is))
    (subst (λ w. Types (acts_by w acts) client c.typed_all.new.self) (sym heard) types)
    (after ∙ (predictions ∙ sym (ap (λ w. predictions_by w c.args.is_pasted acts client old.predicting) heard)))
    (search rules)
