use Rattle.std.proofs.Common.{◌≡◌, refl, sym, ap, ◌∙◌, subst, rules}
use Rattle.roam_terminal_input.specs.Lines.{IsFirst}
use Rattle.roam_outer_terminal.specs.Hearing.TakesWord.{taken}
use Rattle.roam_outer_terminal.proofs.terminal.Terminal.repaint.Goals as goal

pub returns : goal.returns
returns g c =
    let kept : c.forget_all.new.self.lines.kept ≡ c.args.self.now.lines.kept = ap (λ t. t.lines.kept) c.forget_all.ensures.forgotten in
    let predicting : c.took_line.new.self.predicting ≡ c.args.self.now.predicting =
    ap (λ t. t.predicting) c.took_line.ensures.others ∙ ap (λ t. t.predicting) c.forget_all.ensures.forgotten in
    record {
      anew = λ client.
          taken refl refl (λ line rest first. c.took_line.ensures.took line rest (subst (λ l. IsFirst l line rest) (sym kept) first)) predicting
          (search rules);
    }
