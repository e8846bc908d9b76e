use Rattle.std.proofs.Common.{◌≡◌, true, refl, sym, ap, ◌∙◌, subst, rules}
use Rattle.roam_terminal_input.specs.Lines.{IsFirst}
use Rattle.roam_terminal_input.specs.declared.entries.Entry.TheVariants.{Events}
use Rattle.roam_outer_terminal.specs.Hearing.{may_take}
use Rattle.roam_outer_terminal.specs.Hearing.TakesWord.{taken}
use Rattle.roam_outer_terminal.proofs.terminal.Terminal.begin_records.Goals as goal

pub returns : goal.returns
returns g c =
    let old = c.args.self.now in
    let kept : c.open_records.new.self.lines.kept ≡ old.lines.kept = ap (λ t. t.lines.kept) c.open_records.ensures.opened in
    let predicting : c.took_line.new.self.predicting ≡ old.predicting =
    ap (λ t. t.predicting) c.took_line.ensures.others ∙ ap (λ t. t.predicting) c.open_records.ensures.opened in
    let may : may_take Events old.lines.count old.display_state ≡ true = search rules in
    record {
      begins = λ client.
          taken refl may (λ line rest first. c.took_line.ensures.took line rest (subst (λ l. IsFirst l line rest) (sym kept) first)) predicting
          (search rules);
    }
