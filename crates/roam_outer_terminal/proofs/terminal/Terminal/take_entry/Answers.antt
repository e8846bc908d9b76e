use Rattle.std.proofs.Common.{◌≡◌, true, false, refl, sym, ap, subst, rules}
use Rattle.roam_terminal_input.specs.Entries.{acts_in}
use Rattle.roam_terminal_input.specs.Lines.{IsFirst}
use Rattle.roam_terminal_input.specs.declared.entries.Entry.TheVariants.{Events, Repaint, Watch, Look, LookStyled, Show}
use Rattle.roam_outer_terminal.specs.Hearing.{TakesEntry, TypesLine, may_take, taking_of}
use Rattle.roam_outer_terminal.specs.Hearing.TakesEntry.{taken}
use Rattle.roam_outer_terminal.specs.Terminals.{Predictions, IsSet}
use Rattle.roam_outer_terminal.proofs.TakenLines.{acts_taken, paste_taken, word_taken, word_types}
use Rattle.roam_outer_terminal.proofs.terminal.Terminal.take_entry.Goals as goal

pub returns-in-Acts-clause-takes : goal.returns-in-Acts-clause-takes
returns-in-Acts-clause-takes g c =
    subst (λ e. TakesEntry e c.args.self.now c.type_acts.new.self c.args.client.now c.type_acts.new.client c.type_acts.result)
    (sym c.in-Acts.is)
    (acts_taken c.args.self.now c.type_acts.new.self c.args.client.now c.type_acts.new.client c.type_acts.result c.in-Acts.acts
    (subst (λ l. TypesLine false l c.args.self.now c.type_acts.new.self c.args.client.now c.type_acts.new.client c.type_acts.result)
    c.deref.ensures.value c.type_acts.ensures.types))

pub returns-in-Paste-clause-takes : goal.returns-in-Paste-clause-takes
returns-in-Paste-clause-takes g c =
    subst (λ e. TakesEntry e c.args.self.now c.type_acts-in-Paste.new.self c.args.client.now c.type_acts-in-Paste.new.client c.type_acts-in-Paste.result)
    (sym c.in-Paste.is)
    (paste_taken c.args.self.now c.type_acts-in-Paste.new.self c.args.client.now c.type_acts-in-Paste.new.client c.type_acts-in-Paste.result
    c.in-Paste.acts
    (subst
    (λ l. TypesLine true l c.args.self.now c.type_acts-in-Paste.new.self c.args.client.now c.type_acts-in-Paste.new.client c.type_acts-in-Paste.result)
    c.deref-in-Paste.ensures.value c.type_acts-in-Paste.ensures.types))

pub returns-in-Prediction-clause-takes : goal.returns-in-Prediction-clause-takes
returns-in-Prediction-clause-takes g c =
    let kept : c.set_predicting.new.self.lines.kept ≡ c.args.self.now.lines.kept = ap (λ t. t.lines.kept) c.set_predicting.ensures.others in
    let is = c.in-Prediction.is in
    let old = c.args.self.now in
    taken (sym (ap (taking_of old.watches) is)) (ap (λ e. may_take e old.lines.count old.display_state) is)
    (λ line rest first. c.took_line.ensures.took line rest (subst (λ l. IsFirst l line rest) (sym kept) first))
    (word_types old.watches c.args.entry.now c.args.client.now (ap acts_in is))
    (subst (λ e. Predictions old.watches e c.args.client.now old.predicting c.took_line.new.self.predicting) (sym is)
    (subst (IsSet c.in-Prediction.predicting old.watches) (sym (ap (λ t. t.predicting) c.took_line.ensures.others)) c.set_predicting.ensures.set))
    (search rules)

pub returns-in-Events-clause-takes : goal.returns-in-Events-clause-takes
returns-in-Events-clause-takes g c =
    subst (λ e. TakesEntry e c.args.self.now c.begin_records.new.self c.args.client.now c.args.client.now c.begin_records.result) (sym c.in-Events.is)
    (word_taken c.args.self.now c.begin_records.new.self c.args.client.now c.args.client.now c.begin_records.result Events refl (λ same. same)
    (c.begin_records.ensures.begins c.args.client.now))

pub returns-in-Repaint-clause-takes : goal.returns-in-Repaint-clause-takes
returns-in-Repaint-clause-takes g c =
    subst (λ e. TakesEntry e c.args.self.now c.repaint.new.self c.args.client.now c.args.client.now c.repaint.result) (sym c.in-Repaint.is)
    (word_taken c.args.self.now c.repaint.new.self c.args.client.now c.args.client.now c.repaint.result Repaint refl (λ same. same)
    (c.repaint.ensures.anew c.args.client.now))

pub returns-in-Watch-clause-takes : goal.returns-in-Watch-clause-takes
returns-in-Watch-clause-takes g c =
    subst (λ e. TakesEntry e c.args.self.now c.watch.new.self c.args.client.now c.args.client.now c.watch.result) (sym c.in-Watch.is)
    (word_taken c.args.self.now c.watch.new.self c.args.client.now c.args.client.now c.watch.result Watch refl (λ same. same)
    (c.watch.ensures.watches c.args.client.now))

pub returns-in-Look-clause-takes : goal.returns-in-Look-clause-takes
returns-in-Look-clause-takes g c =
    subst (λ e. TakesEntry e c.args.self.now c.look.new.self c.args.client.now c.args.client.now c.look.result) (sym c.in-Look.is)
    (word_taken c.args.self.now c.look.new.self c.args.client.now c.args.client.now c.look.result Look refl (λ same. same)
    (c.look.ensures.looks c.args.client.now))

pub returns-in-LookStyled-clause-takes : goal.returns-in-LookStyled-clause-takes
returns-in-LookStyled-clause-takes g c =
    subst (λ e. TakesEntry e c.args.self.now c.look-in-LookStyled.new.self c.args.client.now c.args.client.now c.look-in-LookStyled.result) (sym c.in-LookStyled.is)
    (word_taken c.args.self.now c.look-in-LookStyled.new.self c.args.client.now c.args.client.now c.look-in-LookStyled.result LookStyled refl (λ same. same)
    (c.look-in-LookStyled.ensures.looks c.args.client.now))

pub returns-in-Show-clause-takes : goal.returns-in-Show-clause-takes
returns-in-Show-clause-takes g c =
    subst (λ e. TakesEntry e c.args.self.now c.show.new.self c.args.client.now c.args.client.now c.show.result) (sym c.in-Show.is)
    (word_taken c.args.self.now c.show.new.self c.args.client.now c.args.client.now c.show.result (Show c.in-Show.showing) refl
    (λ same. same) (c.show.ensures.shows c.args.client.now))
