use Rattle.std.proofs.Common.{◌≡◌, ◌∙◌, ap, rules, subst, sym}
use Rattle.roam_terminal_input.specs.Lines.{IsFirst}
use Rattle.roam_pane_subscribers.proofs.Asked.{taken}
use Rattle.roam_pane_subscribers.proofs.subscribing.Subscriber.do_first.Goals as goal

pub returns-clause-takes : goal.returns-clause-takes
returns-clause-takes g c = λ h.
    let lines : c.say.new.self.lines ≡ c.args.self.now.lines = ap (λ f. f.lines) c.say.ensures.others in
    record {
      line = c.in-Some.line.now;
      first = taken c.args.self.now.lines.kept c.in-Some.line.now c.took.new.self.kept (search rules)
          (λ l rest is. c.took.ensures.took l rest (subst (λ k. IsFirst k.kept l rest) (sym lines) is));
      said = c.do_line-said.result.now;
      role = c.role_after-role.ensures.role;
      metadata_event = ap (λ f. f.metadata_event) c.say.ensures.others ∙ c.heard.ensures.asked;
      clips = ap (λ f. f.clips) c.say.ensures.others ∙ c.ask.ensures.asked;
      queries = ap (λ f. f.queries) c.say.ensures.others ∙ c.ask-2.ensures.asked;
      does = c.do_line-said.ensures.does;
      waits = c.say.ensures.said;
    }

pub returns-in_default-clause-done : goal.returns-in_default-clause-done
returns-in_default-clause-done g c = λ h. c.first.ensures.none c.in_default.is
