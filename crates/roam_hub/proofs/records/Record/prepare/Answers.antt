use Rattle.std.proofs.Common.{◌≡◌, ◌∙◌, ap, sym, inl, inr, subst, false}
use Rattle.std.specs.Prelude.{◌&&◌}
use Rattle.roam_hub.specs.Servers.{RecordView}
use Rattle.roam_hub.specs.Records.{is_sent_to, is_instruction_spent}
use Rattle.roam_hub.specs.Shared.{HoldsMade, Agree}
use Rattle.roam_hub.proofs.Waiting.{held_due}
use Rattle.roam_hub.proofs.Sharing.{held_made}
use Rattle.roam_hub.proofs.records.Record.prepare.Goals as goal

pub send-requires-clause-agree : goal.send-requires-clause-agree
send-requires-clause-agree c =
    let g = c.requires.together in
    subst (λ (v : RecordView). Agree v.version v.sender c.args.shared.now.changes.items) (sym c.in_ok-offered.ensures.held)
    (record {
      screens = g.screens;
      most = c.args.news.number;
      holds = held_made g.screens c.args.self.now c.args.news.number c.args.screen.now c.args.news.now g.last g.made.0;
      between = g.between;
    })

pub returns-in-Ok-clause-stay : goal.returns-in-Ok-clause-stay
returns-in-Ok-clause-stay c screens last m b =
    c.in-Ok.ensures.stay screens c.args.news.number
    (subst (λ (v : RecordView). HoldsMade screens c.args.news.number v.version v.sender) (sym c.in_ok-offered.ensures.held)
    (held_made screens c.args.self.now c.args.news.number c.args.screen.now c.args.news.now last m)) b

pub returns-in-Err-clause-fault : goal.returns-in-Err-clause-fault
returns-in-Err-clause-fault c =
    elim c.in-Err.ensures.fault [
      | inl m ↦ inl m
      | inr s ↦ inr (s.0, sym (ap (λ (v : RecordView). is_sent_to v c.args.news.now && is_instruction_spent v) c.in_ok-offered.ensures.held) ∙ s.1)
    ]

pub returns-in-Ok-clause-fit : goal.returns-in-Ok-clause-fit
returns-in-Ok-clause-fit c = subst (λ (v : RecordView). (is_sent_to v c.args.news.now && is_instruction_spent v) ≡ false)
    c.in_ok-offered.ensures.held c.in-Ok.ensures.fit

pub returns-in-Err-clause-err : goal.returns-in-Err-clause-err
returns-in-Err-clause-err c = c.take_back.ensures.back ∙ c.in_ok-offered.ensures.back

pub returns-in-Err-clause-memory : goal.returns-in-Err-clause-memory
returns-in-Err-clause-memory c =
    held_due c.args.self.now c.args.news.number c.args.screen.now c.args.news.now
    (sym (ap (λ (v : RecordView). is_sent_to v c.args.news.now) c.in_ok-offered.ensures.held) ∙ c.in-Err.ensures.memory)
