use Rattle.std.proofs.Common.{ℕ, ◌<◌, ◌^◌, ◌∙◌, ap, sym, subst, arith}
use Rattle.roam_screens.specs.Screenshot.{Screenshot}
use Rattle.roam_sync.specs.Senders.{Sending, newest}
use Rattle.roam_hub.specs.Ends.{sending_of}
use Rattle.roam_hub.specs.Servers.{RecordView}
use Rattle.roam_hub.proofs.Addressing.{newest_sent, base_sent}
use Rattle.roam_hub.proofs.records.Record.settle.Goals as goal

pub invariant_of-self : goal.invariant_of-self
invariant_of-self c =
    let numbers = rw c.in-Some.is at c.requires.numbers in
    let datagrams = ap (λ (v : RecordView). v.datagrams) c.self.view_is in
    let instructions = ap (λ (v : RecordView). v.instructions) c.self.view_is in
    let few = numbers.0 in
    let more = numbers.1 in (
      c.self.invariant.0,
      subst (λ (n : ℕ). n < 2 ^ 62)
          (sym (ap (λ (s : Sending Screenshot). (newest s).number) c.sent.ensures.sent
          ∙ newest_sent (sending_of c.self.inside.sender) c.args.now))
          c.self.invariant.1,
      omega (arith, few, datagrams),
      omega (arith, more, instructions),
      sym (ap (λ (s : Sending Screenshot). s.last) c.sent.ensures.sent),
      c.self.invariant.5 ∙ sym (ap (λ (s : Sending Screenshot). s.base.number) c.sent.ensures.sent
          ∙ base_sent (sending_of c.self.inside.sender) c.args.now),
    )
