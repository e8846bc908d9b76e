use Rattle.std.proofs.Common.{◌≡◌, ◌<◌, ◌≤◌, ◌+◌, ◌-◌, ◌∙◌, ap, arith, length}
use Rattle.std.specs.Prelude.{slice_get}
use Rattle.roam_simulation.specs.Networks.{NetworkView, texts_in, text_at}
use Rattle.roam_simulation.proofs.Sending.{front, front_more, text_there}
use Rattle.roam_simulation.proofs.networks.Network.text.Goals as goal

pub returns-then-number-before : goal.returns-then-number-before
returns-then-number-before c =
    record {
      text =
          let lt : c.loop-at.at - 1 < length c.self.inside.batches.items = omega arith in
          let more = front_more c.self.inside.batches.items (c.loop-at.at - 1) c.index-batch.result.now lt c.index-batch.ensures in
          let at : (c.loop-at.at - 1) + 1 ≡ c.loop-at.at = omega arith in
          let same = ap (front c.self.inside.batches.items) at in
          let sent = c.loop-at.invariant.sent in
          let len = c.len.ensures.len in
          let before : c.loop-at.sent - c.len.result ≡ front c.self.inside.batches.items (c.loop-at.at - 1) =
          omega (arith, more, same, sent, len) in
          let low : front c.self.inside.batches.items (c.loop-at.at - 1) < c.args.number = omega (arith, before) in
          let high : c.args.number ≤ front c.self.inside.batches.items (c.loop-at.at - 1) + length (texts_in c.index-batch.result.now) =
          omega (arith, more, same, sent) in
          c.text.ensures.text
          ∙ ap (λ k. slice_get (texts_in c.index-batch.result.now) ((c.args.number - k) - 1)) before
          ∙ text_there c.self.inside.batches.items (c.loop-at.at - 1) c.args.number c.index-batch.result.now lt c.index-batch.ensures low
          high
          ∙ ap (λ (v : NetworkView). text_at v.texts c.args.number) c.self.view_is;
    }
