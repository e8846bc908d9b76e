use Rattle.std.proofs.Common.{refl, ap, sym, ◌∙◌, length}
use Rattle.std.specs.Prelude.{nat_lt}
use Rattle.roam_pane_subscribers.specs.Clipping.{gives, no_memory, paced, waits}
use Rattle.roam_pane_subscribers.proofs.subscribing.Subscriber.renew_clips.Goals as goal

pub returns-then-not-may : goal.returns-then-not-may
returns-then-not-may g c = record {
  gives = paced c.in-Some.told (sym c.told.ensures.told ∙ c.in-Some.is) c.if-not-may.true refl refl;
}

pub returns-then-not-is_free : goal.returns-then-not-is_free
returns-then-not-is_free g c = record {
  gives = waits c.in-Some.told (sym c.told.ensures.told ∙ c.in-Some.is) (c.is_free.ensures.busy c.if-not-is_free.true) refl refl;
}

pub returns-in-Ok : goal.returns-in-Ok
returns-in-Ok g c =
    let text = ap (λ t. t.items) c.give_clips.ensures.text in
    record {
      gives = gives c.in-Some.told (sym c.told.ensures.told ∙ c.in-Some.is) c.if-not-may.false
          (c.is_free.ensures.free c.if-not-is_free.false) (text ∙ c.in-Ok.ensures.news)
          (c.give_clips.ensures.some ∙ ap (λ t. nat_lt 0 (length t)) (sym text)) c.give_clips.ensures.noted;
    }

pub returns-in-Err : goal.returns-in-Err
returns-in-Err g c = record {
  gives = no_memory c.in-Some.told (sym c.told.ensures.told ∙ c.in-Some.is) c.if-not-may.false
      (c.is_free.ensures.free c.if-not-is_free.false) refl refl;
}
