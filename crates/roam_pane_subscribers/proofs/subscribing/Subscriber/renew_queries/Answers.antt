use Rattle.std.proofs.Common.{refl, ap, sym, ◌∙◌}
use Rattle.roam_pane_subscribers.specs.Querying.{gives, no_memory, waits}
use Rattle.roam_pane_subscribers.proofs.subscribing.Subscriber.renew_queries.Goals as goal

pub returns-then-not-is_free : goal.returns-then-not-is_free
returns-then-not-is_free g c = record {
  gives = waits c.in-Some.told (sym c.told.ensures.told ∙ c.in-Some.is) (c.is_free.ensures.busy c.if-not-is_free.true) refl;
}

pub returns-in-Ok : goal.returns-in-Ok
returns-in-Ok g c =
    let text = ap (λ t. t.items) c.give_queries.ensures.text in
    record {
      gives = gives c.in-Some.told (sym c.told.ensures.told ∙ c.in-Some.is) (c.is_free.ensures.free c.if-not-is_free.false)
          (text ∙ c.in-Ok.ensures.news) c.give_queries.ensures.noted;
    }

pub returns-in_default-query_news : goal.returns-in_default-query_news
returns-in_default-query_news g c = record {
  gives = no_memory c.in-Some.told (sym c.told.ensures.told ∙ c.in-Some.is) (c.is_free.ensures.free c.if-not-is_free.false) refl;
}
