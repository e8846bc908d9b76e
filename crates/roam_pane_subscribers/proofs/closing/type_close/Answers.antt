use Rattle.std.proofs.Common.{ap, sym, subst}
use Rattle.roam_hub.specs.Clients.{TypesAll}
use Rattle.roam_pane_subscribers.specs.Closing.{closing_acts}
use Rattle.roam_pane_subscribers.proofs.Answering.{on_ok}
use Rattle.roam_pane_subscribers.proofs.closing.type_close.Goals as goal

pub returns-in-None-clause-typed : goal.returns-in-None-clause-typed
returns-in-None-clause-typed c =
    on_ok c.typed_all.result (subst (λ acts. TypesAll c.args.client.now acts c.typed_all.result c.typed_all.new.self)
    (sym (ap (closing_acts c.args.pane) c.in-None.is)) c.typed_all.ensures.typed)

pub returns-in-Some-clause-typed : goal.returns-in-Some-clause-typed
returns-in-Some-clause-typed c =
    on_ok c.typed_all-in-Some.result (subst (λ acts. TypesAll c.args.client.now acts c.typed_all-in-Some.result
    c.typed_all-in-Some.new.self) (sym (ap (closing_acts c.args.pane) c.in-Some.is)) c.typed_all-in-Some.ensures.typed)
