use Rattle.std.proofs.Common.{subst}
use Rattle.roam_hub.proofs.Viewing.{all_acts_typed, types_all}
use Rattle.roam_hub.specs.Clients.{ClientView, TypesAll, keeping}
use Rattle.roam_hub.specs.contracts.clients.Client.{the_view}
use Rattle.roam_hub.proofs.clients.Client.typed_all.Goals as goal

pub invariant_of-self : goal.invariant_of-self
invariant_of-self c = (
  all_acts_typed c.typed_all.result c.self.inside.acts c.typed_all.new.self c.args.acts.now c.typed_all.ensures.ok
      c.typed_all.ensures.err c.self.invariant.0 (λ k d lt. (c.requires.in_range k d lt, c.all_facts.ensures.keys k d lt)),
  c.self.invariant.1,
  c.self.invariant.2,
  c.self.invariant.3,
  c.self.invariant.4,
  c.self.invariant.5,
  c.self.invariant.6,
)

pub returns-clause-typed : goal.returns-clause-typed
returns-clause-typed c =
    let view = the_view c.self.inside in
    subst (λ (v : ClientView). TypesAll v c.args.acts.now c.typed_all.result
    (keeping view (record view.kept { acts = c.typed_all.new.self }))) c.self.view_is
    (types_all view c.args.acts.now c.typed_all.result c.typed_all.new.self c.if-self.false c.typed_all.ensures.ok
    c.typed_all.ensures.busy c.typed_all.ensures.spent c.typed_all.ensures.memory c.typed_all.ensures.err c.typed_all.ensures.fault)
