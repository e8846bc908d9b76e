use Rattle.std.proofs.Common.{◌++◌, ◌∷◌, [], ap, ◌∙◌, sym, subst}
use Rattle.roam_turns.specs.Painting.{IsBehind}
use Rattle.roam_shared_client.specs.Sharing.{AreEachBehind}
use Rattle.roam_shared_client.proofs.Behind.{each_last}
use Rattle.roam_shared_client.proofs.sharing.SharedClient.add.Goals as goal

pub returns-clause-added : goal.returns-clause-added
returns-clause-added g c =
    let new = c.new.ensures in (
      c.new.result,
      new.stream,
      record {
        lines = new.lines.0;
        outer = new.painted.0;
        predicting = new.guessing.0;
        over = new.guessing.1;
        waiting = new.painted.1;
        watches = new.lines.1;
        told = new.painted.2;
        stuck = new.painted.3;
        here = new.here;
        untold = new.untold;
      },
      c.in_ok-push.ensures.items ∙ ap (λ v. v.all ++ c.new.result ∷ []) c.self.view_is,
    )

pub invariant_of-self-2 : goal.invariant_of-self-2
invariant_of-self-2 g c =
    let client = c.self.inside.client.kept.receiver.newest in
    subst (λ l. AreEachBehind l client.number client.state) (sym c.in_ok-push.ensures.items)
    (each_last c.self.inside.all.items c.new.result client.number client.state c.self.invariant
    (subst (λ o. IsBehind o client.number client.state) (sym c.new.ensures.painted.0) tt))
