use Rattle.std.proofs.Common.{◌∷◌, subst, sym}
use Rattle.std.specs.List.{AllZip}
use Rattle.roam_pane_subscribers.specs.Querying.{TellsQueries}
use Rattle.roam_pane_subscribers.proofs.querying.+tell_each_queries.Goals as goal

pub returns : goal.returns
returns g t c = record {
  told = subst
      (λ olds. AllZip (λ old new. TellsQueries g.S.Stream.contents c.args.now.now c.args.panes.now.all.items old new) olds
      (c.tell_queries.new.self ∷ c.tell_each_queries.new.all))
      (sym c.in-Some.ensures.cases.0) (c.tell_queries.ensures.tells, c.tell_each_queries.ensures.told);
}
