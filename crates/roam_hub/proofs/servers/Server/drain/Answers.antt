use Rattle.std.proofs.Common.{subst, sym}
use Rattle.std.proofs.lemmas.Result.{err_from_is_err_and}
use Rattle.roam_session.specs.Queues.{IsWithin}
use Rattle.roam_session.specs.Stands.{waiting_at}
use Rattle.roam_hub.specs.Servers.{ServerView, Stands}
use Rattle.roam_hub.proofs.Serving.{drains_refused, drains_gone}
use Rattle.roam_hub.proofs.servers.Server.drain.Goals as goal

pub returns-in_err-drain-clause-drained : goal.returns-in_err-drain-clause-drained
returns-in_err-drain-clause-drained c s st =
    let p = err_from_is_err_and c.from_residual.result c.from_residual.ensures.1 in
    rw (p.1, p.2) (drains_refused _ s c.args.pane c.args.n _ c.drain.new.self
    (subst (λ (v : ServerView). Stands v s) (sym c.self.view_is) st)
    c.in_err-drain.ensures.fault c.in_err-drain.ensures.err)

pub returns-clause-drained : goal.returns-clause-drained
returns-clause-drained c s st =
    drains_gone _ s c.args.pane c.args.n c.drain.new.self
    (subst (λ (v : ServerView). Stands v s) (sym c.self.view_is) st)
    c.in_ok-drain.ensures.fault
    (subst (λ (v : ServerView). IsWithin c.args.n (waiting_at v.state.terms c.args.pane)) (sym c.self.view_is) c.requires.within)
    c.in_ok-drain.ensures.drained
