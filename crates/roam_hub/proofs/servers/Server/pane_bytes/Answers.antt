use Rattle.std.proofs.Common.{subst, sym}
use Rattle.std.proofs.lemmas.Result.{err_from_is_err_and}
use Rattle.roam_hub.specs.Servers.{ServerView, Stands}
use Rattle.roam_hub.proofs.Serving.{feeds_refused, feeds_taken}
use Rattle.roam_hub.proofs.servers.Server.pane_bytes.Goals as goal

pub returns-in_err-pane_bytes-clause-fed : goal.returns-in_err-pane_bytes-clause-fed
returns-in_err-pane_bytes-clause-fed c s st =
    let p = err_from_is_err_and c.from_residual.result c.from_residual.ensures.1 in
    rw (p.1, p.2) (feeds_refused _ s c.args.pane c.args.piece.now _ c.pane_bytes.new.self
    (subst (λ (v : ServerView). Stands v s) (sym c.self.view_is) st)
    c.in_err-pane_bytes.ensures.fault c.in_err-pane_bytes.ensures.err)

pub returns-clause-fed : goal.returns-clause-fed
returns-clause-fed c s st =
    feeds_taken _ s c.args.pane c.args.piece.now c.pane_bytes.new.self
    (subst (λ (v : ServerView). Stands v s) (sym c.self.view_is) st)
    c.in_ok-pane_bytes.ensures.fault c.in_ok-pane_bytes.ensures.given
