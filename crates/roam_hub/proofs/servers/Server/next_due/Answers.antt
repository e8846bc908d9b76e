use Rattle.std.proofs.Common.{◌∙◌, sym, subst, arith}
use Rattle.roam_hub.specs.Servers.{ServerView, Stands}
use Rattle.roam_hub.specs.Records.{makes_at}
use Rattle.roam_hub.specs.Waits.{PassesFrom}
use Rattle.roam_hub.specs.contracts.servers.Server.{the_view}
use Rattle.roam_hub.proofs.Waiting.{quiet_before, due_then}
use Rattle.roam_hub.proofs.servers.Server.next_due.Goals as goal

pub returns-clause-before : goal.returns-clause-before
returns-clause-before c s st now low early =
    quiet_before (the_view c.self.inside) s (subst (λ (v : ServerView). Stands v s) (sym c.self.view_is) st) c.number_due-number.result
    c.next_due_of-records.result c.earlier.result c.by_clock.result
    (subst (λ (v : ServerView). PassesFrom c.number_due-number.result (makes_at v)) (sym c.self.view_is) c.number_due-number.ensures.from)
    c.earlier.ensures.one_of now (omega (arith, low, c.by_clock.ensures.low)) c.next_due_of-records.ensures.before
    c.earlier.ensures.come (sym (c.by_clock.ensures.come now) ∙ early)

pub returns-clause-at : goal.returns-clause-at
returns-clause-at c s st =
    due_then (the_view c.self.inside) s (subst (λ (v : ServerView). Stands v s) (sym c.self.view_is) st) c.number_due-number.result
    c.next_due_of-records.result c.earlier.result c.by_clock.result
    (subst (λ (v : ServerView). PassesFrom c.number_due-number.result (makes_at v)) (sym c.self.view_is) c.number_due-number.ensures.from)
    c.earlier.ensures.one_of c.next_due_of-records.ensures.at c.by_clock.ensures.none c.by_clock.ensures.same
