use Rattle.std.proofs.Common.{◌∷◌, sym, subst}
use Rattle.roam_outer_terminal.specs.Painted.{MayPaint}
use Rattle.roam_shared_client.specs.Sharing.{AreEach, AreEachBehind}
use Rattle.roam_shared_client.proofs.Behind.{each_cons, each_head, each_tail}
use Rattle.roam_shared_client.proofs.sharing.+paint_all.Goals as goal

pub returns-clause-behind : goal.returns-clause-behind
returns-clause-behind g t c h =
    let r = c.args.client.now.kept.receiver.newest in
    let all : AreEachBehind (c.in-Some.first.now ∷ c.in-Some.others.now) r.number r.state =
    subst (λ l. AreEachBehind l r.number r.state) c.in-Some.ensures.cases.0 h in
    each_cons c.paint_if_ready.new.self c.paint_all.new.all r.number r.state
    (c.paint_if_ready.ensures.behind (each_head c.in-Some.first.now c.in-Some.others.now _ _ all))
    (c.paint_all.ensures.behind (each_tail c.in-Some.first.now c.in-Some.others.now _ _ all))

pub returns-clause-paints : goal.returns-clause-paints
returns-clause-paints g t c =
    subst (λ l. AreEach (MayPaint c.args.silence c.args.client.now) l (c.paint_if_ready.new.self ∷ c.paint_all.new.all))
    (sym c.in-Some.ensures.cases.0) (c.paint_if_ready.ensures.paints, c.paint_all.ensures.paints)
