use Rattle.std.proofs.Common.{◌∷◌, sym, subst}
use Rattle.roam_shared_client.specs.Sharing.{AreEach, AreEachBehind}
use Rattle.roam_outer_terminal.specs.Writing.{Settles}
use Rattle.roam_shared_client.proofs.Behind.{behind_kept, each_cons, each_head, each_tail}
use Rattle.roam_shared_client.proofs.sharing.+write_all.Goals as goal

pub returns-clause-behind : goal.returns-clause-behind
returns-clause-behind g t c n s h =
    let all : AreEachBehind (c.in-Some.first.now ∷ c.in-Some.others.now) n s = subst (λ l. AreEachBehind l n s) c.in-Some.ensures.cases.0 h in
    each_cons c.settle.new.self c.write_all.new.all n s
    (behind_kept _ _ n s c.settle.ensures.outer (each_head c.in-Some.first.now c.in-Some.others.now n s all))
    (c.write_all.ensures.behind n s (each_tail c.in-Some.first.now c.in-Some.others.now n s all))

pub returns-clause-settles : goal.returns-clause-settles
returns-clause-settles g t c =
    subst (λ l. AreEach (Settles g.S.Read.remaining g.S.Write.contents c.args.silence) l (c.settle.new.self ∷ c.write_all.new.all))
    (sym c.in-Some.ensures.cases.0) (c.settle.ensures.settles, c.write_all.ensures.settles)
