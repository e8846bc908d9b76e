use Rattle.std.proofs.Common.{◌≡◌, ◌∷◌, ◌∙◌, ap, rules, subst, sym}
use Rattle.std.specs.Prelude.{min, ◌||◌}
use Rattle.roam_shared_client.specs.Sharing.{AreEachBehind, AreHeard, wait_after}
use Rattle.roam_shared_client.proofs.Behind.{behind_kept, each_cons, each_head, each_tail}
use Rattle.roam_outer_terminal.proofs.Heard.{heard_outer}
use Rattle.roam_shared_client.proofs.sharing.+hear_all.Goals as goal

pub returns-clause-behind : goal.returns-clause-behind
returns-clause-behind g t c h =
    let r = c.args.client.now.kept.receiver.newest in
    let all : AreEachBehind (c.in-Some.first.now ∷ c.in-Some.others.now) r.number r.state =
    subst (λ l. AreEachBehind l r.number r.state) c.in-Some.ensures.cases.0 h in
    let head =
    behind_kept _ _ _ _ (heard_outer _ _ _ c.in-Some.first.now c.hear-taking.new.self _ _ c.hear-taking.ensures.hears.1)
    (each_head c.in-Some.first.now c.in-Some.others.now _ _ all) in
    let tail = each_tail c.in-Some.first.now c.in-Some.others.now _ _ all in
    each_cons c.hear-taking.new.self c.hear_all-wait.new.all r.number r.state head
    (subst (λ x. AreEachBehind c.in-Some.others.now x.newest.number x.newest.state
    → AreEachBehind c.hear_all-wait.new.all x.newest.number x.newest.state) c.hear-taking.ensures.number c.hear_all-wait.ensures.behind tail)

pub returns-clause-hears : goal.returns-clause-hears
returns-clause-hears g t c =
    let heard = c.hear-taking.ensures.hears in
    let later = c.hear_all-wait.ensures.hears in
    let shortest : c.min.result ≡ min c.hear_all-wait.result.0 c.wait_after.result = search rules in
    subst (λ l. AreHeard g.S.Read.remaining g.S.Write.contents l (c.hear-taking.new.self ∷ c.hear_all-wait.new.all) c.args.client.now
    c.hear_all-wait.new.client c.is_either.result c.min.result) (sym c.in-Some.ensures.cases.0) (
      (
        c.hear-taking.new.client,
        heard.0,
        c.hear_all-wait.result.1,
        heard.1,
        later.0,
        c.is_either.ensures.either ∙ ap (λ b. b || c.hear_all-wait.result.1) (c.is_end.ensures.end ∙ heard.2),
      ),
      shortest ∙ ap (λ n. min n c.wait_after.result) later.1
          ∙ ap (min _) (c.wait_after.ensures.wait ∙ ap wait_after heard.3),
    )
