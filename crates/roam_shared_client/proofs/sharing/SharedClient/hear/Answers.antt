use Rattle.std.proofs.Common.{◌≡◌, ◌∙◌, ap, length, rules, subst, sym}
use Rattle.roam_shared_client.specs.Sharing.{AreHeard}
use Rattle.roam_shared_client.proofs.Behind.{whole_back}
use Rattle.roam_shared_client.proofs.sharing.SharedClient.hear.Goals as goal

pub returns : goal.returns
returns g c =
    let remaining = g.S.Read.remaining in
    let contents = g.S.Write.contents in
    let heard = c.hear_all in
    let was : c.deref_mut.result.now ≡ c.args.self.now.all = c.deref_mut.ensures.value ∙ ap (λ v. v.all) c.self.view_is in
    let back =
    whole_back c.self.inside.all.len heard.new.all c.self.inside.all.items (heard.ensures.len ∙ ap length c.deref_mut.ensures.value)
    (search rules) in
    let hears =
    subst (λ l. AreHeard remaining contents l heard.new.all c.args.self.now.client heard.new.client heard.result.1 heard.result.0) was
    (subst (λ v. AreHeard remaining contents c.deref_mut.result.now heard.new.all v.client heard.new.client heard.result.1 heard.result.0)
    c.self.view_is heard.ensures.hears) in
    record {
      hears = subst (λ l. AreHeard remaining contents c.args.self.now.all l c.args.self.now.client heard.new.client heard.result.1
          heard.result.0) (sym back) hears;
      others = search rules;
    }
