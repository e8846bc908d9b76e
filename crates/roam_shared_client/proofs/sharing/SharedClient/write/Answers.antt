use Rattle.std.proofs.Common.{length, rules, sym, subst, ap, ◌∙◌}
use Rattle.roam_shared_client.specs.Sharing.{AreEachBehind}
use Rattle.roam_shared_client.proofs.Behind.{whole_back}
use Rattle.roam_shared_client.proofs.sharing.SharedClient.write.Goals as goal

pub invariant_of-self : goal.invariant_of-self
invariant_of-self g c =
    let r = c.self.inside.client.kept.receiver.newest in
    let first = c.write_all.ensures.behind r.number r.state (subst (λ l. AreEachBehind l r.number r.state) (sym c.deref_mut.ensures.value)
    c.self.invariant) in
    let back = whole_back c.self.inside.all.len c.write_all.new.all c.self.inside.all.items
    (c.write_all.ensures.len ∙ ap length c.deref_mut.ensures.value) (search rules) in
    let second = c.retain.ensures.behind r.number r.state (subst (λ l. AreEachBehind l r.number r.state) (sym back) first) in
    let third = c.rotate.ensures.behind r.number r.state (subst (λ l. AreEachBehind l r.number r.state) (sym c.deref_mut-2.ensures.value) second) in
    let again = whole_back c.retain.new.all.len c.rotate.new.all c.retain.new.all.items
    (c.rotate.ensures.len ∙ ap length c.deref_mut-2.ensures.value) (search rules) in
    subst (λ l. AreEachBehind l r.number r.state) (sym again) third
