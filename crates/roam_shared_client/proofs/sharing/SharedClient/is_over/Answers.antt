use Rattle.std.proofs.Common.{◌≡◌, ◌≤◌, ◌-◌, [], Some, ap, ◌∙◌, rules, subst}
use Rattle.std.specs.Prelude.{IsTrue}
use Rattle.roam_shared_client.specs.Running.IsOver.{late, settled}
use Rattle.roam_shared_client.proofs.sharing.SharedClient.is_over.Goals as goal

pub returns-then-is_settled : goal.returns-then-is_settled
returns-then-is_settled g c =
    let ending : c.args.self.now.ending ≡ Some c.in-Some.since = search rules in
    let none : c.args.self.now.client.kept.acts.acts ≡ [] = search rules in
    record { over = (λ passed. settled c.in-Some.since ending none, λ over. c.if-is_settled.true) }

pub returns-else-is_settled : goal.returns-else-is_settled
returns-else-is_settled g c =
    let ending : c.args.self.now.ending ≡ Some c.in-Some.since = search rules in
    record {
      over = (
        λ passed. late c.in-Some.since ending (c.has_passed.ensures.passed.0 passed),
        λ over. elim over [
          | settled since is none ↦
              let yes : IsTrue c.is_settled.result =
              c.is_settled.ensures.settled.1 (ap (λ v. v.client.kept.acts.acts) c.self.view_is ∙ none) in
              let no = c.if-is_settled.false in
              absurd cc
          | late since is passed ↦
              let same : since ≡ c.in-Some.since = search rules in
              c.has_passed.ensures.passed.1 (subst (λ s. 1000 ≤ c.args.silence.moment - s) same passed)
        ],
      );
    }
