use Rattle.std.proofs.Common.{◌≡◌, ◌<◌, ◌∙◌, subst, sym, arith, length, List, ℕ, true, false}
use Rattle.std.specs.Prelude.{nat_eq}
use Rattle.std.proofs.lemmas.Result.{err_from_is_err_and}
use Rattle.std.specs.List.{list_any}
use Rattle.roam_simulation.specs.Worlds.{WorldView, Stands}
use Rattle.roam_simulation.proofs.Starting.{steps_not_started, steps_used, steps_started, steps_unfit, used_same}
use Rattle.roam_simulation.proofs.worlds.World.start.Goals as goal

pub returns-then-is_unfit : goal.returns-then-is_unfit
returns-then-is_unfit c =
    record {
      steps =
          λ w st.
          steps_unfit _ w c.args.slot c.args.id c.args.version c.args.watches st (sym c.is_unfit.ensures.unfit ∙ c.if-is_unfit.true);
    }

pub returns-then-contains : goal.returns-then-contains
returns-then-contains c =
    record {
      steps =
          λ w st.
          steps_used _ w c.args.slot c.args.id c.args.version c.args.watches st
          (subst (λ (v : WorldView). list_any (λ (x : ℕ). nat_eq x c.args.id) v.used ≡ true) c.self.view_is
          (subst (λ (xs : List ℕ). list_any (λ (x : ℕ). nat_eq x c.args.id) xs ≡ true) c.as_slice.ensures.value
          (sym c.contains.ensures.value ∙ c.if-contains.true)));
    }

pub returns : goal.returns
returns c =
    record {
      steps =
          λ w st.
          let s = subst (λ (v : WorldView). Stands v w) (sym c.self.view_is) st in
          let lt : c.args.slot < length c.self.inside.slots.items = omega (arith, c.self.invariant, c.requires.slot) in
          steps_started _ w c.args.slot c.args.id c.args.version c.args.watches c.in_ok-client.client c.push.new.self.items s lt
          (subst (λ (xs : List ℕ). list_any (λ (x : ℕ). nat_eq x c.args.id) xs ≡ false) c.as_slice.ensures.value
          (sym c.contains.ensures.value ∙ c.if-contains.false)) (sym c.is_unfit.ensures.unfit ∙ c.if-is_unfit.false)
          c.in_ok-client.ensures.stands c.in_ok-push.ensures.items;
    }

pub returns-in_err-client : goal.returns-in_err-client
returns-in_err-client c =
    record {
      steps =
          λ w st.
          let p = err_from_is_err_and c.from_residual.result c.from_residual.ensures.1 in
          rw (p.1, p.2, c.in_err-client.ensures.fault)
          (steps_not_started _ w c.args.slot c.args.id c.args.version c.args.watches st
          (subst (λ (v : WorldView). list_any (λ (x : ℕ). nat_eq x c.args.id) v.used ≡ false) c.self.view_is
          (subst (λ (xs : List ℕ). list_any (λ (x : ℕ). nat_eq x c.args.id) xs ≡ false) c.as_slice.ensures.value
          (sym c.contains.ensures.value ∙ c.if-contains.false)))
          (sym c.is_unfit.ensures.unfit ∙ c.if-is_unfit.false));
    }

pub returns-in_err-push : goal.returns-in_err-push
returns-in_err-push c =
    record {
      steps =
          λ w st.
          let p = err_from_is_err_and c.from_residual-in_err-push.result c.from_residual-in_err-push.ensures.1 in
          let s = used_same _ w c.push.new.self.items (subst (λ (v : WorldView). Stands v w) (sym c.self.view_is) st)
          c.in_err-push.ensures.items in
          rw (p.1, p.2)
          (steps_not_started _ w c.args.slot c.args.id c.args.version c.args.watches s
          (subst (λ (xs : List ℕ). list_any (λ (x : ℕ). nat_eq x c.args.id) xs ≡ false) (sym c.in_err-push.ensures.items)
          (subst (λ (xs : List ℕ). list_any (λ (x : ℕ). nat_eq x c.args.id) xs ≡ false) c.as_slice.ensures.value
          (sym c.contains.ensures.value ∙ c.if-contains.false)))
          (sym c.is_unfit.ensures.unfit ∙ c.if-is_unfit.false));
    }
