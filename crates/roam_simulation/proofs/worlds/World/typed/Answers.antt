use Rattle.std.proofs.Common.{◌≡◌, ◌<◌, ◌≤◌, subst, sym, arith, length, None}
use Rattle.std.proofs.lemmas.Result.{err_from_is_err_and}
use Rattle.roam_simulation.specs.Worlds.{WorldView, start_in, Stands}
use Rattle.roam_simulation.proofs.Slots.{start_read, start_past}
use Rattle.roam_simulation.proofs.Typing.{steps_typed, steps_untyped}
use Rattle.roam_simulation.proofs.worlds.World.typed.Goals as goal

pub returns-then-slot-len : goal.returns-then-slot-len
returns-then-slot-len c =
    record {
      steps =
          λ w st.
          let le : length c.self.inside.slots.items ≤ c.args.slot = omega arith in
          steps_untyped _ w c.args.slot c.args.act st
          (subst (λ (v : WorldView). start_in v.slots c.args.slot ≡ None) c.self.view_is
          (start_past c.self.inside.slots.items c.args.slot le));
    }

pub returns-in_err-typed : goal.returns-in_err-typed
returns-in_err-typed c =
    record {
      steps =
          λ w st.
          let p = err_from_is_err_and c.from_residual.result c.from_residual.ensures.1 in
          let s = subst (λ (v : WorldView). Stands v w) (sym c.self.view_is) st in
          let lt : c.args.slot < length c.self.inside.slots.items = omega arith in
          rw (p.1, p.2) (steps_typed _ w c.args.slot c.args.act _ c.in-Some.client c.typed.new.self s
          lt (start_read c.self.inside.slots.items c.args.slot _ _ lt c.index_mut.ensures.value c.in-Some.is) c.in_err-typed.ensures.typed);
    }

pub returns : goal.returns
returns c =
    record {
      steps =
          λ w st.
          let s = subst (λ (v : WorldView). Stands v w) (sym c.self.view_is) st in
          let lt : c.args.slot < length c.self.inside.slots.items = omega arith in
          steps_typed _ w c.args.slot c.args.act _ c.in-Some.client c.typed.new.self s
          lt (start_read c.self.inside.slots.items c.args.slot _ _ lt c.index_mut.ensures.value c.in-Some.is) c.in_ok-typed.ensures.typed;
    }
