use Rattle.std.proofs.Common.{◌≡◌, ◌<◌, ◌≤◌, subst, sym, arith, length, None}
use Rattle.std.proofs.lemmas.Result.{err_from_is_err_and}
use Rattle.roam_simulation.specs.Worlds.{WorldView, start_in, Stands}
use Rattle.roam_simulation.proofs.Slots.{start_read, start_past}
use Rattle.roam_simulation.proofs.Ticking.{sent_same, steps_no_start, steps_not_sent, steps_sent}
use Rattle.roam_simulation.proofs.worlds.World.client_tick.Goals as goal

pub returns-then-slot-len : goal.returns-then-slot-len
returns-then-slot-len c =
    record {
      steps =
          λ w st.
          let le : length c.self.inside.slots.items ≤ c.args.slot = omega arith in
          steps_no_start _ w c.args.slot c.args.now st
          (subst (λ (v : WorldView). start_in v.slots c.args.slot ≡ None) c.self.view_is
          (start_past c.self.inside.slots.items c.args.slot le));
    }

pub returns-in_err-datagrams : goal.returns-in_err-datagrams
returns-in_err-datagrams c =
    record {
      steps =
          λ w st.
          let p = err_from_is_err_and c.from_residual-in_err-datagrams.result c.from_residual-in_err-datagrams.ensures.1 in
          let s = sent_same _ w c.make_room.new.self.texts (subst (λ (v : WorldView). Stands v w) (sym c.self.view_is) st)
          c.make_room.ensures.texts in
          let lt : c.args.slot < length c.self.inside.slots.items = omega arith in
          rw (p.1, p.2) (steps_not_sent _ w c.args.slot c.args.now _ c.in-Some.client c.tick.new.self s lt
          (start_read c.self.inside.slots.items c.args.slot _ _ lt c.index_mut.ensures.value c.in-Some.is) c.in_err-datagrams.ensures.sent);
    }

pub returns : goal.returns
returns c =
    record {
      steps =
          λ w st.
          let s = sent_same _ w c.make_room.new.self.texts (subst (λ (v : WorldView). Stands v w) (sym c.self.view_is) st)
          c.make_room.ensures.texts in
          let lt : c.args.slot < length c.self.inside.slots.items = omega arith in
          steps_sent _ w c.args.slot c.args.now c.in_ok-datagrams.datagrams c.in-Some.client c.tick.new.self c.add-first.new.self.texts
          c.add-first.result.0 c.add-first.result.1 s lt
          (start_read c.self.inside.slots.items c.args.slot _ _ lt c.index_mut.ensures.value c.in-Some.is) c.in_ok-datagrams.ensures.sent
          c.add-first.ensures.texts c.add-first.ensures.first c.add-first.ensures.count;
    }
