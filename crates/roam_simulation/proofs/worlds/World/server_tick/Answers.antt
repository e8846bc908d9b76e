use Rattle.std.proofs.Common.{subst, sym}
use Rattle.std.proofs.lemmas.Result.{err_from_is_err_and}
use Rattle.roam_simulation.specs.Worlds.{WorldView, Stands}
use Rattle.roam_simulation.proofs.Ticking.{no_room, sent_same, steps_not_ticked, steps_ticked}
use Rattle.roam_simulation.proofs.worlds.World.server_tick.Goals as goal

pub returns-in_err-parcels : goal.returns-in_err-parcels
returns-in_err-parcels c =
    record {
      steps =
          λ w reached st.
          let p = err_from_is_err_and c.from_residual-in_err-parcels.result c.from_residual-in_err-parcels.ensures.1 in
          let s = sent_same _ w c.make_room.new.self.texts (subst (λ (v : WorldView). Stands v w) (sym c.self.view_is) st)
          c.make_room.ensures.texts in
          rw (p.1, p.2) (steps_not_ticked _ w c.args.now _ c.tick.new.self s
          (c.clients_show_the_session.ensures.acts reached.session reached.size reached.events reached.replies w reached.reaches)
          (c.datagrams_keep_their_rules.ensures.limits reached.session reached.size reached.events reached.replies w reached.reaches)
          (c.in_err-parcels.ensures.ticked w.server s.server));
    }

pub returns : goal.returns
returns c =
    record {
      steps =
          λ w reached st.
          let s = sent_same _ w c.make_room.new.self.texts (subst (λ (v : WorldView). Stands v w) (sym c.self.view_is) st)
          c.make_room.ensures.texts in
          steps_ticked _ w c.args.now c.in_ok-parcels.parcels c.tick.new.self c.add-first.new.self.texts c.add-first.result.0
          c.add-first.result.1 s
          (c.clients_show_the_session.ensures.acts reached.session reached.size reached.events reached.replies w reached.reaches)
          (c.datagrams_keep_their_rules.ensures.limits reached.session reached.size reached.events reached.replies w reached.reaches)
          (c.in_ok-parcels.ensures.ticked w.server s.server) c.add-first.ensures.texts c.add-first.ensures.first c.add-first.ensures.count;
    }

pub returns-in_err-make_room : goal.returns-in_err-make_room
returns-in_err-make_room c =
    record {
      steps =
          λ w reached st.
          let p = err_from_is_err_and c.from_residual.result c.from_residual.ensures.1 in
          let s = sent_same _ w c.make_room.new.self.texts (subst (λ (v : WorldView). Stands v w) (sym c.self.view_is) st)
          c.make_room.ensures.texts in
          rw (p.1, p.2, c.in_err-make_room.ensures.fault) (no_room _ w c.args.now s);
    }
