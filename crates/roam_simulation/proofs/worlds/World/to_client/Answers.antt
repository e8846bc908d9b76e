use Rattle.std.proofs.Common.{◌<◌, subst, sym, arith, length}
use Rattle.std.proofs.lemmas.Result.{err_from_is_err_and}
use Rattle.roam_simulation.specs.Worlds.{WorldView, Stands}
use Rattle.roam_simulation.proofs.Slots.{start_read}
use Rattle.roam_simulation.proofs.Coming.{steps_heard}
use Rattle.roam_simulation.proofs.worlds.World.to_client.Goals as goal

pub returns-in_err-heard : goal.returns-in_err-heard
returns-in_err-heard c =
    record {
      steps =
          λ w reached st.
          let p = err_from_is_err_and c.from_residual.result c.from_residual.ensures.1 in
          let s = subst (λ (v : WorldView). Stands v w) (sym c.self.view_is) st in
          let lt : c.args.slot < length c.self.inside.slots.items = omega arith in
          rw (p.1, p.2) (steps_heard _ w c.args.slot c.args.number c.args.now _ _ c.in-Some-index_mut.client c.datagram.new.self s
          (c.datagrams_keep_their_rules.ensures.limits reached.session reached.size reached.events reached.replies w reached.reaches)
          c.one_datagram_a_text.ensures.one c.in-Some.ensures.text lt
          (start_read c.self.inside.slots.items c.args.slot _ _ lt c.index_mut.ensures.value c.in-Some-index_mut.is)
          c.in_err-heard.ensures.heard);
    }

pub returns : goal.returns
returns c =
    record {
      steps =
          λ w reached st.
          let s = subst (λ (v : WorldView). Stands v w) (sym c.self.view_is) st in
          let lt : c.args.slot < length c.self.inside.slots.items = omega arith in
          steps_heard _ w c.args.slot c.args.number c.args.now _ _ c.in-Some-index_mut.client c.datagram.new.self s
          (c.datagrams_keep_their_rules.ensures.limits reached.session reached.size reached.events reached.replies w reached.reaches)
          c.one_datagram_a_text.ensures.one c.in-Some.ensures.text lt
          (start_read c.self.inside.slots.items c.args.slot _ _ lt c.index_mut.ensures.value c.in-Some-index_mut.is)
          c.in_ok-heard.ensures.heard;
    }
