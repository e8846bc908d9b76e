use Rattle.std.proofs.Common.{◌≡◌, ◌∙◌, ap, subst, sym}
use Rattle.roam_simulation.specs.Events.{reply_of}
use Rattle.roam_simulation.specs.Worlds.{WorldView, Stands}
use Rattle.roam_simulation.proofs.Coming.{taken_by, steps_come}
use Rattle.roam_simulation.proofs.worlds.World.to_server.Goals as goal
use Rattle.roam_simulation.proofs.worlds.World.to_server.Goals.{in-Ok, in-Err}

pub returns : goal.returns
returns c =
    record {
      steps =
          λ w reached st.
          let s = subst (λ (v : WorldView). Stands v w) (sym c.self.view_is) st in
          let reply : reply_of c.match-datagram.result ≡ taken_by c.datagram.result = elim c.match-datagram.branch [
            | in-Ok t ↦ ap reply_of t.result-is ∙ sym (ap taken_by t.in-Ok.is)
            | in-Err t ↦ ap reply_of t.result-is ∙ sym (ap taken_by t.in-Err.is)
          ] in
          rw reply (steps_come _ w c.args.number _ c.args.now _ _ c.datagram.new.self s
          (c.datagrams_keep_their_rules.ensures.limits reached.session reached.size reached.events reached.replies w reached.reaches)
          c.one_datagram_a_text.ensures.one c.in-Some.ensures.text (c.datagram.ensures.comes w.server s.server));
    }
