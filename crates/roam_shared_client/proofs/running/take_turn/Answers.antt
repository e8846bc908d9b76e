use Rattle.std.proofs.Common.{◌≡◌, ◌∷◌, [], ap, ◌∙◌, None, Some, refl, sym, subst, false}
use Rattle.std.specs.Prelude.{IsTrue}
use Rattle.roam_turns.specs.Calls.{Tells}
use Rattle.roam_turns.specs.Calls.DoorCall.{HasEnded}
use Rattle.roam_turns.specs.Calls.PortCall.{Asked}
use Rattle.roam_shared_client.specs.Running.{Follows, IsOver, Rests, longest_rest}
use Rattle.roam_shared_client.specs.Running.Follows.{over, rests}
use Rattle.roam_shared_client.specs.Sharing.{Rounds}
use Rattle.roam_outer_terminal.specs.Silence.{end_of}
use Rattle.roam_shared_client.proofs.Joined.{runs_asked, runs_rested, runs_round}
use Rattle.roam_shared_client.proofs.running.take_turn.Goals as goal

pub returns-then-has_ended-clause-runs : goal.returns-then-has_ended-clause-runs
returns-then-has_ended-clause-runs g c =
    let remaining = g.S.Read.remaining in
    let contents = g.S.Write.contents in
    let first = g.D.Ports.told c.args.door.now.ports in
    let took = g.D.Ports.told c.round-wait.new.ports.ports in
    let asked = g.D.Ports.told c.has_ended.new.self.ports in
    runs_asked remaining contents c.args.to (HasEnded c.has_ended.result) first took asked c.args.shared.now c.round-wait.new.self
    (runs_round remaining contents c.args.to c.round-wait.new.ports.silence c.round-wait.result first
    (g.D.Ports.told c.take_in.new.door.ports) took c.args.shared.now c.take_in.new.shared c.round-wait.new.self c.take_in.ensures.runs
    c.round-wait.ensures.rounds)
    c.has_ended.ensures.tells

pub returns-then-is_over-clause-runs : goal.returns-then-is_over-clause-runs
returns-then-is_over-clause-runs g c =
    let remaining = g.S.Read.remaining in
    let contents = g.S.Write.contents in
    let first = g.D.Ports.told c.args.door.now.ports in
    let took = g.D.Ports.told c.round-wait.new.ports.ports in
    let asked = g.D.Ports.told c.has_ended.new.self.ports in
    runs_asked remaining contents c.args.to (HasEnded c.has_ended.result) first took asked c.args.shared.now c.round-wait.new.self
    (runs_round remaining contents c.args.to c.round-wait.new.ports.silence c.round-wait.result first
    (g.D.Ports.told c.take_in.new.door.ports) took c.args.shared.now c.take_in.new.shared c.round-wait.new.self c.take_in.ensures.runs
    c.round-wait.ensures.rounds)
    c.has_ended.ensures.tells

pub returns-clause-runs : goal.returns-clause-runs
returns-clause-runs g c =
    let remaining = g.S.Read.remaining in
    let contents = g.S.Write.contents in
    let first = g.D.Ports.told c.args.door.now.ports in
    let took = g.D.Ports.told c.round-wait.new.ports.ports in
    let asked = g.D.Ports.told c.has_ended.new.self.ports in
    let rested = g.D.Ports.told c.rest_behind.new.door.ports in
    runs_rested remaining contents c.args.to _ first asked rested c.args.shared.now c.round-wait.new.self
    (runs_asked remaining contents c.args.to (HasEnded c.has_ended.result) first took asked c.args.shared.now c.round-wait.new.self
    (runs_round remaining contents c.args.to c.round-wait.new.ports.silence c.round-wait.result first
    (g.D.Ports.told c.take_in.new.door.ports) took c.args.shared.now c.take_in.new.shared c.round-wait.new.self c.take_in.ensures.runs
    c.round-wait.ensures.rounds)
    c.has_ended.ensures.tells)
    c.rest_behind.ensures.rests

pub returns-then-is_over-clause-takes : goal.returns-then-is_over-clause-takes
returns-then-is_over-clause-takes g c =
    let took = g.D.Ports.told c.round-wait.new.ports.ports in
    let asked = g.D.Ports.told c.has_ended.new.self.ports in
    let came = g.D.Ports.told c.take_in.new.door.ports in
    let same : c.has_ended.new.self.silence ≡ c.round-wait.new.ports.silence = ap (λ d. d.silence) c.has_ended.ensures.others in
    let tells : Tells took asked (Asked (HasEnded false) ∷ []) =
    subst (λ b. Tells took asked (Asked (HasEnded b) ∷ [])) c.if-has_ended.false c.has_ended.ensures.tells in
    let is : IsOver c.round-wait.new.self c.has_ended.new.self.silence.moment =
    subst (λ s. IsOver c.round-wait.new.self s.moment) c.silence-silence.ensures.silence (c.is_over.ensures.over.0 c.if-is_over.true) in
    record {
      mid = c.take_in.new.shared;
      between = came;
      after = took;
      wait = c.round-wait.result;
      came = c.take_in.ensures.takes;
      round = subst (λ s. Rounds g.S.Read.remaining g.S.Write.contents c.args.to s c.round-wait.result came took c.take_in.new.shared
          c.round-wait.new.self) (sym same) c.round-wait.ensures.rounds;
      follows = over tells is (ap Some (c.end.ensures.end ∙ ap end_of c.silence-silence.ensures.silence));
    }

pub returns-clause-takes : goal.returns-clause-takes
returns-clause-takes g c =
    let took = g.D.Ports.told c.round-wait.new.ports.ports in
    let asked = g.D.Ports.told c.has_ended.new.self.ports in
    let came = g.D.Ports.told c.take_in.new.door.ports in
    let shared = c.round-wait.new.self in
    let before : c.silence-silence.result ≡ c.round-wait.new.ports.silence =
    c.silence-silence.ensures.silence ∙ ap (λ d. d.silence) c.has_ended.ensures.others in
    let after : c.rest_behind.new.door.silence ≡ c.silence-silence.result =
    c.rest_behind.ensures.silence ∙ sym c.silence-silence.ensures.silence in
    let tells : Tells took asked (Asked (HasEnded false) ∷ []) =
    subst (λ b. Tells took asked (Asked (HasEnded b) ∷ [])) c.if-has_ended.false c.has_ended.ensures.tells in
    let rested = g.D.Ports.told c.rest_behind.new.door.ports in
    let rests_so : Rests (longest_rest shared c.silence-silence.result c.round-wait.result c.args.rounds) asked rested shared =
    subst (λ n. Rests n asked rested shared) c.longest_rest.ensures.rest c.rest_behind.ensures.rests in
    let not_over : IsOver shared c.silence-silence.result.moment → ⊥ = λ o.
    let yes : IsTrue c.is_over.result = c.is_over.ensures.over.1 o in
    let no = c.if-is_over.false in
    absurd cc in
    record {
      mid = c.take_in.new.shared;
      between = came;
      after = took;
      wait = c.round-wait.result;
      came = c.take_in.ensures.takes;
      round = subst (λ s. Rounds g.S.Read.remaining g.S.Write.contents c.args.to s c.round-wait.result came took c.take_in.new.shared
          shared) (sym (after ∙ before)) c.round-wait.ensures.rounds;
      follows = subst (λ s. Follows c.args.rounds s c.round-wait.result None took rested shared) (sym after)
          (rests asked tells not_over rests_so refl);
    }
