use Rattle.std.proofs.Common.{◌≡◌, None, Some, refl, rules, subst}
use Rattle.roam_shared_client.specs.Running.{TakesTurn, TakesTurns}
use Rattle.roam_shared_client.specs.Running.RunsOut.{counted, ended}
use Rattle.roam_shared_client.proofs.Joined.{one_more_turn, runs_joined, runs_none}
use Rattle.roam_shared_client.proofs.running.run_shared.Goals as goal

pub loop-init : goal.loop-init
loop-init g c = record {
  runs = runs_none g.S.Read.remaining g.S.Write.contents c.args.to (g.D.Ports.told c.args.door.now.ports) c.args.shared.now;
  turns = (refl, refl);
}

pub returns-in-Some-clause-runs : goal.returns-in-Some-clause-runs
returns-in-Some-clause-runs g c =
    runs_joined g.S.Read.remaining g.S.Write.contents c.args.to (g.D.Ports.told c.args.door.now.ports) (g.D.Ports.told c.loop.door.ports)
    (g.D.Ports.told c.take_turn.new.door.ports) c.args.shared.now c.loop.shared c.take_turn.new.shared c.loop.invariant.runs
    c.take_turn.ensures.runs

pub returns-in-Some-clause-out : goal.returns-in-Some-clause-out
returns-in-Some-clause-out g c =
    let before = g.D.Ports.told c.loop.door.ports in
    let after = g.D.Ports.told c.take_turn.new.door.ports in
    let some : c.take_turn.result ≡ Some c.in-Some.end = search rules in
    ended c.loop.counter before c.loop.shared (search rules) c.loop.invariant.turns
    (subst (λ r. TakesTurn g.S.Read.remaining g.S.Write.contents c.args.to c.args.rounds c.take_turn.new.door.silence r before after
    c.loop.shared c.take_turn.new.shared) some c.take_turn.ensures.takes)

pub loop-preserved : goal.loop-preserved
loop-preserved g c =
    let first = g.D.Ports.told c.args.door.now.ports in
    let before = g.D.Ports.told c.loop.door.ports in
    let after = g.D.Ports.told c.take_turn.new.door.ports in
    let none : c.take_turn.result ≡ None = search rules in
    record {
      runs = runs_joined g.S.Read.remaining g.S.Write.contents c.args.to first before after c.args.shared.now c.loop.shared
          c.take_turn.new.shared c.loop.invariant.runs c.take_turn.ensures.runs;
      turns = one_more_turn g.S.Read.remaining g.S.Write.contents c.args.to c.args.rounds c.loop.counter c.take_turn.new.door.silence first
          before after c.args.shared.now c.loop.shared c.take_turn.new.shared c.loop.invariant.turns
          (subst (λ r. TakesTurn g.S.Read.remaining g.S.Write.contents c.args.to c.args.rounds c.take_turn.new.door.silence r before after
          c.loop.shared c.take_turn.new.shared) none c.take_turn.ensures.takes);
    }

pub returns : goal.returns
returns g c =
    let all : c.loop.counter ≡ c.args.rounds = search rules in
    record {
      runs = c.loop.invariant.runs;
      out = counted (subst (λ n. TakesTurns g.S.Read.remaining g.S.Write.contents c.args.to c.args.rounds n
          (g.D.Ports.told c.args.door.now.ports) (g.D.Ports.told c.loop.door.ports) c.args.shared.now c.loop.shared) all
          c.loop.invariant.turns) (search rules);
    }
