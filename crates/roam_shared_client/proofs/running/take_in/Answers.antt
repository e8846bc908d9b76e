use Rattle.std.proofs.Common.{◌≡◌, ◌∷◌, [], None, refl, rules, sym, subst, true, false}
use Rattle.std.specs.Prelude.{is_some}
use Rattle.roam_turns.specs.Calls.{Tells}
use Rattle.roam_turns.specs.Calls.DoorCall.{Came}
use Rattle.roam_turns.specs.Calls.PortCall.{Asked}
use Rattle.roam_shared_client.specs.Running.{Arrives, Runs}
use Rattle.roam_shared_client.specs.Running.Arrives.{full}
use Rattle.roam_shared_client.specs.Running.TakesIn.{many, until_nobody}
use Rattle.roam_shared_client.proofs.Joined.{arrived, one_more_arrival, runs_asked, runs_came, runs_none}
use Rattle.roam_shared_client.proofs.running.take_in.Goals as goal
use Rattle.roam_shared_client.proofs.running.take_in.Goals.{then-len-ge-MOST_TERMINALS, else-len-ge-MOST_TERMINALS}

pub loop-init : goal.loop-init
loop-init g c = record {
  runs = runs_none g.S.Read.remaining g.S.Write.contents c.args.to (g.D.Ports.told c.args.door.now.ports) c.args.shared.now;
  arrive = (refl, refl);
  others = refl;
}

pub returns-in_default : goal.returns-in_default
returns-in_default g c =
    let before = g.D.Ports.told c.loop.door.ports in
    let after = g.D.Ports.told c.next.new.self.ports in
    let none : c.next.result ≡ None = search rules in
    let tells : Tells before after (Asked (Came false) ∷ []) =
    subst (λ r. Tells before after (Asked (Came (is_some r)) ∷ [])) none c.next.ensures.tells in
    record {
      runs = runs_asked g.S.Read.remaining g.S.Write.contents c.args.to (Came false) (g.D.Ports.told c.args.door.now.ports) before after
          c.args.shared.now c.loop.shared c.loop.invariant.runs tells;
      takes = until_nobody c.loop.counter before (search rules) c.loop.invariant.arrive tells;
      others = search rules;
    }

pub loop-preserved : goal.loop-preserved
loop-preserved g c =
    let remaining = g.S.Read.remaining in
    let contents = g.S.Write.contents in
    let first = g.D.Ports.told c.args.door.now.ports in
    let before = g.D.Ports.told c.loop.door.ports in
    let after = g.D.Ports.told c.next.new.self.ports in
    let some : is_some c.next.result ≡ true = search rules in
    let tells : Tells before after (Asked (Came true) ∷ []) =
    subst (λ b. Tells before after (Asked (Came b) ∷ [])) some c.next.ensures.tells in
    elim c.if-len-ge-MOST_TERMINALS.branch [
      | then-len-ge-MOST_TERMINALS w ↦ record {
        runs = subst (Runs remaining contents c.args.to first after c.args.shared.now) (sym w.shared-is)
            (runs_asked remaining contents c.args.to (Came true) first before after c.args.shared.now c.loop.shared c.loop.invariant.runs
            tells);
        arrive = one_more_arrival c.loop.counter first before after c.args.shared.now c.loop.shared _ c.loop.invariant.arrive tells
            (full (search rules) w.shared-is);
        others = search rules;
      }
      | else-len-ge-MOST_TERMINALS w ↦ record {
        runs = subst (Runs remaining contents c.args.to first after c.args.shared.now) (sym w.shared-is)
            (runs_came remaining contents c.args.to _ w.add.result first before after c.args.shared.now c.loop.shared w.add.new.self
            c.loop.invariant.runs tells w.add.ensures.added w.add.ensures.err w.add.ensures.others);
        arrive = one_more_arrival c.loop.counter first before after c.args.shared.now c.loop.shared _ c.loop.invariant.arrive tells
            (subst (Arrives c.loop.shared) (sym w.shared-is)
            (arrived _ w.add.result c.loop.shared w.add.new.self w.add.ensures.added (search rules) w.add.ensures.err
            w.add.ensures.others));
        others = search rules;
      }
    ]

pub returns : goal.returns
returns g c = record { runs = c.loop.invariant.runs; takes = many (search rules); others = c.loop.invariant.others }
