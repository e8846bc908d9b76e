use Rattle.roam_shared_client.specs.Running.{Runs, TakesTurns}
use Rattle.roam_shared_client.proofs.running.run_shared.Given as goal

abbrev pub invariant-loop : goal.invariant-loop
invariant-loop g l = record {
  runs : Runs g.S.Read.remaining g.S.Write.contents l.fn.to (g.D.Ports.told l.initial.door.ports) (g.D.Ports.told l.door.ports)
      l.initial.shared l.shared;
  turns : TakesTurns g.S.Read.remaining g.S.Write.contents l.fn.to l.fn.rounds l.counter (g.D.Ports.told l.initial.door.ports)
      (g.D.Ports.told l.door.ports) l.initial.shared l.shared;
}
