use Rattle.std.proofs.Common.{◌≡◌}
use Rattle.roam_shared_client.specs.Running.{ArriveAll, Runs}
use Rattle.roam_shared_client.proofs.running.take_in.Given as goal

abbrev pub invariant-loop : goal.invariant-loop
invariant-loop g l = record {
  runs : Runs g.S.Read.remaining g.S.Write.contents l.fn.to (g.D.Ports.told l.initial.door.ports) (g.D.Ports.told l.door.ports)
      l.initial.shared l.shared;
  arrive : ArriveAll l.counter (g.D.Ports.told l.initial.door.ports) (g.D.Ports.told l.door.ports) l.initial.shared l.shared;
  others : l.door ≡ record l.initial.door { ports = l.door.ports };
}
