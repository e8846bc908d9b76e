use Rattle.roam_serve.specs.Runs.{RunsTurns, ServesTurns}
use Rattle.roam_serve.proofs.serving.serve_turns.Given as goal

abbrev pub invariant-loop : goal.invariant-loop
invariant-loop g l = record {
  turns : ServesTurns l.counter l.initial.server l.server;
  runs : RunsTurns g.P.Ports.told g.P.RunPorts.mends g.P.RunPorts.follows l.serve.turns l.counter l.initial.ports l.ports l.initial.server l.server;
}
