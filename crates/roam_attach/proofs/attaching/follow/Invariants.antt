use Rattle.std.proofs.Common.{All, None}
use Rattle.roam_acts.specs.Acts.{IsInRange}
use Rattle.roam_turns.specs.Painting.{IsBehind}
use Rattle.roam_attach.specs.Runs.{RunsOn, painted_by}
use Rattle.roam_attach.proofs.attaching.follow.Given as goal

abbrev pub invariant-loop : goal.invariant-loop
invariant-loop g l = record {
  behind : IsBehind l.shown l.client.kept.receiver.newest.number l.client.kept.receiver.newest.state;
  in_range : All IsInRange l.typist.lines.waiting.items;
  runs : RunsOn l.to (g.T.Read.remaining l.initial.typist.reader) (g.T.Read.remaining l.typist.reader) l.initial.typist.lines
      l.typist.lines (painted_by g.W.Write.contents None l.initial.ports) (painted_by g.W.Write.contents l.shown l.ports)
      l.initial.client l.client l.counter;
}
