use Rattle.roam_turns.specs.Painting.{IsBehind}
use Rattle.test_sockets.proofs.meeting.Meeting.first_undone.Given as goal

abbrev pub invariant-loop-line : goal.invariant-loop-line
invariant-loop-line l = IsBehind l.self.start.outer l.self.start.client.kept.receiver.newest.number l.self.start.client.kept.receiver.newest.state
