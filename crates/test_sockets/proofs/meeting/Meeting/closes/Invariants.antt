use Rattle.roam_turns.specs.Painting.{IsBehind}
use Rattle.test_sockets.proofs.meeting.Meeting.closes.Given as goal

abbrev pub invariant-loop-turn : goal.invariant-loop-turn
invariant-loop-turn l = IsBehind l.self.start.outer l.self.start.client.kept.receiver.newest.number l.self.start.client.kept.receiver.newest.state
