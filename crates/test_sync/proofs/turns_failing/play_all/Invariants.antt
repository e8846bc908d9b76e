use Rattle.roam_turns.specs.Painting.{IsBehind}
use Rattle.test_sync.proofs.turns_failing.play_all.Given as goal

abbrev pub invariant-loop-round : goal.invariant-loop-round
invariant-loop-round l =
    IsBehind l.stage.first.outer l.stage.first.client.kept.receiver.newest.number l.stage.first.client.kept.receiver.newest.state
    × IsBehind l.stage.second.outer l.stage.second.client.kept.receiver.newest.number l.stage.second.client.kept.receiver.newest.state
