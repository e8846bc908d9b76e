use Rattle.roam_turns.proofs.Starts.{hears_follow}
use Rattle.roam_turns.proofs.cores.ClientClientCore.datagram.Goals as goal

pub returns-clause-follows : goal.returns-clause-follows
returns-clause-follows c = hears_follow c.args.self.now _ _ _ _ c.datagram.ensures.heard
