use Rattle.roam_turns.proofs.Starts.{types_same, same_follows}
use Rattle.roam_turns.proofs.cores.ClientClientCore.typed.Goals as goal

pub returns-clause-follows : goal.returns-clause-follows
returns-clause-follows c =
    same_follows c.args.self.now.kept.receiver c.typed.new.self.kept.receiver (types_same c.args.self.now _ _ _ c.typed.ensures.typed)
