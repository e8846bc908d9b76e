use Rattle.std.proofs.Common.{◌∙◌, ap, List, ℕ, Option, None, set}
use Rattle.roam_wire.proofs.Places.{put_back}
use Rattle.roam_wire.proofs.gatherers.added.Goals as goal

pub returns-in-Err-clause-err : goal.returns-in-Err-clause-err
returns-in-Err-clause-err c =
    c.take_out.ensures.out
    ∙ ap (λ (xs : List (Option (List ℕ))). set xs c.args.index None) c.put.ensures.put
    ∙ put_back _ _ _ c.requires.missing
