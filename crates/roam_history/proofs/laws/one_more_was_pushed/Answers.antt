use Rattle.std.proofs.Common.{◌∷◌, [], ◌++◌, refl}
use Rattle.roam_history.specs.Histories.{keeping, after_push}
use Rattle.roam_history.proofs.Pushing.{last_more, same_scrollback}
use Rattle.roam_history.proofs.laws.one_more_was_pushed.Goals as goal

pub returns : goal.returns
returns c = record {
  kept = λ lines cols rows row. same_scrollback (after_push row (keeping lines cols rows)) (keeping lines cols (rows ++ row ∷ [])) refl refl (last_more lines rows row);
}
