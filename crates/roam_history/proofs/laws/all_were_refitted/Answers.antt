use Rattle.std.proofs.Common.{map, refl}
use Rattle.roam_history.specs.Fitting.{after_refit}
use Rattle.roam_history.specs.Histories.{keeping}
use Rattle.roam_history.specs.Lines.{refitted_row}
use Rattle.roam_history.proofs.Pushing.{last-map, same_scrollback}
use Rattle.roam_history.proofs.laws.all_were_refitted.Goals as goal

pub returns : goal.returns
returns c = record {
  kept = λ lines cols new_cols rows.
      same_scrollback (after_refit new_cols (keeping lines cols rows)) (keeping lines new_cols (map (refitted_row new_cols) rows)) refl refl (last-map (refitted_row new_cols) lines rows);
}
