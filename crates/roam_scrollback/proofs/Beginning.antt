-- Where a line begins among rows.
use Rattle.std.proofs.Common.{◌≡◌, List, [], ◌∷◌, ◌++◌, refl}
use Rattle.std.specs.Prelude.{not}
use Rattle.roam_rewrap.specs.Lines.{TextRow}
use Rattle.roam_scrollback.specs.Rewraps.{begins_line}

pub begins-after : (rows : List TextRow) (row : TextRow) → begins_line (rows ++ row ∷ []) ≡ not row.goes_on
begins-after [] row = refl
begins-after (one ∷ []) row = refl
begins-after (one ∷ two ∷ rows) row = begins-after (two ∷ rows) row
