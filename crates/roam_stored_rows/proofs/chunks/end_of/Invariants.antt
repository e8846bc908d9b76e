use Rattle.std.proofs.Common.{ℕ, get_or, ◌<◌, ◌≤◌}
use Rattle.roam_stored_rows.specs.declared.chunks.Place.{Place}
use Rattle.roam_stored_rows.proofs.chunks.end_of.Given as goal

abbrev pub invariant-loop-place : goal.invariant-loop-place
invariant-loop-place l = (k : ℕ) (d : Place) → k < l.place-index → (get_or l.places k d).end ≤ l.end
