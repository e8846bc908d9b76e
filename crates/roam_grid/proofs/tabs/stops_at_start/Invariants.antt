use Rattle.std.proofs.Common.{◌≡◌, ℕ, ◌<◌, Bool, false, get_or, length}
use Rattle.roam_grid.specs.Tabs.{is_start_stop}
use Rattle.roam_grid.proofs.tabs.stops_at_start.Given as goal

abbrev pub invariant-loop-c : goal.invariant-loop-c
invariant-loop-c l = record {
  len : length {A = Bool} l.stops ≡ 500;
  set : (k : ℕ) → k < l.c → get_or {A = Bool} l.stops k false ≡ is_start_stop k;
}
