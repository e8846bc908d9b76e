-- The tab stops at the start.
use Rattle.std.proofs.Common.{◌≡◌, ℕ, ◌<◌, Bool, false, List, length, map, get_or, sym, ◌∙◌, arith}
use Rattle.std.specs.List.{range_with_len}
use Rattle.std.proofs.lemmas.List.{same_lists, get_or_default}
use Rattle.std.proofs.lemmas.List.FromFn.{length-map-range_with_len, get_or-map-range_with_len}
use Rattle.roam_grid.specs.Tabs.{start_stops, is_start_stop}

pub length-start_stops : length start_stops ≡ 500
unfolding start_stops
length-start_stops = length-map-range_with_len is_start_stop 0 500

pub stops_are : (stops : List Bool) → length stops ≡ 500 → ((k : ℕ) → k < 500 → get_or stops k false ≡ is_start_stop k) → stops ≡ start_stops
unfolding start_stops
stops_are stops len each =
    same_lists stops (map is_start_stop (range_with_len 0 500)) (len ∙ sym (length-map-range_with_len is_start_stop 0 500)) (λ k d h.
    get_or_default stops k d false h ∙ each k (omega (arith, len)) ∙ sym (get_or-map-range_with_len is_start_stop 0 500 k k d (omega (arith, len)) (omega arith)))
