use Rattle.std.proofs.Common.{length, ◌-◌, ◌≡◌, ◌≤◌, ◌+◌, ◌<◌, ◌++◌, drop, false}
use Rattle.roam_cells.specs.Place.{glyph_at}
use Rattle.roam_update.specs.Numbers.{AreNumbers, form_in, styles_of, form_behind, runs_said}
use Rattle.roam_update.specs.Runs.{runs_between, runs_from}
use Rattle.roam_update.proofs.change_text.add_runs.Given as goal

abbrev pub invariant-loop-first : goal.invariant-loop-first
invariant-loop-first g l =
    let base = (g.B.Seen.screen l.base).cells in
    let cells = (g.S.Seen.screen l.shot).cells in
    record {
      high : l.first ≤ length cells;
      few : l.count ≤ l.first;
      differs : l.first < length cells → ¬ (glyph_at base l.first ≡ glyph_at cells l.first);
      are : AreNumbers l.numbers;
      styles : length (styles_of (form_in l.numbers)) ≤ l.first;
      text : l.text.items ++ runs_said (form_in l.numbers) (runs_from false l.first (drop l.first base) (drop l.first cells))
          ≡ l.fn.text.items ++ runs_said (form_in l.fn.numbers) (runs_between base cells);
      used : form_behind (form_in l.numbers) (runs_from false l.first (drop l.first base) (drop l.first cells))
          ≡ form_behind (form_in l.fn.numbers) (runs_between base cells);
      count : l.count + length (runs_from false l.first (drop l.first base) (drop l.first cells)) ≡ length (runs_between base cells);
    }

abbrev pub decreases-loop-first : goal.decreases-loop-first
decreases-loop-first g l = length (g.S.Seen.screen l.shot).cells - l.first
