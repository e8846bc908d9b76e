use Rattle.std.proofs.Common.{◌≡◌, ◌-◌, ◌+◌, ◌≤◌, ◌++◌, length}
use Rattle.std.specs.Prelude.{slice_range}
use Rattle.roam_update.specs.Numbers.{AreNumbers, form_in, styles_of, form_over, cells_said}
use Rattle.roam_update.proofs.change_text.add_places.Given as goal

abbrev pub invariant-loop-place : goal.invariant-loop-place
invariant-loop-place g l =
    let cells = (g.S.Seen.screen l.shot).cells in
    record {
      low : l.first ≤ l.place;
      high : l.place ≤ l.end;
      are : AreNumbers l.numbers;
      few : length (styles_of (form_in l.numbers)) ≤ length (styles_of (form_in l.fn.numbers)) + (l.place - l.first);
      form : form_over (form_in l.numbers) (slice_range cells l.place l.end) ≡ form_over (form_in l.fn.numbers) (slice_range cells l.first l.end);
      text : l.text.items ++ cells_said (form_in l.numbers) (slice_range cells l.place l.end)
          ≡ l.fn.text.items ++ cells_said (form_in l.fn.numbers) (slice_range cells l.first l.end);
    }

abbrev pub decreases-loop-place : goal.decreases-loop-place
decreases-loop-place g l = l.end - l.place
