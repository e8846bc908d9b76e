use Rattle.std.proofs.Common.{◌≡◌, ◌++◌, string_bytes}
use Rattle.roam_show.specs.ShowText.{first_rows}
use Rattle.roam_show.proofs.show.push_screen.Given as goal

abbrev pub invariant-loop-row : goal.invariant-loop-row
invariant-loop-row g l =
    string_bytes l.text ≡ string_bytes l.initial.text ++ first_rows l.row (g.S.Seen.screen l.shot).cols (g.S.Seen.screen l.shot).cells
