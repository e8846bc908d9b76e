use Rattle.std.proofs.Common.{◌≡◌, ◌++◌}
use Rattle.roam_display_records.specs.Looks.{head_line, rows_text}
use Rattle.roam_display_records.proofs.looks.screen_text.Given as goal

abbrev pub invariant-loop-row : goal.invariant-loop-row
invariant-loop-row g l = l.text.items ≡ head_line (g.S.Seen.screen l.shot) ++ rows_text l.looking (g.S.Seen.screen l.shot) l.row
