use Rattle.std.proofs.Common.{◌≡◌}
use Rattle.roam_session.specs.Marks.{is_touched}
use Rattle.roam_session.proofs.Marked.{upto}
use Rattle.roam_session.proofs.marks.touch.Given as goal

abbrev pub invariant-loop-row : goal.invariant-loop-row
invariant-loop-row l = record { marks : l.marks ≡ upto l.row (is_touched l.fn.rect l.fn.view l.fn.rows l.named) l.initial.marks }
