use Rattle.std.proofs.Common.{◌≡◌}
use Rattle.roam_session.specs.Marks.{is_concerned}
use Rattle.roam_session.proofs.Marked.{upto}
use Rattle.roam_session.proofs.marks.mark_laid.Given as goal

abbrev pub invariant-loop-row : goal.invariant-loop-row
invariant-loop-row l = record { marks : l.marks ≡ upto l.row (is_concerned l.act l.old l.new) l.initial.marks }
