use Rattle.roam_scroll_paint.specs.Rows.{KeepsMarks}
use Rattle.roam_scroll_paint.proofs.marks.mark_between.Given as goal

abbrev pub invariant-loop-col : goal.invariant-loop-col
invariant-loop-col l = KeepsMarks l.initial.marks l.marks
