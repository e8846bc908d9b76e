use Rattle.roam_grid.specs.Marks.{all_on}
use Rattle.roam_session.proofs.KeepingRows.{all_kept}
use Rattle.roam_session.proofs.faces.face_of.Goals as goal

pub face_over-requires-2-clause-kept : goal.face_over-requires-2-clause-kept
unfolding all_on
face_over-requires-2-clause-kept g c picture show = all_kept c.in_ok-blank.blank c.args.layout.now picture c.facts.ensures.plan.size.1
