use Rattle.roam_term.proofs.Adding.{marks_are_added}
use Rattle.roam_term.proofs.UnmarkedRows.{unmarked_rows_stay}
use Rattle.roam_term.proofs.laws.what_marks_say.Goals as goal

pub returns : goal.returns
returns c = record { added = marks_are_added; stay = unmarked_rows_stay }
