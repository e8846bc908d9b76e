-- An entry puts marks on: none goes off.
use Rattle.std.proofs.Common.{ℕ, Bool, List, Option, Some, None}
use Rattle.roam_acts.specs.declared.acts.Act.{Act}
use Rattle.roam_keys.specs.declared.keys.Key.{Key}
use Rattle.roam_term.proofs.Adding.{Adds, same_adds, also_adds}
use Rattle.roam_layout.specs.Layouts.{Plan, Outcome, Laid, Refused, outcome_of, panes}
use Rattle.roam_layout.specs.Rects.{rect_in}
use Rattle.roam_layout.specs.declared.rects.Rect.{Rect}
use Rattle.roam_session.specs.Marks.{view_in, is_touched, touched_marks, named_by, is_concerned, marks_laid, marks_acted, MarksAreAdded}
use Rattle.roam_session.specs.Sessions.{Given, Did, Drained, SessionState, key_in}

touched_adds : (o : Option Rect) (v : Option ℕ) (rows : ℕ) (named : List Bool) → Adds (touched_marks o v rows named)
touched_adds None v rows named = same_adds
touched_adds (Some x) None rows named = same_adds
touched_adds (Some x) (Some view) rows named = also_adds (is_touched x view rows named)

laid_adds : (act : Act) (old : Plan) (o : Outcome) → Adds (marks_laid act old o)
laid_adds act old (Laid new) = also_adds (is_concerned act old new)
laid_adds act old (Refused fault) = same_adds

acted_adds : (o : Option Key) (act : Act) (s : SessionState) → Adds (marks_acted o act s)
acted_adds (Some key) act s = same_adds
acted_adds None act s = laid_adds act s.plan (outcome_of s.plan act)

pub marks_are_added : MarksAreAdded
marks_are_added s (Given p bytes) = touched_adds (rect_in p (panes s.plan)) (view_in s.plan p) s.plan.rows (named_by bytes (s.pane p))
marks_are_added s (Did client act) = acted_adds (key_in act) act s
marks_are_added s (Drained p n) = same_adds
