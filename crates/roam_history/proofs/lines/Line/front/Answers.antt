use Rattle.roam_history.proofs.Refitting.{line_is_front}
use Rattle.roam_history.proofs.lines.Line.front.Goals as goal

pub returns-clause-row : goal.returns-clause-row
returns-clause-row c =
    let f = c.self.inside in
    rw (← c.self.view_is, c.deref.ensures.value) (line_is_front f.written f.cells.items c.self.invariant)
