use Rattle.std.proofs.Common.{◌≡◌, ◌∙◌, ◌<◌, [], ap, sym, arith, get_or, subst}
use Rattle.std.proofs.lemmas.List.{get_or_read}
use Rattle.roam_cells.specs.Place.{row_of}
use Rattle.roam_screens.specs.Screenshot.{Screenshot}
use Rattle.roam_screens.proofs.Lined.{joined_row}
use Rattle.roam_screens.proofs.row_shots.RowShotSeen.row.Goals as goal

pub returns-clause-row : goal.returns-clause-row
returns-clause-row c =
    let a = c.self.inside in
    let below = subst (λ (s : Screenshot). c.args.i < s.rows) (sym c.self.view_is) c.requires.row in
    let line : c.cells.result.now ≡ get_or a.lines.items c.args.i [] =
    c.cells.ensures.cells ∙ get_or_read a.lines.items c.args.i c.index.result.now (omega (arith, c.self.invariant.lines.count, below)) c.index.ensures [] in
    line ∙ sym (joined_row a.cols a.rows a.lines.items c.args.i c.self.invariant.lines below)
    ∙ ap (λ (s : Screenshot). row_of s.cols s.cells c.args.i) c.self.view_is
