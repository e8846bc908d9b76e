use Rattle.std.proofs.Common.{◌∙◌, ◌<◌, [], ap, sym, arith, subst}
use Rattle.std.proofs.lemmas.List.{get_or_read}
use Rattle.roam_cells.specs.Place.{row_of}
use Rattle.roam_screens.specs.Screenshot.{Screenshot}
use Rattle.roam_screens.proofs.Lined.{joined_row}
use Rattle.roam_screens.proofs.row_shots.RowShot.line.Goals as goal

pub returns : goal.returns
returns c =
    let a = c.self.inside in
    let below = subst (λ (s : Screenshot). c.args.i < s.rows) (sym c.self.view_is) c.requires.row in
    record {
      line =
          get_or_read a.lines.items c.args.i c.index.result.now (omega (arith, c.self.invariant.lines.count, below)) c.index.ensures []
          ∙ sym (joined_row a.cols a.rows a.lines.items c.args.i c.self.invariant.lines below)
          ∙ ap (λ (s : Screenshot). row_of s.cols s.cells c.args.i) c.self.view_is;
    }
