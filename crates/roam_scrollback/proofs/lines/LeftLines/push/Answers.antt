use Rattle.std.proofs.Common.{◌≡◌, ◌++◌, replicate, ap, sym, ◌∙◌}
use Rattle.roam_cells.specs.Glyph.{blank}
use Rattle.roam_scrollback.specs.Lines.{LeftRow, LinesView}
use Rattle.roam_scrollback.proofs.Writing.{lost-one, wrote}
use Rattle.roam_scrollback.proofs.lines.LeftLines.push.Goals.{then-self-eq0+in_default, else-self-eq0}
use Rattle.roam_scrollback.proofs.lines.LeftLines.push.Goals as goal

pub returns-in-Ok : goal.returns-in-Ok
returns-in-Ok c = record {
  written = λ n full. wrote c.args.self.now c.keep_and_add.new.self c.args.wrap c.args.front.now n full
      (ap (λ (v : LinesView). v.lost) (sym c.self.view_is) ∙ c.if-self-eq0.true)
      c.in-Ok.ensures.added (c.in-Ok.ensures.kept n full);
}

pub returns : goal.returns
returns c = record {
  written = λ n full.
      let row : LeftRow = record { wrap = c.args.wrap; cells = c.args.front.now ++ replicate n blank } in
      let same : c.if-self-eq0.self ≡ record c.args.self.now { kept = c.if-self-eq0.self.kept } = elim c.if-self-eq0.branch [
        | then-self-eq0+in_default w ↦ w.self-is ∙ w.in_default.ensures.err
            ∙ ap (λ (v : LinesView). record c.args.self.now { kept = v.kept }) (sym w.self-is)
        | else-self-eq0 w ↦ w.self-is ∙ ap (λ (v : LinesView). record c.args.self.now { kept = v.kept }) (sym w.self-is)
      ] in
      lost-one c.args.self.now c.if-self-eq0.self c.lose.new.self row same c.lose.ensures.lost;
}
