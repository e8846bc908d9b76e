use Rattle.std.proofs.Common.{◌≡◌, ◌∙◌, ap, sym, ◌<◌, refl, length, subst}
use Rattle.roam_cells.specs.Place.{IsWholeRow, AreUnguarded, AreShown, row_of}
use Rattle.roam_screens.specs.RowShots.{shown_by}
use Rattle.roam_screens.specs.Screenshot.{Screenshot}
use Rattle.roam_screens.specs.Lines.{with_row}
use Rattle.roam_screens.proofs.Lined.{set_lines, set_screen, set_is, set_row_here, set_row_other}
use Rattle.roam_screens.proofs.row_shots.RowShot.set_row.Goals as goal

pub invariant_of-self : goal.invariant_of-self
invariant_of-self c =
    let s = shown_by c.self.inside in
    let line = c.in_ok-line.line in
    let is : line ≡ c.args.cells.now = c.in_ok-line.ensures.line in
    let kept = c.self.invariant in
    let below = subst (λ (s : Screenshot). c.args.i < s.rows) (sym c.self.view_is) c.requires.row in
    let long = ap length is ∙ c.requires.count ∙ ap (λ (s : Screenshot). s.cols) (sym c.self.view_is) in
    record {
      lines = set_lines s c.self.inside.lines.items c.args.i line kept.lines below long;
      screen = set_screen s c.self.inside.lines.items c.args.i line kept.lines below long refl kept.screen
          (subst IsWholeRow (sym is) c.requires.whole) (subst AreUnguarded (sym is) c.requires.unguarded)
          (subst AreShown (sym is) c.facts_of.ensures.shown);
    }

pub returns-clause-ok : goal.returns-clause-ok
returns-clause-ok c =
    let s = shown_by c.self.inside in
    let line = c.in_ok-line.line in
    let is : line ≡ c.args.cells.now = c.in_ok-line.ensures.line in
    let below = subst (λ (s : Screenshot). c.args.i < s.rows) (sym c.self.view_is) c.requires.row in
    let long = ap length is ∙ c.requires.count ∙ ap (λ (s : Screenshot). s.cols) (sym c.self.view_is) in
    set_is s c.self.inside.lines.items c.args.i line c.self.invariant.lines below long refl
    ∙ (λ j. with_row c.args.i (is j) (c.self.view_is j))

pub returns-clause-here : goal.returns-clause-here
returns-clause-here c =
    let s = shown_by c.self.inside in
    let is : c.in_ok-line.line ≡ c.args.cells.now = c.in_ok-line.ensures.line in
    let below = subst (λ (s : Screenshot). c.args.i < s.rows) (sym c.self.view_is) c.requires.row in
    let long = ap length is ∙ c.requires.count ∙ ap (λ (s : Screenshot). s.cols) (sym c.self.view_is) in
    set_row_here s c.self.inside.lines.items c.args.i c.in_ok-line.line c.self.invariant.lines below long ∙ is

pub returns-clause-others : goal.returns-clause-others
returns-clause-others c =
    λ r q d.
    let s = shown_by c.self.inside in
    let is : c.in_ok-line.line ≡ c.args.cells.now = c.in_ok-line.ensures.line in
    let below = subst (λ (s : Screenshot). c.args.i < s.rows) (sym c.self.view_is) c.requires.row in
    let long = ap length is ∙ c.requires.count ∙ ap (λ (s : Screenshot). s.cols) (sym c.self.view_is) in
    set_row_other s c.self.inside.lines.items c.args.i c.in_ok-line.line c.self.invariant.lines below long r q d
    ∙ ap (λ (t : Screenshot). row_of s.cols t.cells r) c.self.view_is
