use Rattle.std.proofs.Common.{◌≡◌, ◌∙◌, List, None, false, length, replicate, sym, ap}
use Rattle.roam_cells.specs.Glyph.{Glyph, blank}
use Rattle.roam_charset.specs.declared.sets.Sets.{Sets}
use Rattle.roam_grid.specs.Screen.{Screen}
use Rattle.roam_grid.specs.Frames.{all_blank, after_restart}
use Rattle.roam_controls.specs.declared.modes.Modes.{Modes}
use Rattle.roam_cells.specs.Inks.{InkValue}
use Rattle.roam_controls.specs.Modes.{started_modes}
use Rattle.roam_term.specs.Pens.{plain_pen}
use Rattle.roam_term.specs.Terminal.{Live}
use Rattle.roam_term.proofs.canvases.Canvas.reset.Goals as goal

with_all : Screen → List Glyph → InkValue → Modes → Sets → Live
with_all s o p m g = record { screen = s; other = o; alternate = false; pen = p; modes = m; sets = g; saved = None; saved_alternate = None; printed = None }

pub returns : goal.returns
unfolding all_blank with_all
returns c =
    let f = c.self.inside in
    let other : c.blank_all.new.self.screen.cells ≡ replicate (length f.other.screen.cells) blank =
    ap (λ (s : Screen). s.cells) c.blank_all.ensures.screen ∙ sym (ap (λ n. replicate n blank) c.facts.ensures.screen.size) in
    let o = c.blank_all.new.self.screen.cells in
    let p = c.plain_pen-self-inside.result in
    let m = c.new-self-inside.result in
    let g = c.new-self-inside-2.result in
    record {
      reset = rw (← c.self.view_is)
          (ap (λ s. with_all s o p m g) c.restart.ensures.screen ∙ ap (λ x. with_all (after_restart f.grid.screen) x p m g) other
          ∙ ap (λ x. with_all (after_restart f.grid.screen) (replicate (length f.other.screen.cells) blank) x m g) c.plain_pen-self-inside.ensures.pen
          ∙ ap (λ x. with_all (after_restart f.grid.screen) (replicate (length f.other.screen.cells) blank) plain_pen x g) c.new-self-inside.ensures.modes
          ∙ ap (λ x. with_all (after_restart f.grid.screen) (replicate (length f.other.screen.cells) blank) plain_pen started_modes x) c.new-self-inside-2.ensures.started);
      marks = c.restart.ensures.marks;
      size = rw (← c.self.view_is) (record { rows = c.restart.ensures.size.rows; cols = c.restart.ensures.size.cols });
    }
