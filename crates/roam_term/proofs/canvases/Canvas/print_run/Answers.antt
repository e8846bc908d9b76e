use Rattle.std.proofs.Common.{[], ◌∷◌, map, ◌∙◌, sym, ap}
use Rattle.roam_cells.specs.Glyph.{ascii_in}
use Rattle.roam_grid.specs.Marks.{marks_put_all}
use Rattle.roam_grid.specs.Writing.{put_all}
use Rattle.roam_history.specs.Histories.{Scrollback}
use Rattle.roam_term.specs.Leaving.{left_by_puts}
use Rattle.roam_term.specs.Marks.{CanvasView}
use Rattle.roam_term.specs.Terminal.{glyph_in, writing_under, on_main, with_rows}
use Rattle.roam_term.proofs.Prints.{plain_at, printed-run, last_printed-is, kept-run}
use Rattle.roam_term.proofs.Marking.{marked-run}
use Rattle.roam_term.proofs.canvases.Canvas.print_run.Goals as goal

pub put_run-requires : goal.put_run-requires
put_run-requires c = record {
  some = c.requires.some;
  printable = λ k h. plain_at c.args.bytes.now k c.requires.plain h;
  cols = c.requires.cols ∙ ap (λ (v : CanvasView). v.live.screen.cols) (sym c.self.view_is);
}

pub returns : goal.returns
returns c =
    let bytes = c.args.bytes.now in
    let was = c.self.inside in
    record {
      printed =
          rw (← c.self.view_is)
          (λ i. record {
            screen =
                (c.put_run.ensures.screen
                ∙ ap (λ pen. put_all (map (λ b. ascii_in b pen) bytes) c.writing_under.result was.grid.screen) c.space-pen.ensures.cell
                ∙ ap (λ w. put_all (map (λ b. ascii_in b (record { points = 32 ∷ []; style = was.pen.style; guarded = was.pen.guarded })) bytes) w was.grid.screen) c.writing_under.ensures.writing) i;
            other = was.other.screen.cells;
            alternate = was.alternate;
            pen = was.pen;
            modes = was.modes;
            sets = was.sets;
            saved = was.saved;
            saved_alternate = was.saved_alternate;
            printed = sym (last_printed-is was.printed bytes c.requires.some) i;
          })
          ∙ sym (printed-run c.args.self.now.live bytes c.requires.plain c.requires.set c.requires.single);
      marks =
          c.put_run.ensures.marks
          ∙ ap (λ pen. marks_put_all (map (λ b. ascii_in b pen) bytes) c.writing_under.result was.grid.screen was.grid.marks) c.space-pen.ensures.cell
          ∙ ap (λ w. marks_put_all (map (λ b. ascii_in b (record { points = 32 ∷ []; style = was.pen.style; guarded = was.pen.guarded })) bytes) w was.grid.screen was.grid.marks)
          c.writing_under.ensures.writing
          ∙ ap (λ (v : CanvasView). marks_put_all (map (λ b. glyph_in b v.live.pen) bytes) (writing_under v.live.modes) v.live.screen v.marks) c.self.view_is
          ∙ sym (marked-run c.args.self.now.live bytes c.args.self.now.marks c.requires.plain c.requires.set c.requires.single);
      history =
          c.put_run.ensures.history
          ∙ ap (λ pen. with_rows (on_main was.alternate (left_by_puts (map (λ b. ascii_in b pen) bytes) c.writing_under.result was.grid.screen)) c.args.history.now) c.space-pen.ensures.cell
          ∙ ap (λ w. with_rows (on_main was.alternate (left_by_puts (map (λ b. ascii_in b (record { points = 32 ∷ []; style = was.pen.style; guarded = was.pen.guarded })) bytes) w was.grid.screen)) c.args.history.now)
          c.writing_under.ensures.writing
          ∙ ap (λ (v : CanvasView). with_rows (on_main v.live.alternate (left_by_puts (map (λ b. glyph_in b v.live.pen) bytes) (writing_under v.live.modes) v.live.screen)) c.args.history.now) c.self.view_is
          ∙ sym (kept-run c.args.self.now.live bytes c.args.history.now c.requires.plain c.requires.set c.requires.single c.facts.ensures.scrollback.few);
      cols = ap (λ (h : Scrollback). h.cols) c.put_run.ensures.history;
      size = rw (← c.self.view_is) (record { rows = c.put_run.ensures.size.rows; cols = c.put_run.ensures.size.cols });
    }
