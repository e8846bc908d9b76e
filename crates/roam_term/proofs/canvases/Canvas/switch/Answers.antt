use Rattle.std.proofs.Common.{◌≡◌, ◌∙◌, List, ℕ, false, not, ap}
use Rattle.roam_cells.specs.Glyph.{Glyph}
use Rattle.roam_grid.specs.Screen.{Screen, GridView, IsSameSize}
use Rattle.roam_grid.specs.Frames.{framed_as}
use Rattle.roam_term.specs.Terminal.{Live}
use Rattle.roam_term.proofs.canvases.Canvas.switch.Goals as goal

of_size : Screen → List Glyph → ℕ → ℕ → Screen
of_size s cells rows cols = record { rows = rows; cols = cols; cells = cells; row = s.row; col = s.col; pending = false; top = s.top; bottom = s.bottom; stops = s.stops }

-- the frame of a screen round the cells of another of its size
framed_is : (s t : Screen) → IsSameSize s t → framed_as s t ≡ record s { cells = t.cells; pending = false }
unfolding framed_as of_size
framed_is s t e = ap (λ r. of_size s t.cells r t.cols) e.rows ∙ ap (of_size s t.cells s.rows) e.cols

pub returns : goal.returns
returns c =
    let f = c.self.inside in
    let shows : Screen → List Glyph → Live =
    λ s o. record { screen = s; other = o; alternate = not f.alternate; pen = f.pen; modes = f.modes; sets = f.sets; saved = f.saved; saved_alternate = f.saved_alternate; printed = f.printed } in
    let taken : c.take_frame.new.self.screen ≡ record f.grid.screen { cells = f.other.screen.cells; pending = false } =
    c.take_frame.ensures.screen ∙ ap (λ (y : GridView). framed_as y.screen c.swap.new.x.screen) c.swap.ensures.y_after
    ∙ ap (λ (x : GridView). framed_as f.grid.screen x.screen) c.swap.ensures.x_after ∙ framed_is f.grid.screen f.other.screen c.self.invariant in
    record {
      switched = rw (← c.self.view_is)
          (ap (λ s. shows s c.swap.new.y.screen.cells) taken
          ∙ ap (λ (y : GridView). shows (record f.grid.screen { cells = f.other.screen.cells; pending = false }) y.screen.cells) c.swap.ensures.y_after);
      marks = c.take_frame.ensures.marks;
      size = rw (← c.self.view_is) (record {
        rows = c.take_frame.ensures.size.rows ∙ ap (λ (x : GridView). x.screen.rows) c.swap.ensures.x_after ∙ c.self.invariant.rows;
        cols = c.take_frame.ensures.size.cols ∙ ap (λ (x : GridView). x.screen.cols) c.swap.ensures.x_after ∙ c.self.invariant.cols;
      });
    }
