use Rattle.std.proofs.Common.{◌≡◌, ◌∙◌, ◌<◌, ◌+◌, [], Bool, true, false, ◌&&◌, cond, eqb, refl, sym, ap}
use Rattle.roam_cells.specs.Glyph.{Glyph}
use Rattle.roam_grid.specs.Screen.{Screen}
use Rattle.roam_grid.specs.Writing.{columns}
use Rattle.roam_grid.specs.declared.writing.Writing.{Writing}
use Rattle.roam_grid.proofs.Puts.{leaves_inside}
use Rattle.roam_term.specs.Leaving.{left_by_put, top_rows}
use Rattle.roam_term.specs.Terminal.{on_main, with_rows}
use Rattle.roam_term.proofs.Scrollback.{main_stays}
use Rattle.roam_term.proofs.printing.put.Goals as goal

and_nothing : (a b : Bool) → b ≡ false → (a && b) ≡ false
and_nothing true b e = e
and_nothing false b e = refl

-- a cell with room after it makes no row leave
none_left : (g : Glyph) (w : Writing) (s : Screen) → s.pending ≡ false → s.col + columns g < s.cols → left_by_put g w s ≡ []
none_left g w s none room =
    ap (λ b. cond b (top_rows 1 s) []) (and_nothing (eqb s.top 0) _ (leaves_inside (columns g) w s none room))

pub returns-then-fits_inside-clause-history : goal.returns-then-fits_inside-clause-history
returns-then-fits_inside-clause-history c =
    let a = c.args in
    sym (main_stays a.alternate a.history.now c.stays.ensures.stays)
    ∙ sym (ap (λ rows. with_rows (on_main a.alternate rows) a.history.now)
    (none_left a.cell a.writing a.grid.now.screen (c.if-fits_inside.ensures.settled refl) (c.if-fits_inside.ensures.room refl)))
