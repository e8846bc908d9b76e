use Rattle.std.proofs.Common.{◌≡◌, ℕ, Bool, true, false, sym, subst, ◌∙◌}
use Rattle.roam_grid.specs.Frames.{leaving}
use Rattle.roam_grid.specs.Screen.{Screen}
use Rattle.roam_scrollback.specs.Lines.{LinesView, Writes, rows_with}
use Rattle.roam_scrollback.proofs.Writing.{writes-none}
use Rattle.roam_scrollback.proofs.surfaces.Surface.leave_by_size.Goals.{then-not-alternate, else-not-alternate}
use Rattle.roam_scrollback.proofs.surfaces.Surface.leave_by_size.Goals as goal
use Rattle.roam_term.specs.Leaving.{top_rows}
use Rattle.roam_term.specs.Terminal.{on_main}

pub returns-clause-written : goal.returns-clause-written
returns-clause-written c =
    let live = c.self.inside.canvas.live in
    let wraps = c.self.inside.wraps in
    let lines = c.args.lines.now in
    let later = c.if-not-alternate.lines in
    let rows = c.args.rows in
    rw (← c.self.view_is)
    (elim c.if-not-alternate.branch [
      | then-not-alternate w ↦
          let main : false ≡ live.alternate = sym w.if-not-alternate.true ∙ c.is_alternate-alternate.ensures.alternate in
          subst (λ (v : LinesView). Writes lines v (rows_with (on_main live.alternate (top_rows (leaving rows live.screen) live.screen)) wraps))
          (sym w.lines-is)
          (subst
          (λ (b : Bool). Writes lines w.push_top.new.lines (rows_with (on_main b (top_rows (leaving rows live.screen) live.screen)) wraps)) main
          (subst (λ (s : Screen). Writes lines w.push_top.new.lines (rows_with (top_rows (leaving rows s) s) wraps)) c.grid-grid.ensures.screen
          (subst (λ (n : ℕ). Writes lines w.push_top.new.lines (rows_with (top_rows n c.grid-grid.result.now.screen) wraps))
          w.leaving.ensures.leaving w.push_top.ensures.written)))
      | else-not-alternate w ↦
          let other : true ≡ live.alternate = sym w.if-not-alternate.false ∙ c.is_alternate-alternate.ensures.alternate in
          subst (λ (v : LinesView). Writes lines v (rows_with (on_main live.alternate (top_rows (leaving rows live.screen) live.screen)) wraps))
          (sym w.lines-is)
          (subst (λ (b : Bool). Writes lines lines (rows_with (on_main b (top_rows (leaving rows live.screen) live.screen)) wraps)) other
          (writes-none lines c.facts.ensures.lost))
    ])
