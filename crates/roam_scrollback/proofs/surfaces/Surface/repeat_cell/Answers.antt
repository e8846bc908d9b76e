use Rattle.std.proofs.Common.{◌≡◌, suc, ◌+◌, ◌-◌, ◌++◌, replicate, refl, sym, ap, subst, ◌∙◌, arith}
use Rattle.roam_grid.specs.Screen.{Screen}
use Rattle.roam_grid.specs.Writing.{put_on, put_all}
use Rattle.roam_grid.specs.declared.writing.Writing.{Writing}
use Rattle.roam_history.specs.Histories.{Scrollback}
use Rattle.roam_term.specs.Leaving.{left_by_put}
use Rattle.roam_term.specs.Terminal.{Live, writing_under}
use Rattle.roam_term.proofs.Prints.{put_step, put_none}
use Rattle.roam_scrollback.specs.Lines.{rows_with, Writes}
use Rattle.roam_scrollback.specs.Sources.{SurfaceView, rows_by_puts, wraps_puts}
use Rattle.roam_scrollback.specs.Wraps.{wraps_put}
use Rattle.roam_scrollback.proofs.Repeats.{Keeps, again-one, wraps_step, rows_step, has-then}
use Rattle.roam_scrollback.proofs.surfaces.Surface.repeat_cell.Goals as goal

pub loop-preserved : goal.loop-preserved
loop-preserved c =
    let l = c.loop in
    let old = c.self.inside.canvas.live in
    let now = l.self-inside.canvas.live in
    let wraps = l.self-inside.wraps in
    let new = c.perform.new.self.live in
    let g = c.args.cell.now in
    let w = writing_under old.modes in
    let n = c.args.n - l.counter in
    let m = c.args.n - (l.counter + 1) in
    let less : n ≡ suc m = omega (arith, c.loop-test.true) in
    let live : now ≡ record old { screen = now.screen } = l.invariant.live in
    let kept_before : Keeps old.printed g old =
    subst (λ (v : SurfaceView). Keeps v.live.printed g v.live) (sym c.self.view_is) c.requires.printed in
    let kept : Keeps now.printed g now = subst (λ (t : Live). Keeps t.printed g t) (sym live) kept_before in
    let modes : writing_under now.modes ≡ w = ap (λ (t : Live). writing_under t.modes) live in
    let next : new ≡ record old { screen = put_on g w now.screen } =
    c.perform.ensures.performed ∙ again-one now.printed now g refl kept
    ∙ ap (λ v. record now { screen = put_on g v now.screen }) modes
    ∙ ap (λ (t : Live). record t { screen = put_on g w now.screen }) live in
    let screen : new.screen ≡ put_on g w now.screen = ap (λ (t : Live). t.screen) next in
    let flags : c.put.new.wraps ≡ wraps_put g w now.screen wraps =
    c.put.ensures.wraps ∙ ap (λ v. wraps_put g v c.grid.result.now.screen wraps) (c.writing.ensures.writing ∙ modes)
    ∙ ap (λ s. wraps_put g w s wraps) c.grid.ensures.screen in
    let written : Writes l.lines c.put.new.lines (rows_with (left_by_put g w now.screen) wraps) =
    subst (λ (s : Screen). Writes l.lines c.put.new.lines (rows_with (left_by_put g w s) wraps)) c.grid.ensures.screen
    (subst (λ (v : Writing). Writes l.lines c.put.new.lines (rows_with (left_by_put g v c.grid.result.now.screen) wraps))
    (c.writing.ensures.writing ∙ modes) c.put.ensures.written) in
    record {
      live = next ∙ ap (λ s. record old { screen = s }) (sym screen);
      screen = ap (put_all (replicate m g) w) screen ∙ sym (put_step g w now.screen n m less) ∙ l.invariant.screen;
      wraps =
          ap (λ s. wraps_puts (replicate m g) w s c.put.new.wraps) screen
          ∙ ap (wraps_puts (replicate m g) w (put_on g w now.screen)) flags
          ∙ sym (wraps_step g w now.screen wraps n m less) ∙ l.invariant.wraps;
      written =
          has-then c.args.lines.now l.lines c.put.new.lines (rows_with (left_by_put g w now.screen) wraps)
          (rows_by_puts (replicate m g) w new.screen c.put.new.wraps) (rows_by_puts (replicate n g) w now.screen wraps)
          (rows_by_puts (replicate c.args.n g) w old.screen c.self.inside.wraps) l.invariant.written written
          (rows_step g w now.screen wraps n m less
          ∙ ap (λ r. rows_with (left_by_put g w now.screen) wraps ++ r)
          (ap (λ s. rows_by_puts (replicate m g) w s (wraps_put g w now.screen wraps)) (sym screen)
          ∙ ap (rows_by_puts (replicate m g) w new.screen) (sym flags)));
      cols = ap (λ (h : Scrollback). h.cols) c.perform.ensures.history ∙ l.invariant.cols ∙ sym c.perform.ensures.size.cols;
    }

pub returns-clause-live : goal.returns-clause-live
returns-clause-live c =
    let l = c.loop in
    let old = c.self.inside.canvas.live in
    let now = l.self-inside.canvas.live in
    let g = c.args.cell.now in
    let w = writing_under old.modes in
    let n = c.args.n - l.counter in
    l.invariant.live
    ∙ ap (λ s. record old { screen = s }) (sym (put_none g w now.screen n (omega (arith, c.loop-test.false))) ∙ l.invariant.screen)
    ∙ ap (λ (v : SurfaceView). record v.live { screen = put_all (replicate c.args.n g) (writing_under v.live.modes) v.live.screen }) c.self.view_is
