use Rattle.std.proofs.Common.{◌≡◌, List, [], ◌∷◌, ◌++◌, sym, ap, ◌∙◌, subst}
use Rattle.roam_text.specs.Log.{Item, Resized}
use Rattle.roam_text.specs.Functions.{functions_of}
use Rattle.roam_text.specs.Stands.{Stands}
use Rattle.roam_text.specs.declared.functions.Function.TheVariants.{Size}
use Rattle.roam_grid.specs.Frames.{leaving}
use Rattle.roam_grid.specs.Screen.{Screen}
use Rattle.roam_history.specs.Histories.{Scrollback}
use Rattle.roam_history.specs.Fitting.{after_refit}
use Rattle.roam_term.specs.Sizes.{TermSize}
use Rattle.roam_term.specs.Leaving.{top_rows}
use Rattle.roam_term.specs.Terminal.{Live, on_main, with_rows}
use Rattle.roam_term.proofs.Lists.{append-nil}
use Rattle.roam_term.proofs.Runs.{follows-out}
use Rattle.roam_term.proofs.Resizes.{rows-sized, cols-sized, lived-size, kept-size, answered-size, marked-size}
use Rattle.roam_term.proofs.terms.Term.adopt.Goals as goal

pub invariant_of-self : goal.invariant_of-self
invariant_of-self c =
    let f = c.fitted.inside in
    ap (λ (h : Scrollback). h.cols) c.adopt-2.ensures.history ∙ c.fitted.invariant.cols
    ∙ sym (ap (λ (l : Live). l.screen.cols) c.adopt.ensures.sized ∙ cols-sized f.shown.rows f.shown.cols c.self.inside.canvas.live)

pub returns-clause-screen : goal.returns-clause-screen
returns-clause-screen c =
    let f = c.fitted.inside in
    let live = c.self.inside.canvas.live in
    rw (← c.fitted.view_is) (
      ap (λ (l : Live). l.screen.rows) c.adopt.ensures.sized ∙ rows-sized f.shown.rows f.shown.cols live,
      ap (λ (l : Live). l.screen.cols) c.adopt.ensures.sized ∙ cols-sized f.shown.rows f.shown.cols live,
    )

pub returns-clause-sized : goal.returns-clause-sized
returns-clause-sized c =
    let f = c.fitted.inside in
    let live = c.self.inside.canvas.live in
    let waiting = c.self.inside.output in
    let rows : c.rows-rows.result ≡ f.shown.rows = c.rows-rows.ensures.rows ∙ ap (λ (t : TermSize). t.rows) (sym c.fitted.view_is) in
    let cols : c.cols-cols.result ≡ f.shown.cols = c.cols-cols.ensures.cols ∙ ap (λ (t : TermSize). t.cols) (sym c.fitted.view_is) in
    let resized : Resized c.rows-rows.result c.cols-cols.result ∷ [] ≡ Resized f.shown.rows f.shown.cols ∷ [] =
    ap (λ r. Resized r c.cols-cols.result ∷ []) rows ∙ ap (λ n. Resized f.shown.rows n ∷ []) cols in
    let size : c.size.result ≡ Size f.shown.rows f.shown.cols =
    c.size.ensures.function ∙ ap (λ r. Size r c.cols-cols.result) rows ∙ ap (Size f.shown.rows) cols in
    rw (← c.self.view_is, ← c.fitted.view_is)
    (follows-out _ _ (Resized f.shown.rows f.shown.cols ∷ []) (Size f.shown.rows f.shown.cols ∷ [])
    (λ log stands. subst (λ (items : List Item). Stands c.self.inside.reader (log ++ items)) resized (c.size.ensures.stands log stands))
    (λ log stands. sym (ap (λ items. functions_of (log ++ items)) resized) ∙ c.size.ensures.gained log stands ∙ ap (λ f. functions_of log ++ f ∷ []) size)
    (c.adopt.ensures.sized ∙ sym (lived-size f.shown.rows f.shown.cols live))
    (c.adopt-2.ensures.history ∙ ap (λ n. after_refit n c.leave_by_size.new.history) c.fitted.invariant.cols
    ∙ ap (after_refit f.shown.cols)
    (c.leave_by_size.ensures.history
    ∙ ap (λ (s : Screen). with_rows (on_main c.is_alternate-alternate.result (top_rows (leaving c.rows-rows.result s) s)) c.self.inside.history) c.grid.ensures.screen
    ∙ ap (λ b. with_rows (on_main b (top_rows (leaving c.rows-rows.result live.screen) live.screen)) c.self.inside.history) c.is_alternate-alternate.ensures.alternate
    ∙ ap (λ r. with_rows (on_main live.alternate (top_rows (leaving r live.screen) live.screen)) c.self.inside.history) rows)
    ∙ sym (kept-size f.shown.rows f.shown.cols live c.self.inside.history))
    (sym (ap (λ a. waiting ++ a) (answered-size f.shown.rows f.shown.cols live) ∙ append-nil waiting))
    (c.adopt.ensures.marks ∙ sym (marked-size f.shown.rows f.shown.cols live c.self.inside.canvas.marks)))
