use Rattle.std.proofs.Common.{◌≡◌, ◌∙◌, refl, sym, arith, true, false}
use Rattle.std.proofs.lemmas.Bool.{false≢true}
use Rattle.roam_grid.specs.Writing.{wrap_done}
use Rattle.roam_grid.proofs.Puts.{settled_cols}
use Rattle.roam_term.proofs.Scrollback.{settled_col}
use Rattle.roam_term.proofs.printing.columns_left.Goals as goal

pub returns-then-pending-clause-left : goal.returns-then-pending-clause-left
returns-then-pending-clause-left c =
    let s = c.args.grid.now.screen in
    let yes : s.pending ≡ true = sym c.pending.ensures.pending ∙ c.if-pending.true in
    let col : (wrap_done s).col ≡ 0 = settled_col s 0 (λ e. refl) (λ e. absurd (false≢true (sym e ∙ yes))) in
    omega (arith, col, settled_cols s, c.cols.ensures.cols)

pub returns-else-pending-clause-left : goal.returns-else-pending-clause-left
returns-else-pending-clause-left c =
    let s = c.args.grid.now.screen in
    let no : s.pending ≡ false = sym c.pending.ensures.pending ∙ c.if-pending.false in
    let col : (wrap_done s).col ≡ s.col = settled_col s s.col (λ e. absurd (false≢true (sym no ∙ e))) (λ e. refl) in
    omega (arith, col, settled_cols s, c.room.ensures.room)
