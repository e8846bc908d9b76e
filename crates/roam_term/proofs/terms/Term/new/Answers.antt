use Rattle.std.proofs.Common.{◌≡◌, ◌⊎◌, inl, inr, ℕ, Result, Err, sym, ap, ◌∙◌}
use Rattle.std.proofs.lemmas.Result.{err_from_is_err_and}
use Rattle.roam_cells.specs.declared.faults.Fault.{Fault}
use Rattle.roam_cells.specs.declared.faults.Fault.TheVariants.{BadSize, OutOfMemory}
use Rattle.roam_history.specs.Histories.{empty}
use Rattle.roam_history.specs.Limits.{IsHistorySize}
use Rattle.roam_term.specs.Stands.{TermView, IsTermSize}
use Rattle.roam_term.specs.Terminal.{Live, term, started_terminal, run}
use Rattle.roam_term.proofs.terms.Term.new.Goals as goal

-- a history of a terminal's size is refused for want of memory alone
history_fault : (fault : Fault) (lines cols : ℕ) → (fault ≡ BadSize) ⊎ (fault ≡ OutOfMemory)
    → (fault ≡ BadSize → ¬ IsHistorySize lines cols) → IsHistorySize lines cols → fault ≡ OutOfMemory
history_fault fault lines cols (inl e) bad size = absurd (bad e size)
history_fault fault lines cols (inr e) bad size = e

history_size : (rows cols lines kept wide : ℕ) → IsTermSize rows cols lines → kept ≡ lines → wide ≡ cols
    → IsHistorySize kept wide
history_size rows cols lines kept wide size e f =
    rw (e, f) (record { most_lines = size.history; least_columns = size.screen.least_columns; most_columns = size.screen.most_columns })

no_bad_size : (made : Result TermView Fault) (fault : Fault) → made ≡ Err fault → fault ≡ OutOfMemory → made ≡ Err BadSize → ⊥
no_bad_size made fault e f bad = cc

pub returns-clause-stands : goal.returns-clause-stands
unfolding term
returns-clause-stands c = record {
  reads = c.new-4.ensures.stands;
  live = c.in_ok-canvas.ensures.started ∙ sym (ap (λ fs. (run (started_terminal c.args.rows c.args.cols c.args.lines) fs).live) c.new-4.ensures.empty);
  history = c.in_ok-history.ensures.history ∙ ap (λ n. empty n c.from-2.result) c.from.ensures ∙ ap (empty c.args.lines) c.from-2.ensures
      ∙ sym (ap (λ fs. (run (started_terminal c.args.rows c.args.cols c.args.lines) fs).history) c.new-4.ensures.empty);
}

pub returns-clause-screen : goal.returns-clause-screen
returns-clause-screen c =
    (ap (λ (l : Live). l.screen.rows) c.in_ok-canvas.ensures.started, ap (λ (l : Live). l.screen.cols) c.in_ok-canvas.ensures.started)

pub returns-clause-size : goal.returns-clause-size
returns-clause-size c = record { screen = c.is_size.ensures.size.0 c.if-not-is_size.false; history = c.if-lines-gt-MOST_LINES.false }

pub returns-in_err-canvas : goal.returns-in_err-canvas
returns-in_err-canvas c =
    let size : IsTermSize c.args.rows c.args.cols c.args.lines =
    record { screen = c.is_size.ensures.size.0 c.if-not-is_size.false; history = c.if-lines-gt-MOST_LINES.false } in
    let gone = err_from_is_err_and c.from_residual.result c.from_residual.ensures.1 in
    let fault = gone.2 ∙ c.in_err-canvas.ensures.err in
    record {
      stands = rw gone.1 tt;
      waiting = rw gone.1 tt;
      marks = rw gone.1 tt;
      screen = rw gone.1 tt;
      size = rw gone.1 tt;
      bad_size = (λ e. absurd (no_bad_size c.from_residual.result gone.0 gone.1 fault e), λ bad. absurd (bad size));
      faults = rw gone.1 (inr fault);
    }

pub returns-in_err-history : goal.returns-in_err-history
returns-in_err-history c =
    let size : IsTermSize c.args.rows c.args.cols c.args.lines =
    record { screen = c.is_size.ensures.size.0 c.if-not-is_size.false; history = c.if-lines-gt-MOST_LINES.false } in
    let gone = err_from_is_err_and c.from_residual-in_err-history.result c.from_residual-in_err-history.ensures.1 in
    let history = history_size c.args.rows c.args.cols c.args.lines c.from.result c.from-2.result size c.from.ensures c.from-2.ensures in
    let fault =
    gone.2
    ∙ history_fault c.in_err-history.field-0.0 c.from.result c.from-2.result c.in_err-history.ensures.faults
    (λ e. c.in_err-history.ensures.bad_size.0 (ap Err e)) history in
    record {
      stands = rw gone.1 tt;
      waiting = rw gone.1 tt;
      marks = rw gone.1 tt;
      screen = rw gone.1 tt;
      size = rw gone.1 tt;
      bad_size = (λ e. absurd (no_bad_size c.from_residual-in_err-history.result gone.0 gone.1 fault e), λ bad. absurd (bad size));
      faults = rw gone.1 (inr fault);
    }

pub returns-in_err-output : goal.returns-in_err-output
returns-in_err-output c =
    let size : IsTermSize c.args.rows c.args.cols c.args.lines =
    record { screen = c.is_size.ensures.size.0 c.if-not-is_size.false; history = c.if-lines-gt-MOST_LINES.false } in
    let gone = err_from_is_err_and c.from_residual-in_err-output.result c.from_residual-in_err-output.ensures.1 in
    record {
      stands = rw gone.1 tt;
      waiting = rw gone.1 tt;
      marks = rw gone.1 tt;
      screen = rw gone.1 tt;
      size = rw gone.1 tt;
      bad_size = (λ e. absurd (no_bad_size c.from_residual-in_err-output.result gone.0 gone.1 gone.2 e), λ bad. absurd (bad size));
      faults = rw gone.1 (inr gone.2);
    }
