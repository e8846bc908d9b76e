use Rattle.std.proofs.Common.{ℕ, ◌++◌, ◌∷◌, [], length, get_or, subst, sym, ap, ◌∙◌, length-append, below_more, arith, rules}
use Rattle.roam_cells.specs.Place.{IsWholeRow}
use Rattle.roam_update.proofs.Drafted.{taken, taken_below, taken_on}
use Rattle.roam_update.proofs.drafts.lines_of.Goals as goal

pub returns-in_err-line-clause-bad : goal.returns-in_err-line-clause-bad
returns-in_err-line-clause-bad c =
    λ e each.
    let rows = c.args.rows.items in
    let done = c.loop-row.lines.items in
    let rest = c.next.new.self.rest.items in
    let left = ap (λ l. done ++ l) (sym c.in-Some.ensures.steps.0) ∙ c.loop-row.invariant.lines in
    let is = taken done c.in-Some.row rest rows left in
    c.in_err-line.ensures.bad (search rules) (subst IsWholeRow is (each (length done) (taken_below done c.in-Some.row rest rows left)))

pub loop-row-preserved : goal.loop-row-preserved
loop-row-preserved c =
    let rows = c.args.rows.items in
    let done = c.loop-row.lines.items in
    let rest = c.next.new.self.rest.items in
    let left = ap (λ l. done ++ l) (sym c.in-Some.ensures.steps.0) ∙ c.loop-row.invariant.lines in
    let is = taken done c.in-Some.row rest rows left in
    let all = below_more (λ (r : ℕ). IsWholeRow (get_or rows r [])) (length done) c.loop-row.invariant.whole (subst IsWholeRow (sym is) c.in_ok-line.ensures.whole) in
    let pushed = c.in_ok-push.ensures.items ∙ ap (λ l. done ++ l ∷ []) c.in_ok-line.ensures.ok in
    record {
      lines = ap (λ l. l ++ rest) pushed ∙ taken_on done c.in-Some.row rest rows left;
      whole = λ r p. all r (omega (arith, p, ap length pushed, length-append done (c.in-Some.row ∷ [])));
    }
