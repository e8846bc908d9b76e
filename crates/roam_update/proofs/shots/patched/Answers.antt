use Rattle.std.proofs.Common.{◌≡◌, ℕ, List, Some, subst, sym, ap, ◌∙◌, rules}
use Rattle.std.proofs.lemmas.Option.{none-some}
use Rattle.roam_cells.specs.Glyph.{Glyph}
use Rattle.roam_cells.specs.Place.{AreWhole}
use Rattle.roam_screens.specs.Lines.{cells_in_order, AreLines}
use Rattle.roam_update.specs.Put.{cells_by, runs_put}
use Rattle.roam_update.proofs.Drafted.{whole_all, all_whole}
use Rattle.roam_update.proofs.shots.patched.Goals as goal

pub returns-in_err-put_runs-clause-bad : goal.returns-in_err-put_runs-clause-bad
returns-in_err-put_runs-clause-bad c =
    λ e cells is whole.
    let none = c.in_err-put_runs.ensures.bad (search rules) in
    none-some cells (sym (ap (λ (l : List Glyph). runs_put c.args.form.now c.args.n 0 l c.args.text.now) (sym c.in_ok-rows.ensures.cells) ∙ none) ∙ is)

pub returns-in_err-lines-clause-bad : goal.returns-in_err-lines-clause-bad
returns-in_err-lines-clause-bad c =
    λ e cells is whole.
    let h = c.args.head in
    let new = c.put_runs.new.rows.items in
    let are : AreLines h.rows h.cols new = subst (λ (n : ℕ). AreLines n h.cols new) c.in_ok-rows.ensures.lines.count c.in_ok-put_runs.ensures.lines in
    let put : cells_by c.args.form.now c.args.n c.args.base.now h c.args.text.now ≡ Some (cells_in_order new) =
    ap (λ (l : List Glyph). runs_put c.args.form.now c.args.n 0 l c.args.text.now) (sym c.in_ok-rows.ensures.cells) ∙ c.in_ok-put_runs.ensures.ok in
    let both : Some cells ≡ Some (cells_in_order new) = sym is ∙ put in
    let same : cells ≡ cells_in_order new = cc in
    c.in_err-lines.ensures.bad (search rules) (all_whole h.rows h.cols new are (subst (λ (l : List Glyph). AreWhole h.rows h.cols l) same whole))

pub returns-clause-lines : goal.returns-clause-lines
returns-clause-lines c =
    let h = c.args.head in
    let new = c.put_runs.new.rows.items in
    let are : AreLines h.rows h.cols new = subst (λ (n : ℕ). AreLines n h.cols new) c.in_ok-rows.ensures.lines.count c.in_ok-put_runs.ensures.lines in
    subst (λ (l : List (List Glyph)). AreLines h.rows h.cols l) (sym c.in_ok-lines.ensures.ok) are

pub returns-clause-ok : goal.returns-clause-ok
returns-clause-ok c =
    ap (λ (l : List Glyph). runs_put c.args.form.now c.args.n 0 l c.args.text.now) (sym c.in_ok-rows.ensures.cells) ∙ c.in_ok-put_runs.ensures.ok
    ∙ ap (λ (l : List (List Glyph)). Some (cells_in_order l)) (sym c.in_ok-lines.ensures.ok)

pub returns-clause-whole : goal.returns-clause-whole
returns-clause-whole c =
    let h = c.args.head in
    let new = c.put_runs.new.rows.items in
    let are : AreLines h.rows h.cols new = subst (λ (n : ℕ). AreLines n h.cols new) c.in_ok-rows.ensures.lines.count c.in_ok-put_runs.ensures.lines in
    subst (λ (l : List (List Glyph)). AreWhole h.rows h.cols (cells_in_order l)) (sym c.in_ok-lines.ensures.ok) (whole_all h.rows h.cols new are c.in_ok-lines.ensures.whole)
