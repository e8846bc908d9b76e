use Rattle.std.proofs.Common.{List, ℕ, ◌++◌, Some, None, refl, sym, ap, subst, ◌∙◌}
use Rattle.std.proofs.lemmas.Bool.{false≢true}
use Rattle.std.specs.Prelude.{codes}
use Rattle.roam_cells.specs.Limits.{IsSize}
use Rattle.roam_viewport.specs.declared.parts.Part.{Part}
use Rattle.roam_terminal_input.specs.declared.showings.Showing.TheVariants.{Exactly, Following}
use Rattle.roam_terminal_input.proofs.ShownAgain.{pair_found, part_found, no_some, part_only, same_pair, same_part}
use Rattle.roam_terminal_input.proofs.showings.behind_part.Goals as goal

pub returns-then-not-is_size-clause-only : goal.returns-then-not-is_size-clause-only
returns-then-not-is_size-clause-only c =
    let part = c.in-Some.part in
    part_only c.args.text.now (Some part) None c.in-Some.ensures.part
    (λ p e h. absurd (false≢true (c.if-not-is_size.ensures.size.1 (subst (λ (q : Part). IsSize q.rows q.cols) (sym (same_part part p e)) h))))
    (λ a b e g h. absurd cc)

pub returns-in-Some-clause-found : goal.returns-in-Some-clause-found
returns-in-Some-clause-found c =
    let found = part_found c.args.text.now c.in-Some.part (sym c.in-Some.ensures.part) in
    ((found.placed, c.if-not-is_size.ensures.size.0 refl), ap (λ (t : List ℕ). codes "part " ++ t) found.text_is)

pub returns-in-Some-clause-only : goal.returns-in-Some-clause-only
returns-in-Some-clause-only c =
    let part = c.in-Some.part in
    part_only c.args.text.now (Some part) (Some (Exactly part)) c.in-Some.ensures.part
    (λ p e h. ap (λ (q : Part). Some (Exactly q)) (same_part part p e))
    (λ a b e g h. absurd cc)

pub returns-in_err-rows-clause-only : goal.returns-in_err-rows-clause-only
returns-in_err-rows-clause-only c =
    part_only c.args.text.now None c.from_residual.result c.in_default.ensures.part
    (λ p e h. absurd (no_some p e))
    (λ a b e g h. absurd (no_some (a, b) (c.in_err-rows.ensures.pair ∙ g)))

pub returns-then-not-is_size-2-clause-only : goal.returns-then-not-is_size-2-clause-only
returns-then-not-is_size-2-clause-only c =
    part_only c.args.text.now None None c.in_default.ensures.part
    (λ p e h. absurd (no_some p e))
    (λ a b e g h. absurd (false≢true (c.if-not-is_size-2.ensures.size.1
    (subst (λ (q : ℕ × ℕ). IsSize q.0 q.1) (sym (same_pair _ _ (c.in_ok-rows.ensures.pair ∙ g))) h))))

pub returns-clause-found : goal.returns-clause-found
returns-clause-found c =
    let found = pair_found c.args.text.now (c.in_ok-rows.rows, c.in_ok-rows.cols) (sym c.in_ok-rows.ensures.pair) in
    (c.if-not-is_size-2.ensures.size.0 refl, ap (λ (t : List ℕ). codes "part " ++ t) found.text_is)

pub returns-clause-only : goal.returns-clause-only
returns-clause-only c =
    part_only c.args.text.now None (Some (Following c.in_ok-rows.rows c.in_ok-rows.cols)) c.in_default.ensures.part
    (λ p e h. absurd (no_some p e))
    (λ a b e g h. ap (λ (q : ℕ × ℕ). Some (Following q.0 q.1)) (same_pair _ _ (c.in_ok-rows.ensures.pair ∙ g)))
