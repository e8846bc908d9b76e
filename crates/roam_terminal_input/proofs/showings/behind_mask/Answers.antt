use Rattle.std.proofs.Common.{List, ℕ, ◌++◌, Some, None, refl, sym, ap, subst, ◌∙◌}
use Rattle.std.proofs.lemmas.Bool.{false≢true}
use Rattle.std.specs.Prelude.{codes}
use Rattle.roam_viewport.specs.declared.parts.Part.{Part}
use Rattle.roam_terminal_input.specs.Showings.{HasMaskSize}
use Rattle.roam_terminal_input.specs.declared.showings.Showing.TheVariants.{Mask}
use Rattle.roam_terminal_input.proofs.ShownAgain.{mask_only, part_found, same_part}
use Rattle.roam_terminal_input.proofs.showings.behind_mask.Goals as goal

pub returns-in_err-part-clause-only : goal.returns-in_err-part-clause-only
returns-in_err-part-clause-only c =
    mask_only c.args.text.now None c.from_residual.result c.in_err-part.ensures.part (λ p e h. absurd cc)

pub returns-then-not-is_mask-clause-only : goal.returns-then-not-is_mask-clause-only
returns-then-not-is_mask-clause-only c =
    let part = c.in_ok-part.part in
    mask_only c.args.text.now (Some part) None c.in_ok-part.ensures.part
    (λ p e h. absurd (false≢true (c.if-not-is_mask.ensures.mask.1 (subst HasMaskSize (sym (same_part part p e)) h))))

pub returns-clause-found : goal.returns-clause-found
returns-clause-found c =
    let found = part_found c.args.text.now c.in_ok-part.part (sym c.in_ok-part.ensures.part) in
    ((found.placed, c.if-not-is_mask.ensures.mask.0 refl), ap (λ (t : List ℕ). codes "mask " ++ t) found.text_is)

pub returns-clause-only : goal.returns-clause-only
returns-clause-only c =
    let part = c.in_ok-part.part in
    mask_only c.args.text.now (Some part) (Some (Mask part)) c.in_ok-part.ensures.part
    (λ p e h. ap (λ (q : Part). Some (Mask q)) (same_part part p e))
