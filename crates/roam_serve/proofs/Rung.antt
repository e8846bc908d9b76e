-- The count of bells, extended pane by pane.
use Rattle.std.proofs.Common.{◌≡◌, ℕ, zero, suc, ◌+◌, ◌-◌, ◌≤◌, Bool, Option, sym, ap, ◌∙◌, arith}
use Rattle.std.specs.Prelude.{◌||◌}
use Rattle.roam_pane_protocol.specs.MetadataLists.{metadata_at}
use Rattle.roam_pane_protocol.specs.declared.metadata_list.MetadataList.{MetadataList}
use Rattle.roam_pane_protocol.specs.declared.metadata_list.MetadataPane.{MetadataPane}
use Rattle.roam_serve.specs.Tellings.{has_rung, rang_in}

rung_more : (p : ℕ) (shown now : MetadataList) → 1 ≤ p
    → has_rung p shown now ≡ (has_rung (p - 1) shown now || rang_in (metadata_at shown p) (metadata_at now p))
unfolding has_rung
rung_more zero shown now one = absurd (omega (arith, one))
rung_more (suc n) shown now one =
    let back : suc n - 1 ≡ n = omega arith in
    ap (λ m. has_rung m shown now || rang_in (metadata_at shown (suc n)) (metadata_at now (suc n))) (sym back)

pub rung_on : (p : ℕ) (shown now : MetadataList) (old new rang : Bool) (was is : Option MetadataPane) → 1 ≤ p
    → new ≡ (old || rang) → old ≡ has_rung (p - 1) shown now → rang ≡ rang_in was is → was ≡ metadata_at shown p → is ≡ metadata_at now p
    → new ≡ has_rung (p + 1 - 1) shown now
rung_on p shown now old new rang was is one or before rings known at =
    let next : p ≡ p + 1 - 1 = omega arith in
    or ∙ ap (λ b. b || rang) before
    ∙ ap (λ b. has_rung (p - 1) shown now || b) rings
    ∙ ap (λ o. has_rung (p - 1) shown now || rang_in o is) known
    ∙ ap (λ o. has_rung (p - 1) shown now || rang_in (metadata_at shown p) o) at
    ∙ sym (rung_more p shown now one) ∙ ap (λ m. has_rung m shown now) next
