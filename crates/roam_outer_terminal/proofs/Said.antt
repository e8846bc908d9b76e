-- The records appended one after another.
use Rattle.std.proofs.Common.{◌≡◌, ℕ, List, ◌++◌, append_assoc, Option, None, Some, true, refl, sym, ap, ◌∙◌, subst}
use Rattle.std.proofs.lemmas.Grind.{flat_map-append}
use Rattle.std.specs.Prelude.{is_some}
use Rattle.roam_display_records.specs.Records.{text_of}
use Rattle.roam_display_records.specs.declared.records.Record.{Record}
use Rattle.roam_screens.specs.Screenshot.{Screenshot}
use Rattle.roam_display_state.specs.Saying.{texts_of}
use Rattle.roam_display_state.specs.DisplayState.{DisplayStateView, Tells, TellsLook}
use Rattle.roam_turns.specs.declared.outer.Noted.{Noted}
use Rattle.roam_outer_terminal.specs.Painted.{TellsNoted, shown_screen}

pub texts_more : (old mid new : List ℕ) (first later : List Record) → mid ≡ old ++ texts_of first → new ≡ mid ++ texts_of later
    → new ≡ old ++ texts_of (first ++ later)
texts_more old mid new first later h k =
    k ∙ (ap (λ l. l ++ texts_of later) h
    ∙ (append_assoc old (texts_of first) (texts_of later) ∙ ap (λ l. old ++ l) (sym (flat_map-append text_of first later))))

pub noted_told : (outer : Option Noted) (noted : Noted) (over : Option Screenshot) (screen : Screenshot) (looked shown : List Record)
    (old mid new : DisplayStateView) → outer ≡ Some noted → screen ≡ shown_screen over noted → TellsLook noted.screen looked old mid
    → Tells screen shown mid new → TellsNoted outer over (looked ++ shown) old new
noted_told outer noted over screen looked shown old mid new is same looks tells =
    subst (λ o. TellsNoted o over (looked ++ shown) old new) (sym is)
    (mid, looked, shown, looks, subst (λ s. Tells s shown mid new) same tells, refl)

pub some_is : {X : Type 0} (o : Option X) → is_some o ≡ true → (x : X) × (o ≡ Some x)
some_is None h = absurd cc
some_is (Some x) h = (x, refl)
