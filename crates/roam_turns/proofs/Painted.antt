-- The paintings, and the screen of the outer terminal then.
use Rattle.std.proofs.Common.{◌≡◌, ℕ, List, [], ◌∷◌, Bool, true, false, Option, Some, None, sym, ap, ◌∙◌, subst}
use Rattle.roam_screens.specs.Screenshot.{Screenshot}
use Rattle.roam_turns.specs.declared.outer.Noted.{Noted}
use Rattle.roam_turns.specs.Calls.{ClientCall}
use Rattle.roam_turns.specs.Calls.PortCall.{Showed}
use Rattle.roam_turns.specs.Painting.{IsNoted, IsBehind, Follows, text_for}
use Rattle.roam_turns.specs.Parts.{Call}
use Rattle.roam_turns.specs.Parts.Call.{Port}
use Rattle.roam_turns.specs.Turns.{Paints}
use Rattle.roam_turns.specs.Turns.Paints.{already, no_memory, shown, failed}
use Rattle.roam_turns.proofs.Starts.{follows_none, follows_both}

-- ---- a screen is shown, or that failed

module _ (n n' : ℕ) (s s' : Screenshot) (outer outer' : Option Noted) (text bytes : List ℕ) (number : n' ≡ n) (screen : s' ≡ s)
    (not : IsNoted n' outer → ⊥) (is : text ≡ text_for outer s') (same : bytes ≡ text) where
  paint_not : IsNoted n outer → ⊥
  paint_not h = not (subst (λ k. IsNoted k outer) (sym number) h)

  paint_call : (went : Bool) (xs : List (Call ClientCall)) → xs ≡ Port (Showed bytes went) ∷ []
      → xs ≡ Port (Showed (text_for outer s) went) ∷ []
  paint_call went xs e = e ∙ ap (λ b. Port (Showed b went) ∷ []) (same ∙ (is ∙ ap (text_for outer) screen))

  pub paints_shown : (noted : Noted) → noted ≡ record { number = n'; screen = s' } → outer' ≡ Some noted → (xs : List (Call ClientCall))
      → xs ≡ Port (Showed bytes true) ∷ [] → Paints n s outer outer' xs
  paints_shown noted kept now xs e =
      shown paint_not (paint_call true xs e) (now ∙ ap (λ x. Some x) (kept ∙ (λ i. record { number = number i; screen = screen i })))

  pub paints_failed : outer' ≡ None → (xs : List (Call ClientCall)) → xs ≡ Port (Showed bytes false) ∷ [] → Paints n s outer outer' xs
  paints_failed now xs e = failed paint_not (paint_call false xs e) now

-- ---- the case that the number shown by the instance rises

pub paints_at : (n n' : ℕ) (s s' : Screenshot) (outer outer' : Option Noted) → n ≡ n' → s ≡ s' → (xs : List (Call ClientCall))
    → Paints n s outer outer' xs → Paints n' s' outer outer' xs
paints_at n n' s s' outer outer' number screen xs h =
    subst (λ k. Paints k s' outer outer' xs) number (subst (λ x. Paints n x outer outer' xs) screen h)

pub behind_later : (outer : Option Noted) (n n' : ℕ) (s s' : Screenshot) → IsBehind outer n s → Follows n s n' s' → IsBehind outer n' s'
behind_later None n n' s s' h k = tt
behind_later (Some noted) n n' s s' h k = follows_both noted.number n n' noted.screen s s' h k

pub paints_behind : (n : ℕ) (s : Screenshot) (outer outer' : Option Noted) (xs : List (Call ClientCall)) → Paints n s outer outer' xs
    → IsBehind outer n s → IsBehind outer' n s
paints_behind n s outer outer' xs (already is none same) h = subst (λ o. IsBehind o n s) (sym same) h
paints_behind n s outer outer' xs (no_memory is none same) h = subst (λ o. IsBehind o n s) (sym same) h
paints_behind n s outer outer' xs (shown is text now) h = subst (λ o. IsBehind o n s) (sym now) (follows_none n s)
paints_behind n s outer outer' xs (failed is text now) h = subst (λ o. IsBehind o n s) (sym now) tt
