-- The noted screen of a terminal was shown before.
use Rattle.std.proofs.Common.{◌≡◌, ℕ, Option, Some, refl, sym, subst, arith, inl, inr}
use Rattle.std.specs.Prelude.{◌⊎◌}
use Rattle.roam_screens.specs.Screenshot.{Screenshot}
use Rattle.roam_turns.specs.Painting.{IsBehind}
use Rattle.roam_turns.specs.declared.outer.Noted.{Noted}

-- a screen that is shown, or was noted before, is the noted one
pub behind_noted : (old new : Option Noted) (n : ℕ) (s : Screenshot)
    → (new ≡ Some (record { number = n; screen = s })) ⊎ (new ≡ old) → IsBehind old n s → IsBehind new n s
behind_noted old new n s (inl is) h = subst (λ o. IsBehind o n s) (sym is) (record { rises = omega arith; same = λ e. refl })
behind_noted old new n s (inr same) h = subst (λ o. IsBehind o n s) (sym same) h
