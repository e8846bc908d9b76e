-- One of a list is one of a longer one.
use Rattle.std.proofs.Common.{List, [], ◌∷◌, ◌++◌, Option, Some, None, refl, inl, inr}
use Rattle.roam_screens.specs.Screenshot.{Screenshot}
use Rattle.roam_turns.specs.declared.outer.Noted.{Noted}
use Rattle.roam_shared_client_laws.specs.Paintings.{IsNotedOf, IsOneOf}

pub one_of_more : {X : Type 0} (x : X) (xs more : List X) → IsOneOf x xs → IsOneOf x (xs ++ more)
one_of_more x [] more h = absurd h
one_of_more x (y ∷ ys) more (inl is) = inl is
one_of_more x (y ∷ ys) more (inr h) = inr (one_of_more x ys more h)

pub one_of_last : {X : Type 0} (x : X) (xs : List X) → IsOneOf x (xs ++ x ∷ [])
one_of_last x [] = inl refl
one_of_last x (y ∷ ys) = inr (one_of_last x ys)

pub noted_of_more : (screens more : List Screenshot) (noted : Option Noted) → IsNotedOf screens noted → IsNotedOf (screens ++ more) noted
noted_of_more screens more None h = tt
noted_of_more screens more (Some noted) h = one_of_more noted.screen screens more h
