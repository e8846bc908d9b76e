-- U+FFFD is printed, or falls into a control string.
use Rattle.std.proofs.Common.{◌≡◌, ℕ, Bool, List, ◌∷◌, refl}
use Rattle.roam_text.specs.declared.kinds.Kind.TheVariants.{Graphic}
use Rattle.roam_text.specs.declared.functions.Function.TheVariants.{Print}
use Rattle.roam_text.specs.declared.parsers.Phase.{Phase}
use Rattle.roam_text.specs.declared.parsers.Phase.TheVariants.{Ground, InEscapeSequence, InControlSequence, InControlString}
use Rattle.roam_text.specs.declared.parsers.Sequence.{Sequence}
use Rattle.roam_text.specs.Log.{Sign, Character}
use Rattle.roam_text.specs.Functions.{functions}
use Rattle.roam_text.specs.Residual.{given_in}
use Rattle.roam_text.proofs.Fronts.{functions-step}

-- a graphic character ends a sequence, and is printed
pub graphic-printed : (phase : Phase) (q : Sequence) (c : ℕ) (rest : List Sign) → ((bell : Bool) → phase ≡ InControlString bell → ⊥)
    → given_in phase q (Character Graphic c ∷ rest) ≡ Print c ∷ functions rest
graphic-printed Ground q c rest not = functions-step (Character Graphic c) rest
graphic-printed InEscapeSequence q c rest not = functions-step (Character Graphic c) rest
graphic-printed InControlSequence q c rest not = functions-step (Character Graphic c) rest
graphic-printed (InControlString bell) q c rest not = absurd (not bell refl)
