-- The parameters of SGR one by one.
use Rattle.std.proofs.Common.{◌≡◌, ◌<◌, ◌+◌, ℕ, List, [], ◌∷◌, ◌++◌, length, take, get_or, fold, refl, sym, ap, ◌∙◌}
use Rattle.std.proofs.lemmas.List.{take_more}
use Rattle.roam_controls.specs.Renditions.{Rendition, with_parameter}

fold-last : (r : Rendition) (xs : List ℕ) (x : ℕ) → fold with_parameter r (xs ++ x ∷ []) ≡ with_parameter (fold with_parameter r xs) x
fold-last r [] x = refl
fold-last r (y ∷ xs) x = fold-last (with_parameter r y) xs x

-- one more parameter of those that were read
pub read-more : (before old new : Rendition) (params : List ℕ) (at next : ℕ) → at < length params → next ≡ at + 1
    → old ≡ fold with_parameter before (take at params) → new ≡ with_parameter old (get_or params at 0)
    → new ≡ fold with_parameter before (take next params)
read-more before old new params at next inside is was now =
    now ∙ ap (λ r. with_parameter r (get_or params at 0)) was
    ∙ sym (fold-last before (take at params) (get_or params at 0))
    ∙ ap (fold with_parameter before) (sym (take_more params at 0 inside))
    ∙ sym (ap (λ n. fold with_parameter before (take n params)) is)
