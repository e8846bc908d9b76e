-- Two things, a space apart.
use Rattle.std.proofs.Common.{◌≡◌, ℕ, List, ◌∷◌, ◌++◌, Option, Some, None, refl, ap, ◌∙◌}
use Rattle.roam_tokens.specs.Words.{first_word}
use Rattle.roam_tokens.proofs.Wording.{IsWord, word_again, word_found}
use Rattle.roam_world_script.specs.Reading.{each_of, pair_of, two_in}

module _ {A B : Type 0} (f : List ℕ → Option A) (g : List ℕ → Option B) where
  -- a text in two parts
  pub record IsTwo (text : List ℕ) (a : A) (b : B) : Type 0 where
    pub word : List ℕ
    pub rest : List ℕ
    pub is : text ≡ word ++ 32 ∷ rest
    pub first : f word ≡ Some a
    pub second : g rest ≡ Some b

  pub two_again : (w rest : List ℕ) (a : A) (b : B) → IsWord w → f w ≡ Some a → g rest ≡ Some b → two_in f g (w ++ 32 ∷ rest) ≡ Some (a, b)
  two_again w rest a b h first second = ap (each_of f g) (word_again w rest h) ∙ (λ i. pair_of (first i) (second i))

  pub pair_found : (x : Option A) (y : Option B) (p : A × B) → pair_of x y ≡ Some p → (x ≡ Some p.0) × (y ≡ Some p.1)
  pair_found None y p e = absurd cc
  pair_found (Some a) None p e = absurd cc
  pair_found (Some a) (Some b) p e =
      let both : A × B = (a, b) in
      let same : both ≡ p = cc in
      (ap (λ (q : A × B). Some (q.0)) same, ap (λ (q : A × B). Some (q.1)) same)

  pub two_found : (text : List ℕ) (p : A × B) → two_in f g text ≡ Some p → IsTwo text p.0 p.1
  two_found text p e = by (first_word text) refl e
    where
      by : (r : Option (List ℕ × List ℕ)) → first_word text ≡ r → each_of f g r ≡ Some p → IsTwo text p.0 p.1
      by None is e = absurd cc
      by (Some words) is e =
          let both = pair_found (f words.0) (g words.1) p e in
          record { word = words.0; rest = words.1; is = word_found text words is; first = both.0; second = both.1 }
