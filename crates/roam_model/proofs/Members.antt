-- Members of lists, elements by their place, and values of which one changes.
use Rattle.std.proofs.Common.{◌≡◌, ℕ, zero, suc, ◌+◌, ◌<◌, ◌⊎◌, List, [], ◌∷◌, ◌++◌, length, Some, Bool, true, false, refl, sym, ap, ◌∙◌, subst, inl, inr, arith, cond}
use Rattle.std.specs.Prelude.{nat_eq, slice_get, map}
use Rattle.std.specs.List.{flat_map, enumerate_from}
use Rattle.std.proofs.lemmas.Bool.Decides.{nat_tests}
use Rattle.roam_model.specs.Lists.{IsIn, with_value}

pub IsIn-append_left : {X : Type 0} (x : X) (xs ys : List X) → IsIn x xs → IsIn x (xs ++ ys)
IsIn-append_left x [] ys h = absurd h
IsIn-append_left x (z ∷ xs) ys h = elim h [ inl e ↦ inl e | inr r ↦ inr (IsIn-append_left x xs ys r) ]

pub IsIn-append_right : {X : Type 0} (x : X) (xs ys : List X) → IsIn x ys → IsIn x (xs ++ ys)
IsIn-append_right x [] ys h = h
IsIn-append_right x (z ∷ xs) ys h = inr (IsIn-append_right x xs ys h)

pub IsIn-append_cases : {X : Type 0} (x : X) (xs ys : List X) → IsIn x (xs ++ ys) → IsIn x xs ⊎ IsIn x ys
IsIn-append_cases x [] ys h = inr h
IsIn-append_cases x (z ∷ xs) ys h =
    elim h [ inl e ↦ inl (inl e) | inr r ↦ elim (IsIn-append_cases x xs ys r) [ inl a ↦ inl (inr a) | inr b ↦ inr b ] ]

pub IsIn-push_cases : {X : Type 0} (x y : X) (xs : List X) → IsIn x (xs ++ y ∷ []) → IsIn x xs ⊎ (y ≡ x)
IsIn-push_cases x y xs h = elim (IsIn-append_cases x xs (y ∷ []) h) [ inl a ↦ inl a | inr b ↦ elim b [ inl e ↦ inr e | inr z ↦ absurd z ] ]

pub IsIn-map : {X Y : Type 0} (f : X → Y) (y : Y) (xs : List X) → IsIn y (map f xs) → (x : X) × IsIn x xs × (f x ≡ y)
IsIn-map f y [] h = absurd h
IsIn-map f y (x ∷ xs) h = elim h [ inl e ↦ (x, inl refl, e) | inr r ↦ (let a = IsIn-map f y xs r in (a.0, inr a.1, a.2)) ]

pub IsIn-flat_map : {X Y : Type 0} (f : X → List Y) (y : Y) (xs : List X) → IsIn y (flat_map f xs) → (x : X) × IsIn x xs × IsIn y (f x)
IsIn-flat_map f y [] h = absurd h
IsIn-flat_map f y (x ∷ xs) h =
    elim (IsIn-append_cases y (f x) (flat_map f xs) h)
    [ inl a ↦ (x, inl refl, a) | inr r ↦ (let b = IsIn-flat_map f y xs r in (b.0, inr b.1, b.2)) ]

-- an element with its index
pub IsIn-enumerate : {X : Type 0} (k : ℕ) (xs : List X) (p : ℕ × X) → IsIn p (enumerate_from k xs)
    → (i : ℕ) × (p.0 ≡ k + i) × (slice_get xs i ≡ Some p.1)
IsIn-enumerate k [] p h = absurd h
IsIn-enumerate {X} k (x ∷ xs) p h =
    elim h [
      | inl e ↦ (0, ap (λ (q : ℕ × X). q.0) (sym e) ∙ (let z : k ≡ k + 0 = omega arith in z), ap (λ (q : ℕ × X). Some q.1) e)
      | inr r ↦ (let a = IsIn-enumerate (k + 1) xs p r in (suc a.0, a.1 ∙ (let z : (k + 1) + a.0 ≡ k + suc a.0 = omega arith in z), a.2))
    ]

some_inj : {X : Type 0} (y x : X) → Some y ≡ Some x → y ≡ x
some_inj y x e = cc

pub IsIn-slice_get : {X : Type 0} (x : X) (k : ℕ) (xs : List X) → slice_get xs k ≡ Some x → IsIn x xs
IsIn-slice_get x k [] h = cc
IsIn-slice_get x zero (y ∷ xs) h = inl (some_inj y x h)
IsIn-slice_get x (suc k) (y ∷ xs) h = inr (IsIn-slice_get x k xs h)

pub slice_get-within : {X : Type 0} (xs : List X) (i : ℕ) (x : X) → slice_get xs i ≡ Some x → i < length xs
slice_get-within [] i x e = absurd (cc)
slice_get-within (y ∷ xs) zero x e = omega arith
slice_get-within (y ∷ xs) (suc i) x e = let lt = slice_get-within xs i x e in omega arith

pub slice_get-more : {X : Type 0} (xs ys : List X) (i : ℕ) → i < length xs → slice_get (xs ++ ys) i ≡ slice_get xs i
slice_get-more [] ys i lt = absurd (omega arith)
slice_get-more (x ∷ xs) ys zero lt = refl
slice_get-more (x ∷ xs) ys (suc i) lt = slice_get-more xs ys i (omega arith)

pub slice_get-last : {X : Type 0} (xs : List X) (y : X) → slice_get (xs ++ y ∷ []) (length xs) ≡ Some y
slice_get-last [] y = refl
slice_get-last (x ∷ xs) y = slice_get-last xs y

-- values of which one changes
pub on_put : {X : Type 0} (P : ℕ → X → Type 0) (f : ℕ → X) (i : ℕ) (x : X) → P i x → ((j : ℕ) → nat_eq j i ≡ false → P j (f j)) → (j : ℕ)
    → P j (with_value f i x j)
on_put P f i x here others j = go (nat_eq j i) refl
  where
    go : (b : Bool) → nat_eq j i ≡ b → P j (cond b x (f j))
    go true e = let same : i ≡ j = grind (arith, nat_tests) in subst (λ (k : ℕ). P k x) same here
    go false e = others j e

pub put_other : {X : Type 0} (f : ℕ → X) (i : ℕ) (x : X) (j : ℕ) → (j ≡ i → ⊥) → with_value f i x j ≡ f j
put_other f i x j other = go (nat_eq j i) refl
  where
    go : (b : Bool) → nat_eq j i ≡ b → cond b x (f j) ≡ f j
    go true e = absurd (other (grind (arith, nat_tests)))
    go false e = refl

pub put_same : {X : Type 0} (f : ℕ → X) (i : ℕ) (x : X) → with_value f i x i ≡ x
put_same f i x = grind (arith, nat_tests)
