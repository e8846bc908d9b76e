-- The places of a tick's datagrams in the list.
use Rattle.std.proofs.Common.{◌≡◌, ℕ, zero, suc, ◌+◌, ◌-◌, ◌<◌, ◌≤◌, List, [], ◌∷◌, ◌++◌, length, Some, None, Bool, true, false, refl, sym, ap, ◌∙◌, subst, inl, inr, arith, cond}
use Rattle.std.specs.Prelude.{nat_eq, slice_get, map}
use Rattle.std.specs.List.{flat_map, enumerate_from}
use Rattle.std.proofs.lemmas.Bool.Decides.{nat_tests}
use Rattle.roam_model.specs.Lists.{IsIn}
use Rattle.roam_model.specs.Worlds.{datagram_at}
use Rattle.roam_model.proofs.Members.{IsIn-append_left, IsIn-append_right, IsIn-slice_get, slice_get-within}
use Rattle.roam_wire.specs.Datagrams.{DatagramValue}

pub map_here : {X Y : Type 0} (f : X → Y) (x : X) (xs : List X) → IsIn x xs → IsIn (f x) (map f xs)
map_here f x [] i = absurd i
map_here f x (y ∷ xs) i = elim i [ inl e ↦ inl (ap f e) | inr r ↦ inr (map_here f x xs r) ]

pub flat_here : {X Y : Type 0} (f : X → List Y) (x : X) (y : Y) (xs : List X) → IsIn x xs → IsIn y (f x) → IsIn y (flat_map f xs)
flat_here f x y [] i j = absurd i
flat_here {X} {Y} f x y (z ∷ xs) i j =
    elim i [
      | inl e ↦ IsIn-append_left y (f z) (flat_map f xs) (subst (λ (q : X). IsIn y (f q)) (sym e) j)
      | inr r ↦ IsIn-append_right y
          (f z) (flat_map f xs) (flat_here f x y xs r j)
    ]

pub enumerate_here : {X : Type 0} (k i : ℕ) (x : X) (xs : List X) → slice_get xs i ≡ Some x → IsIn (k + i, x) (enumerate_from k xs)
enumerate_here k i x [] e = absurd (cc)
enumerate_here {X} k zero x (y ∷ xs) e = let f : y ≡ x = cc in let z : k ≡ k + zero = omega arith in inl (λ i. (z i, f i))
enumerate_here {X} k (suc i) x (y ∷ xs) e =
    let z : (k + 1) + i ≡ k + suc i = omega arith in
    inr (subst (λ (q : ℕ). IsIn (q, x) (enumerate_from (k + 1) xs)) z (enumerate_here (k + 1) i x xs e))

pub some_at : {X : Type 0} (xs : List X) (i : ℕ) → i < length xs → (x : X) × (slice_get xs i ≡ Some x)
some_at [] i lt = absurd (omega arith)
some_at (x ∷ xs) zero lt = (x, refl)
some_at (x ∷ xs) (suc i) lt = some_at xs i (omega arith)

member_at : {X : Type 0} (ys : List X) (y : X) → IsIn y ys → (k : ℕ) × (slice_get ys k ≡ Some y)
member_at [] y i = absurd i
member_at (z ∷ ys) y i = elim i [
  | inl e ↦ (0, ap Some e)
  | inr r ↦ (let p = member_at ys y r in (suc p.0, p.1))
]

after_front : {X : Type 0} (xs ys : List X) (k : ℕ) → slice_get (xs ++ ys) (length xs + k) ≡ slice_get ys k
after_front [] ys k = let z : 0 + k ≡ k = omega arith in ap (slice_get ys) z
after_front (x ∷ xs) ys k = let z : suc (length xs) + k ≡ suc (length xs + k) = omega arith in ap (slice_get (x ∷ (xs ++ ys))) z
    ∙ after_front xs ys k

behind : {X : Type 0} (xs ys : List X) (y : X) (i : ℕ) → slice_get (xs ++ ys) i ≡ Some y → length xs ≤ i → IsIn y ys
behind [] ys y i e le = IsIn-slice_get y i ys e
behind (x ∷ xs) ys y zero e le = absurd (omega arith)
behind (x ∷ xs) ys y (suc i) e le = behind xs ys y i e (omega arith)

-- a member of the second list is behind the first, under some number
pub number_behind : (xs ys : List DatagramValue) (d : DatagramValue) → IsIn d ys
    → (k : ℕ) × (length xs < k) × (datagram_at (xs ++ ys) k ≡ Some d)
number_behind xs ys d i =
    let p = member_at ys d i in (
      suc (length xs + p.0),
      omega arith,
      go (length xs + p.0) (nat_eq (suc (length xs + p.0)) 0) refl
          (let q : suc (length xs + p.0) - 1 ≡ length xs + p.0 = omega arith in ap (slice_get (xs ++ ys)) q ∙ after_front xs ys p.0 ∙ p.1),
    )
  where
    go : (k : ℕ) (b : Bool) → nat_eq (suc k) 0 ≡ b → slice_get (xs ++ ys) (suc k - 1) ≡ Some d
        → cond b None (slice_get (xs ++ ys) (suc k - 1)) ≡ Some d
    go k true z e = absurd (grind (arith, nat_tests))
    go k false z e = e

-- an element behind the first list is a member of the second
pub late : (xs ys : List DatagramValue) (k : ℕ) (d : DatagramValue) → length xs < k → datagram_at (xs ++ ys) k ≡ Some d → IsIn d ys
late xs ys k d lt e = go (nat_eq k 0) refl e
  where
    go : (b : Bool) → nat_eq k 0 ≡ b → cond b None (slice_get (xs ++ ys) (k - 1)) ≡ Some d → IsIn d ys
    go true z e = absurd (cc)
    go false z e = behind xs ys d (k - 1) e (omega arith)

pub no_later : (xs : List DatagramValue) (k : ℕ) (d : DatagramValue) → length xs < k → datagram_at xs k ≡ Some d → ⊥
no_later xs k d lt e = go (nat_eq k 0) refl e
  where
    go : (b : Bool) → nat_eq k 0 ≡ b → cond b None (slice_get xs (k - 1)) ≡ Some d → ⊥
    go true z e = cc
    go false z e = let within = slice_get-within xs (k - 1) d e in omega arith
