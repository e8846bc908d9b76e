-- From typing to taking: the acts sent are a stretch of those typed, and the new ones in it follow those taken.
use Rattle.std.proofs.Common.{◌≡◌, ℕ, suc, zero, ◌+◌, ◌-◌, ◌<◌, ◌≤◌, ◌⊎◌, List, [], ◌∷◌, ◌++◌, length, take, drop, leb, ltb, refl, sym, ap, ◌∙◌, inl, inr, arith, length-append, length-drop, length-take}
use Rattle.std.proofs.lemmas.Bool.{cases_Bool}
use Rattle.std.proofs.lemmas.Bool.Decides.{nat_tests}
use Rattle.std.proofs.lemmas.List.{drop-append-le, drop-drop, drop_all, take-append-le, take-append-drop, length-take-le}
use Rattle.roam_acts.specs.declared.acts.Act.{Act}
use Rattle.roam_acts.specs.Senders.{Typing, after_typing, acked_to, HasTyped, IsStretch}
use Rattle.roam_acts.specs.Takers.{fresh_of}
use Rattle.roam_acts.proofs.Stretches.{follow}
use Rattle.roam_model.specs.Lists.{IsFront}

-- a front of a list
pub front_is : (xs all : List Act) (n : ℕ) → xs ≡ take n all → IsFront xs all
front_is xs all n e = (drop n all, sym (take-append-drop n all) ∙ ap (λ (t : List Act). t ++ drop n all) (sym e))

-- ---- at the sender

pub has_typed-more : (s : Typing) (all : List Act) (act : Act) → HasTyped s all → HasTyped (after_typing s act) (all ++ act ∷ [])
has_typed-more s all act is =
    let known = is.known in
    record {
      known = omega (arith, known, length-append all (act ∷ []));
      held = ap (λ (xs : List Act). xs ++ act ∷ []) is.held ∙ sym (drop-append-le s.acked all (act ∷ []) known);
    }

pub has_typed-acked : (s : Typing) (all : List Act) (k : ℕ) → HasTyped s all → HasTyped (acked_to s k) all
has_typed-acked s all k is =
    elim (cases_Bool (leb k s.acked)) [
      | inl e ↦ rw e is
      | inr e ↦ elim (cases_Bool (ltb (s.acked + length s.acts) k)) [
        | inl f ↦ rw (e, f) is
        | inr f ↦ rw (e, f) (further k (grind (arith, nat_tests)) (grind (arith, nat_tests)))
      ]
    ]
  where
    further : (k : ℕ) → s.acked < k → k ≤ s.acked + length s.acts → HasTyped (record { acked = k; acts = drop (k - s.acked) s.acts }) all
    further k lt le =
        let known = is.known in
        let many : length s.acts ≡ length (drop s.acked all) = ap length is.held in
        record {
          known = omega (arith, known, many, length-drop s.acked all, le);
          held = ap (drop (k - s.acked)) is.held ∙ drop-drop (k - s.acked) s.acked all
              ∙ ap (λ (n : ℕ). drop n all) (let z : s.acked + (k - s.acked) ≡ k = omega (arith, lt) in z);
        }

pub acked_few : (s : Typing) (k : ℕ) → length (acked_to s k).acts ≤ length s.acts
acked_few s k =
    elim (cases_Bool (leb k s.acked)) [
      | inl e ↦ rw e (omega arith)
      | inr e ↦ elim (cases_Bool (ltb (s.acked + length s.acts) k)) [
        | inl f ↦ rw (e, f) (omega arith)
        | inr f ↦ rw (e, f) (omega (arith, length-drop (k - s.acked) s.acts))
      ]
    ]

pub stretch-waiting : (s : Typing) (all : List Act) → HasTyped s all → IsStretch all (s.acked + 1) (take 64 s.acts)
stretch-waiting s all is =
    record {
      low = omega arith;
      count = 64;
      is = ap (take 64) is.held ∙ ap (λ (n : ℕ). take 64 (drop n all)) (let z : s.acked ≡ s.acked + 1 - 1 = omega arith in z);
    }

take_length : (n : ℕ) (xs : List Act) → take n xs ≡ take (length (take n xs)) xs
take_length zero xs = refl
take_length (suc n) [] = refl
take_length (suc n) (x ∷ xs) = ap (λ (t : List Act). x ∷ t) (take_length n xs)

drop_in : (k : ℕ) (all : List Act) → (k ≤ length all) ⊎ (length all < k)
drop_in k all = grind arith

pub stretch-more : (all acts : List Act) (first : ℕ) (act : Act) → IsStretch all first acts → IsStretch (all ++ act ∷ []) first acts
stretch-more all acts first act s =
    record {
      low = s.low;
      count = length acts;
      is = elim (drop_in (first - 1) all) [
        | inl le ↦ (
            let short : length acts ≤ length (drop (first - 1) all) =
            omega (arith, ap length s.is, length-take s.count (drop (first - 1) all)) in
            here
            ∙ sym (take-append-le (length acts) (drop (first - 1) all) (act ∷ []) short)
            ∙ ap (take (length acts)) (sym (drop-append-le (first - 1) all (act ∷ []) le))
            )
        | inr lt ↦ (
            let none : drop (first - 1) all ≡ [] = drop_all (first - 1) all (omega (arith, lt)) in
            let nil : acts ≡ [] = s.is ∙ ap (take s.count) none ∙ take_nil s.count in
            rw nil refl
            )
      ];
    }
  where
    here : acts ≡ take (length acts) (drop (first - 1) all)
    here = s.is ∙ take_length s.count (drop (first - 1) all) ∙ ap (λ (xs : List Act). take (length xs) (drop (first - 1) all)) (sym s.is)

    take_nil : (n : ℕ) → take {A = Act} n [] ≡ []
    take_nil zero = refl
    take_nil (suc n) = refl

-- ---- at the taker

take_less : (n m : ℕ) (xs : List Act) → n ≤ m → take n (take m xs) ≡ take n xs
take_less zero m xs le = refl
take_less (suc n) zero xs le = absurd (omega arith)
take_less (suc n) (suc m) [] le = refl
take_less (suc n) (suc m) (x ∷ xs) le = ap (λ (t : List Act). x ∷ t) (take_less n m xs (omega arith))

take_past : (xs ys : List Act) (n : ℕ) → take (length xs + n) (xs ++ ys) ≡ xs ++ take n ys
take_past [] ys n = ap (λ (k : ℕ). take k ys) (let z : 0 + n ≡ n = omega arith in z)
take_past (x ∷ xs) ys n = let z : suc (length xs) + n ≡ suc (length xs + n) = omega arith in ap (λ (k : ℕ). take k (x ∷ (xs ++ ys))) z
    ∙ ap (λ (t : List Act). x ∷ t) (take_past xs ys n)

-- n of the new acts follow those taken
pub front_more : (all acts : List Act) (taken first n : ℕ) → taken ≤ length all → IsStretch all first acts
    → n ≤ length (fresh_of taken first acts)
    → take taken all ++ take n (fresh_of taken first acts) ≡ take (taken + n) all
front_more all acts taken first n le s few =
    let new = fresh_of taken first acts in
    let front : length (take taken all) ≡ taken = length-take-le taken all le in
    sym (take_past (take taken all) (fresh_of taken first acts) n)
    ∙ ap (λ (k : ℕ). take (k + n) (take taken all ++ fresh_of taken first acts)) front
    ∙ ap (take (taken + n)) (follow all acts taken first le s)
    ∙ take_less (taken + n) (taken + length (fresh_of taken first acts)) all (omega (arith, few))

pub front_low : (all acts : List Act) (taken first n : ℕ) → taken ≤ length all → IsStretch all first acts
    → n ≤ length (fresh_of taken first acts)
    → taken + n ≤ length all
front_low all acts taken first n le s few =
    let whole = ap length (front_more all acts taken first n le s few) in
    let parts = length-append (take taken all) (take n (fresh_of taken first acts)) in
    omega (arith, whole, parts, length-take-le taken all le, length-take-le n (fresh_of taken first acts) few, length-take (taken + n) all)
