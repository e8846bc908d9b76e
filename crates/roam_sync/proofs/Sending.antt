-- The states of a sender stay in order.
use Rattle.std.proofs.Common.{◌≡◌, ℕ, zero, suc, ◌-◌, ◌<◌, ◌≤◌, true, false, eqb, List, [], ◌∷◌, ◌++◌, length, take, get_or, set, refl, sym, ap, ◌∙◌, arith, inl, inr}
use Rattle.roam_sync.specs.declared.senders.Held.{Held}
use Rattle.roam_sync.specs.Senders.{AreAbove, last_of, mark_base, mark_last, is_held, after_ack}
use Rattle.std.proofs.lemmas.Bool.{cases_Bool, true≢false}

-- one more above the last
pub AreAbove-push : {S : Type 0} (base : Held S) (hs : List (Held S)) (h : Held S)
    → AreAbove base.number hs → (last_of base hs).number < h.number → AreAbove base.number (hs ++ h ∷ [])
AreAbove-push base [] h rising lt = (lt, tt)
AreAbove-push base (g ∷ hs) h rising lt = (rising.0, AreAbove-push g hs h rising.1 lt)

pub AreAbove-take : {S : Type 0} (n k : ℕ) (hs : List (Held S)) → AreAbove n hs → AreAbove n (take k hs)
AreAbove-take n zero [] rising = tt
AreAbove-take n (suc k) [] rising = tt
AreAbove-take n zero (h ∷ hs) rising = tt
AreAbove-take n (suc k) (h ∷ hs) rising = (rising.0, AreAbove-take h.number k hs rising.1)

pub AreAbove-mark : {S : Type 0} (n : ℕ) (hs : List (Held S)) → AreAbove n hs → AreAbove n (mark_last hs)
AreAbove-mark n [] rising = tt
AreAbove-mark n (h ∷ []) rising = rising
AreAbove-mark n (h ∷ g ∷ hs) rising = (rising.0, AreAbove-mark h.number (g ∷ hs) rising.1)

pub length-mark : {S : Type 0} (hs : List (Held S)) → length (mark_last hs) ≡ length hs
length-mark [] = refl
length-mark (h ∷ []) = refl
length-mark (h ∷ g ∷ hs) = ap (λ n. suc n) (length-mark (g ∷ hs))

one_less : (n : ℕ) → suc (suc n) - 1 ≡ suc (suc n - 1)
one_less n = omega arith

-- the last is at the last index
pub last_at : {S : Type 0} (base : Held S) (hs : List (Held S)) (d : Held S) → 0 < length hs → last_of base hs ≡ get_or hs (length hs - 1) d
last_at base [] d h = absurd (omega arith)
last_at base (g ∷ []) d h = refl
last_at base (g ∷ h ∷ hs) d lt = last_at g (h ∷ hs) d (omega arith) ∙ ap (λ i. get_or (g ∷ h ∷ hs) i d) (sym (one_less (length hs)))

-- marking the last is a write at the last index
pub mark_at : {S : Type 0} (hs : List (Held S)) (d : Held S) → 0 < length hs
    → set hs (length hs - 1) (record (get_or hs (length hs - 1) d) { sent = true }) ≡ mark_last hs
mark_at [] d h = absurd (omega arith)
mark_at (g ∷ []) d h = refl
mark_at {S} (g ∷ h ∷ hs) d lt =
    ap (λ i. set (g ∷ h ∷ hs) i (record (get_or (g ∷ h ∷ hs) i d) { sent = true })) (one_less (length hs))
    ∙ ap (λ (xs : List (Held S)). g ∷ xs) (mark_at (h ∷ hs) d (omega arith))

-- the base keeps its number
pub number-mark_base : {S : Type 0} (base : Held S) (hs : List (Held S)) → (mark_base base hs).number ≡ base.number
number-mark_base base [] = refl
number-mark_base base (h ∷ hs) = refl

-- a number that isn't kept drops nothing
pub after_ack-none : {S : Type 0} (all : Held S × List (Held S)) (hs : List (Held S)) (k : ℕ) → is_held hs k ≡ false
    → after_ack all hs k ≡ all
after_ack-none all [] k h = refl
after_ack-none all (g ∷ hs) k h =
    elim (cases_Bool (eqb g.number k)) [
      | inl e ↦ absurd (true≢false (rw e at h))
      | inr e ↦ rw e (after_ack-none all hs k (rw e at h))
    ]

-- the rest is in order, and no longer than before
pub after_ack-rising : {S : Type 0} (all : Held S × List (Held S)) (n : ℕ) (hs : List (Held S)) (k : ℕ)
    → AreAbove n hs → is_held hs k ≡ true
    → (length (after_ack all hs k).1 ≤ length hs) × AreAbove (after_ack all hs k).0.number (after_ack all hs k).1
after_ack-rising all n [] k rising h = absurd cc
after_ack-rising all n (g ∷ hs) k rising h =
    elim (cases_Bool (eqb g.number k)) [
      | inl e ↦ rw e (omega arith, rising.1)
      | inr e ↦
          let rest = after_ack-rising all g.number hs k rising.1 (rw e at h) in
          rw e (omega (arith, rest.0), rest.1)
    ]

-- the last of a list with one more
pub newest_of_more : {S : Type 0} (base : Held S) (hs : List (Held S)) (h : Held S) → last_of base (hs ++ h ∷ []) ≡ h
newest_of_more base [] h = refl
newest_of_more base (g ∷ hs) h = newest_of_more g hs h

-- the last is not below the base
pub not_below_base : {S : Type 0} (base : Held S) (hs : List (Held S)) → AreAbove base.number hs → base.number ≤ (last_of base hs).number
not_below_base base [] rising = omega arith
not_below_base base (g ∷ hs) rising = omega (arith, rising.0, not_below_base g hs rising.1)
