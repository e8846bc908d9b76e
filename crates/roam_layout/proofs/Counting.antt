-- Panes stay distinct: the count of a number in a tree after a split and after a close, and that a free number is in none.
use Rattle.std.proofs.Common.{◌≡◌, ℕ, zero, suc, ◌+◌, ◌≤◌, ◌<◌, nat_le, Bool, true, false, ◌||◌, ◌==◌, cond, refl, ap, sym, ◌∙◌, inl, inr, length, arith, length-append}
use Rattle.std.proofs.lemmas.Bool.{eqb-true, cases_lt, false≢true}
use Rattle.std.proofs.lemmas.Bool.Decides.{nat_tests}
use Rattle.roam_layout.specs.Trees.{Shape, One, Two, leaves, has, is_one, with_subtree, without_pane, times, free, free_among, AreDistinct}

-- one tree takes one pane's place
pub times_planted : (k p : ℕ) (u t : Shape) → has p t ≡ true → times k (with_subtree p u t) + times k (One p) ≡ times k t + times k u
times_planted k p u (One q) h = let e : q ≡ p = eqb-true q p h in rw h (rw e (omega arith))
times_planted k p u (Two w g a b) h = by_side (has p a) (has p b) h (times_planted k p u a) (times_planted k p u b)
  where
    by_side : (x y : Bool) → (x || y) ≡ true → (x ≡ true → times k (with_subtree p u a) + times k (One p) ≡ times k a + times k u)
        → (y ≡ true → times k (with_subtree p u b) + times k (One p) ≡ times k b + times k u)
        → times k (cond x (Two w g (with_subtree p u a) b) (Two w g a (with_subtree p u b))) + times k (One p) ≡ times k a + times k b + times k u
    by_side true y is l r = omega (arith, l refl)
    by_side false y is l r = omega (arith, r is)

one_of_four : (P : Shape → Type 0) (x y z : Bool) (s t u v : Shape) → P s → P t → P u → P v → P (cond x s (cond y t (cond z u v)))
one_of_four P true y z s t u v a b c d = a
one_of_four P false true z s t u v a b c d = b
one_of_four P false false true s t u v a b c d = c
one_of_four P false false false s t u v a b c d = d

pub times_closed : (k p : ℕ) (t : Shape) → times k (without_pane p t) ≤ times k t
times_closed k p (One q) = omega arith
times_closed k p (Two w g a b) =
    one_of_four (λ t. times k t ≤ times k a + times k b) (is_one p a) (is_one p b) (has p a) b a (Two w g (without_pane p a) b)
    (Two w g a (without_pane p b))
    (omega arith) (omega arith) (omega (arith, times_closed k p a)) (omega (arith, times_closed k p b))

-- a number outside a tree is in it no times
pub times_none : (p : ℕ) (t : Shape) → has p t ≡ false → times p t ≡ 0
times_none p (One q) h = rw h refl
times_none p (Two w g a b) h = by_side (has p a) (has p b) h (times_none p a) (times_none p b)
  where
    by_side : (x y : Bool) → (x || y) ≡ false → (x ≡ false → times p a ≡ 0) → (y ≡ false → times p b ≡ 0) → times p a + times p b ≡ 0
    by_side true y is l r = absurd (false≢true (sym is))
    by_side false y is l r = omega (arith, l refl, r is)

-- a number in a tree is in it some times
pub times_some : (p : ℕ) (t : Shape) → has p t ≡ true → 1 ≤ times p t
times_some p (One q) h = rw h (omega arith)
times_some p (Two w g a b) h = by_side (has p a) (has p b) h (times_some p a) (times_some p b)
  where
    by_side : (x y : Bool) → (x || y) ≡ true → (x ≡ true → 1 ≤ times p a) → (y ≡ true → 1 ≤ times p b) → 1 ≤ times p a + times p b
    by_side true y is l r = omega (arith, l refl)
    by_side false y is l r = omega (arith, r is)

-- how many panes have at least this number
abbrev from : ℕ → Shape → ℕ
from n (One q) = cond (nat_le n q) 1 0
from n (Two w g a b) = from n a + from n b

from_one : (n q : ℕ) → cond (nat_le (n + 1) q) 1 0 + cond (q == n) 1 0 ≤ cond (nat_le n q) 1 0
from_one n q = elim (cases_lt q n) [
  | inl below ↦ grind (arith, nat_tests)
  | inr above ↦ elim
      (cases_lt n q) [ inl more ↦ grind (arith, nat_tests) | inr same ↦ grind (arith, nat_tests) ]
]

from_more : (n : ℕ) (t : Shape) → from (n + 1) t + times n t ≤ from n t
from_more n (One q) = from_one n q
from_more n (Two w g a b) = omega (arith, from_more n a, from_more n b)

from_length : (n : ℕ) (t : Shape) → from n t ≤ length (leaves t)
from_length n (One q) = at_most (nat_le n q)
  where
    at_most : (v : Bool) → cond v 1 0 ≤ 1
    at_most true = omega arith
    at_most false = omega arith
from_length n (Two w g a b) = omega (arith, from_length n a, from_length n b, length-append (leaves a) (leaves b))

times_from : (n : ℕ) (t : Shape) → times n t ≤ from n t
times_from n t = omega (arith, from_more n t)

not_more : (n : ℕ) (t : Shape) (v : Bool) → has n t ≡ v → times n t ≤ 0 → has n t ≡ false
not_more n t true e h = absurd (omega (arith, times_some n t e, h))
not_more n t false e h = e

free_in : (k n : ℕ) (t : Shape) → from n t ≤ k → has (free_among k n t) t ≡ false
free_in zero n t h = not_more n t (has n t) refl (omega (arith, times_from n t, h))
free_in (suc k) n t h = by_case (has n t) refl (free_in k (n + 1) t)
  where
    by_case : (v : Bool) → has n t ≡ v → (from (n + 1) t ≤ k → has (free_among k (n + 1) t) t ≡ false)
        → has (cond v (free_among k (n + 1) t) n) t ≡ false
    by_case true e rest = rest (omega (arith, from_more n t, times_some n t e, h))
    by_case false e rest = e

-- with fewer than nine panes the smallest free number is free
pub free_is_free : (t : Shape) → length (leaves t) < 9 → has (free t) t ≡ false
free_is_free t h = free_in 8 1 t (omega (arith, from_length 1 t, h))

below_in : (k n p : ℕ) (t : Shape) → n ≤ p → p < free_among k n t → has p t ≡ true
below_in zero n p t h below = absurd (omega (arith, h, below))
below_in (suc k) n p t h below = by_case (has n t) refl below (below_in k (n + 1) p t)
  where
    by_case : (v : Bool) → has n t ≡ v → p < cond v (free_among k (n + 1) t) n
        → (n + 1 ≤ p → p < free_among k (n + 1) t → has p t ≡ true) → has p t ≡ true
    by_case true e b rest = elim (cases_lt n p) [
      | inl more ↦ rest (omega (arith, more)) b
      | inr same ↦ let i : p ≡ n = omega
          (arith, same, h) in ap (λ j. has j t) i ∙ e
    ]
    by_case false e b rest = absurd (omega (arith, h, b))

-- every number below the smallest free one is a pane's
pub below_free : (p : ℕ) (t : Shape) → 1 ≤ p → p < free t → has p t ≡ true
below_free p t h below = below_in 8 1 p t h below

-- a pane that is split in itself and a free number: the panes stay distinct
pub distinct_planted : (p n : ℕ) (u t : Shape) → ((k : ℕ) → times k u ≡ times k (One p) + times k (One n)) → has p t ≡ true
    → has n t ≡ false
    → AreDistinct t → AreDistinct (with_subtree p u t)
distinct_planted p n u t two is free distinct k = by_case (n == k) refl
  where
    by_case : (v : Bool) → (n == k) ≡ v → times k (with_subtree p u t) ≤ 1
    by_case true e =
        let same : n ≡ k = eqb-true n k e in
        let none : times k t ≡ 0 = ap (λ j. times j t) (sym same) ∙ times_none n t free in
        let one : times k (One n) ≡ 1 = ap (λ v. cond v 1 0) e in
        omega (arith, times_planted k p u t is, two k, none, one)
    by_case false e =
        let one : times k (One n) ≡ 0 = ap (λ v. cond v 1 0) e in
        omega (arith, times_planted k p u t is, two k, distinct k, one)
