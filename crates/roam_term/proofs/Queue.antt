-- The bytes copied from a queue in two parts.
use Rattle.std.proofs.Common.{◌≡◌, ◌≤◌, ℕ, ◌+◌, ◌-◌, ◌⊎◌, inl, inr, List, ◌++◌, length, take, drop, min, ap, sym, ◌∙◌, arith, length-append, length-drop, append_assoc, take_all}
use Rattle.std.proofs.lemmas.Bool.{cases_lt}
use Rattle.std.proofs.Math.Seq.{take-append-add}
use Rattle.std.proofs.lemmas.List.{take_at, length-take-le, take-append-le}
use Rattle.std.proofs.lemmas.Slice.{drop-append-drop}
use Rattle.roam_term.proofs.Lists.{append-nil}

-- all of the first part, or nothing of the second
parts : (front back : List ℕ) (m n : ℕ) → (m ≡ length front) ⊎ ((n ≡ 0) × (m ≤ length front)) → take m front ++ take n back ≡ take (m + n) (front ++ back)
parts front back m n (inl e) =
    ap (λ l. l ++ take n back) (take_all m front (omega (arith, e)))
    ∙ sym (ap (λ k. take (k + n) (front ++ back)) e ∙ take-append-add front back n)
parts front back m n (inr h) =
    let plus : m + n ≡ m = omega (arith, h.0) in
    ap (λ k. take m front ++ take k back) h.0 ∙ append-nil (take m front)
    ∙ sym (ap (λ k. take k (front ++ back)) plus ∙ take-append-le m front back h.1)

choice : (f b o one m n : ℕ) → m ≡ min f o → n ≡ min b (one - m) → one ≡ o → (m ≡ f) ⊎ ((n ≡ 0) × (m ≤ f))
choice f b o one m n p q r = elim (cases_lt o f) [ inl h ↦ inr (omega (arith, h), omega (arith, h)) | inr h ↦ inl (omega (arith, h)) ]

pub filled : (front back out one two : List ℕ) (m n : ℕ) → m ≡ min (length front) (length out) → n ≡ min (length back) (length one - m)
    → one ≡ take m front ++ drop m out → two ≡ take m one ++ (take n back ++ drop (m + n) one)
    → two ≡ take (m + n) (front ++ back) ++ drop (m + n) out
filled front back out one two m n p q r s =
    let lm : length (take m front) ≡ m = length-take-le m front (omega (arith, p)) in
    let one_len : length one ≡ length out = ap length r ∙ length-append (take m front) (drop m out) ∙ omega (arith, lm, length-drop m out, p) in
    let t : take m one ≡ take m front = ap (take m) r ∙ take_at (take m front) (drop m out) m lm in
    let d : drop (m + n) one ≡ drop (m + n) out = ap (drop (m + n)) r ∙ drop-append-drop m out (take m front) (m + n) (omega arith) lm in
    s ∙ ap (λ x. x ++ (take n back ++ drop (m + n) one)) t ∙ ap (λ x. take m front ++ (take n back ++ x)) d
    ∙ sym (append_assoc (take m front) (take n back) (drop (m + n) out))
    ∙ ap (λ x. x ++ drop (m + n) out) (parts front back m n (choice (length front) (length back) (length out) (length one) m n p q one_len))
