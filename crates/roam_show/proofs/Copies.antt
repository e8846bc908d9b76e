-- A copy into room for all of it.
use Rattle.std.proofs.Common.{◌≡◌, ℕ, List, [], ◌++◌, length, min, take, drop, arith, append-nil, sym, ap, ◌∙◌}
use Rattle.std.proofs.Math.Seq.{take-length, drop-length}

-- a copy into as much room as there are waiting bytes has all of them
pub whole_copy : (n len : ℕ) (waiting old new : List ℕ) → len ≡ length waiting → length old ≡ len → n ≡ min (length waiting) (length old)
    → new ≡ take n waiting ++ drop n old → waiting ≡ new
whole_copy n len waiting old new all long count is =
    let same : n ≡ length waiting = omega arith in
    let gone : n ≡ length old = omega arith in
    let front : take n waiting ≡ waiting = ap (λ (k : ℕ). take k waiting) same ∙ take-length waiting in
    let back : drop n old ≡ [] = ap (λ (k : ℕ). drop k old) gone ∙ drop-length old in
    sym (is ∙ (λ i. front i ++ back i) ∙ append-nil waiting)
