-- A byte again and again.
use Rattle.std.proofs.Common.{◌≡◌, ℕ, ◌<◌, List, length, take, get_or, replicate, ◌∙◌, arith, length-take}
use Rattle.std.proofs.lemmas.List.{get_or-replicate, get_or-take, length-replicate}
use Rattle.roam_rows.specs.Writing.{ArePrintable}

pub letters : (n : ℕ) → ArePrintable (replicate n 97)
letters n k h =
    let e = get_or-replicate {A = ℕ} n k 97 0 (omega (arith, length-replicate {A = ℕ} n 97)) in
    (omega (arith, e), omega (arith, e))

-- and the first m of them
pub some_letters : (n m : ℕ) → ArePrintable (take m (replicate n 97))
some_letters n m k h =
    let all : List ℕ = replicate n 97 in
    let len = length-take m all in
    let size : length all ≡ n = length-replicate {A = ℕ} n 97 in
    let short : k < m = omega (arith, h, len) in
    let long : k < n = omega (arith, h, len, size) in
    let e : get_or (take m all) k 0 ≡ 97 = get_or-take m all k 0 short ∙ get_or-replicate {A = ℕ} n k 97 0 long in
    (omega (arith, e), omega (arith, e))
