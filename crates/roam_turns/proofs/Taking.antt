-- The first bytes of a buffer: none, or some.
use Rattle.std.proofs.Common.{◌≡◌, ℕ, zero, suc, ◌≤◌, min, List, [], ◌∷◌, length, take, drop, Option, None, Some, ap, ◌∙◌, arith}
use Rattle.std.specs.Prelude.{unwrap_or}
use Rattle.std.specs.Option.{option_map}
use Rattle.std.proofs.lemmas.List.{take_at, take_min, length-take-le}
use Rattle.roam_session.specs.Queues.{IsWithin, IsCopied}

pub takes_some : {A : Type 0} (n : ℕ) (xs : List A) → n ≤ length xs → (n ≡ 0 → ⊥) → take n xs ≡ [] → ⊥
takes_some zero xs within some e = some (omega arith)
takes_some (suc n) [] within some e = omega (arith, within)
takes_some (suc n) (x ∷ xs) within some e = cc

pub less_within : (n m : ℕ) (waiting : Option (List ℕ)) → n ≤ m → IsWithin m waiting → IsWithin n waiting
less_within n m None less within = tt
less_within n m (Some waiting) less within = omega (arith, less, within)

-- the copied bytes are the front of the queued ones
pub copies : (waiting : Option (List ℕ)) (n all k : ℕ) (old new : List ℕ) → IsCopied n old new waiting
    → Some all ≡ option_map (λ (xs : List ℕ). length xs) waiting → k ≡ min n all
    → Some (take k new) ≡ option_map (take (length old)) waiting
copies None n all k old new copied len least = absurd copied
copies (Some xs) n all k old new copied len least =
    let count : all ≡ length xs = ap (λ (o : Option ℕ). unwrap_or o 0) len in
    let less : n ≤ length xs = omega (arith, copied.0) in
    let same : k ≡ n = omega (arith, count, less, least) in
    let turned : n ≡ min (length old) (length xs) = omega (arith, copied.0) in
    ap (λ ys. Some ys) (ap (λ m. take m new) same ∙ (ap (take n) copied.1
    ∙ (take_at (take n xs) (drop n old) n (length-take-le n xs less) ∙ (ap (λ m. take m xs) turned ∙ take_min (length old) xs))))
