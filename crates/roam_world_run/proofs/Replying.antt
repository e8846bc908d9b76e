-- The line of sent datagrams.
use Rattle.std.proofs.Common.{◌≡◌, ℕ, zero, suc, ◌+◌, ◌-◌, List, [], ◌∷◌, ◌++◌, ◌∙◌, codes, ap, sym, append_assoc, arith, refl}
use Rattle.std.specs.Fmt.{decimal}
use Rattle.roam_world_run.specs.Replies.{sent_line}

some : (first count : ℕ) → (count ≡ 0 → ⊥)
    → codes "sent " ++ decimal first ++ codes "-" ++ decimal (first + (count - 1)) ++ codes "\n" ≡ sent_line first count
some first zero is = absurd (is refl)
some first (suc more) is =
    let last : suc more - 1 ≡ more = omega arith in
    ap (λ n. codes "sent " ++ decimal first ++ codes "-" ++ decimal (first + n) ++ codes "\n") last

-- some datagrams were sent, and the numbers of the first and the last were written
pub some_sent : (first count : ℕ) (old begun new : List ℕ) → (count ≡ 0 → ⊥) → begun ≡ old ++ (codes "sent " ++ decimal first)
    → new ≡ begun ++ (codes "-" ++ decimal (first + (count - 1)) ++ codes "\n") → new ≡ old ++ sent_line first count
some_sent first count old begun new is b e =
    let front = codes "sent " ++ decimal first in
    let last = decimal (first + (count - 1)) in
    e ∙ ap (λ t. t ++ (codes "-" ++ last ++ codes "\n")) b ∙ append_assoc old front (codes "-" ++ last ++ codes "\n")
    ∙ ap (λ t. old ++ t) (sym (append_assoc front (codes "-" ++ last) (codes "\n"))
    ∙ ap (λ t. t ++ codes "\n") (sym (append_assoc front (codes "-") last)) ∙ some first count is)
