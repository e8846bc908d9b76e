-- The first part of a text, and the others.
use Rattle.std.proofs.Common.{◌≡◌, ℕ, suc, zero, ◌+◌, ◌-◌, ◌<◌, List, [], ◌∷◌, take, drop, Some, None, refl, sym, ap, ◌∙◌, arith}
use Rattle.roam_terminal_input.specs.Entries.{cut_by, cut_of, parts_of}

-- a text that isn't cut is one part
pub uncut : (n : ℕ) (text : List ℕ) → n ≡ 0 → parts_of n text ≡ text ∷ []
unfolding parts_of
uncut zero text is = refl
uncut (suc n) text is = absurd (omega arith)

pub no_cut : (n : ℕ) (text : List ℕ) → None ≡ cut_of text → parts_of n text ≡ text ∷ []
unfolding parts_of
no_cut zero text none = refl
no_cut (suc n) text none = ap (cut_by (parts_of n) text) (sym none)

pub cut : (n at : ℕ) (text : List ℕ) → 0 < n → Some at ≡ cut_of text → parts_of n text ≡ take at text ∷ parts_of (n - 1) (drop (at + 3) text)
unfolding parts_of
cut zero at text some is = absurd (omega arith)
cut (suc n) at text some is =
    ap (cut_by (parts_of n) text) (sym is) ∙ ap (λ m. take at text ∷ parts_of m (drop (at + 3) text)) (omega arith)
