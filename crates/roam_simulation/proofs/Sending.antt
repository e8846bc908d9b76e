-- The place of the datagram of a number among the batches.
use Rattle.std.proofs.Common.{◌≡◌, ℕ, ◌+◌, ◌-◌, ◌<◌, ◌≤◌, List, [], ◌∷◌, ◌++◌, length, take, get_or, Some, None, Bool, true, false, refl, sym, ap, ◌∙◌, subst, arith, length-append, append-nil, cond}
use Rattle.std.specs.Prelude.{nat_eq, slice_get}
use Rattle.std.specs.List.{flat_map}
use Rattle.std.proofs.lemmas.Bool.Decides.{nat_tests}
use Rattle.std.proofs.lemmas.Grind.{flat_map-append}
use Rattle.std.proofs.lemmas.List.{take_more}
use Rattle.std.proofs.lemmas.List.Concat.{get_or-flat_map}
use Rattle.std.proofs.lemmas.List.Folds.{length-flat_map-take}
use Rattle.std.proofs.lemmas.Option.{slice_get-get_or}
use Rattle.roam_simulation.specs.declared.networks.Batch.{Batch}
use Rattle.roam_simulation.specs.Networks.{texts_in, text_at}

-- how many were sent up to a batch
abbrev pub front : List Batch → ℕ → ℕ
front xs i = length (flat_map texts_in (take i xs))

pub front_more : (xs : List Batch) (i : ℕ) (b : Batch) → i < length xs → b ≡ get_or xs i b
    → front xs (i + 1) ≡ front xs i + length (texts_in b)
front_more xs i b lt is =
    ap (λ ys. length (flat_map texts_in ys)) (take_more xs i b lt ∙ ap (λ x. take i xs ++ x ∷ []) (sym is))
    ∙ ap length (flat_map-append texts_in (take i xs) (b ∷ []))
    ∙ length-append (flat_map texts_in (take i xs)) (texts_in b ++ [])
    ∙ ap (λ ys. front xs i + length ys) (append-nil (texts_in b))

-- a number from 1 is a place from 0
pub text_placed : (texts : List (List ℕ)) (n : ℕ) → 0 < n → text_at texts n ≡ slice_get texts (n - 1)
text_placed texts n lt = go (nat_eq n 0) refl
  where
    go : (b : Bool) → nat_eq n 0 ≡ b → cond b None (slice_get texts (n - 1)) ≡ slice_get texts (n - 1)
    go true e = absurd (let z : n ≡ 0 = grind (arith, nat_tests) in omega arith)
    go false e = refl

-- a number past those before a batch, and not past those up to its end, is of that batch
pub text_there : (xs : List Batch) (i n : ℕ) (b : Batch) → i < length xs → b ≡ get_or xs i b → front xs i < n
    → n ≤ front xs i + length (texts_in b) → slice_get (texts_in b) ((n - front xs i) - 1) ≡ text_at (flat_map texts_in xs) n
text_there xs i n b lt is low high =
    slice_get-get_or (texts_in b) ((n - front xs i) - 1) [] (omega arith)
    ∙ ap Some (ap (λ (x : Batch). get_or (texts_in x) ((n - front xs i) - 1) []) is
    ∙ sym (get_or-flat_map texts_in xs i ((n - front xs i) - 1) b [] lt inside)
    ∙ ap (λ k. get_or (flat_map texts_in xs) k []) same)
    ∙ sym (slice_get-get_or (flat_map texts_in xs) (n - 1) [] within)
    ∙ sym (text_placed (flat_map texts_in xs) n (omega arith))
  where
    inside : (n - front xs i) - 1 < length (texts_in (get_or xs i b))
    inside = subst (λ (x : Batch). (n - front xs i) - 1 < length (texts_in x)) is (omega arith)

    same : front xs i + ((n - front xs i) - 1) ≡ n - 1
    same = omega arith

    within : n - 1 < length (flat_map texts_in xs)
    within =
        let all = length-flat_map-take texts_in xs i b lt in
        let e = ap (λ (x : Batch). length (texts_in x)) is in omega (arith, all, e)
