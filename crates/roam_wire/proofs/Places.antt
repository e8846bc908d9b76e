-- Fragments are seen one by one, and counted.
use Rattle.std.proofs.Common.{◌≡◌, ℕ, zero, suc, ◌+◌, ◌<◌, ◌≤◌, true, false, eqb, List, [], ◌∷◌, ◌++◌, length, get_or, set, replicate, Option, Some, None, Vec, refl, sym, ap, arith}
use Rattle.std.proofs.lemmas.Bool.{ne_eqb}
use Rattle.std.specs.declared.alloc.Global.{Global}
use Rattle.std.specs.Prelude.{is_some}
use Rattle.roam_wire.specs.Fragments.{seen, seen_fragment, count_missing, all_there}

pub seen-set : (ps : List (Option (Vec ℕ Global))) (i : ℕ) (p : Option (Vec ℕ Global)) → seen (set ps i p) ≡ set (seen ps) i (seen_fragment p)
seen-set [] zero p = refl
seen-set [] (suc i) p = refl
seen-set (q ∷ ps) zero p = refl
seen-set (q ∷ ps) (suc i) p = ap (λ (xs : List (Option (List ℕ))). seen_fragment q ∷ xs) (seen-set ps i p)

pub seen-append : (ps qs : List (Option (Vec ℕ Global))) → seen (ps ++ qs) ≡ seen ps ++ seen qs
seen-append [] qs = refl
seen-append (p ∷ ps) qs = ap (λ (xs : List (Option (List ℕ))). seen_fragment p ∷ xs) (seen-append ps qs)

pub length-seen : (ps : List (Option (Vec ℕ Global))) → length (seen ps) ≡ length ps
length-seen [] = refl
length-seen (p ∷ ps) = ap (λ n. suc n) (length-seen ps)

-- the value of a place is its content
pub get_seen : (ps : List (Option (Vec ℕ Global))) (i : ℕ) (d : Option (Vec ℕ Global)) → i < length ps → get_or (seen ps) i None ≡ seen_fragment (get_or ps i d)
get_seen [] i d h = absurd (omega arith)
get_seen (p ∷ ps) zero d h = refl
get_seen (p ∷ ps) (suc i) d h = get_seen ps i d (omega arith)

pub is_some-seen : (o : Option (Vec ℕ Global)) → is_some (seen_fragment o) ≡ is_some o
is_some-seen None = refl
is_some-seen (Some v) = refl

-- a fragment that is put in and taken out again leaves the fragments as they were
pub put_back : (ps : List (Option (List ℕ))) (i : ℕ) (a : Option (List ℕ)) → get_or ps i None ≡ None → set (set ps i a) i None ≡ ps
put_back [] zero a h = refl
put_back [] (suc i) a h = refl
put_back (p ∷ ps) zero a h = ap (λ (x : Option (List ℕ)). x ∷ ps) (sym h)
put_back (p ∷ ps) (suc i) a h = ap (λ (xs : List (Option (List ℕ))). p ∷ xs) (put_back ps i a h)

-- a fragment that is there has a place
pub there_below : (ps : List (Option (List ℕ))) (i : ℕ) → is_some (get_or ps i None) ≡ true → i < length ps
there_below [] zero h = absurd cc
there_below [] (suc i) h = absurd cc
there_below (p ∷ ps) zero h = omega arith
there_below (p ∷ ps) (suc i) h = let lt = there_below ps i h in omega arith

-- ---- how many are missing

pub count_missing-replicate : (n : ℕ) → count_missing (replicate n None) ≡ n
count_missing-replicate zero = refl
count_missing-replicate (suc n) = let e = count_missing-replicate n in omega (arith, e)

pub missing_most : (ps : List (Option (List ℕ))) → count_missing ps ≤ length ps
missing_most [] = omega arith
missing_most (None ∷ ps) = let le = missing_most ps in omega arith
missing_most (Some t ∷ ps) = let le = missing_most ps in omega arith

pub missing_put : (ps : List (Option (List ℕ))) (i : ℕ) (t : List ℕ) → i < length ps → get_or ps i None ≡ None → count_missing (set ps i (Some t)) + 1 ≡ count_missing ps
missing_put [] i t lt h = absurd (omega arith)
missing_put (None ∷ ps) zero t lt h = omega arith
missing_put (Some u ∷ ps) zero t lt h = absurd cc
missing_put (None ∷ ps) (suc i) t lt h = let e = missing_put ps i t (omega arith) h in omega (arith, e)
missing_put (Some u ∷ ps) (suc i) t lt h = missing_put ps i t (omega arith) h

pub missing_out : (ps : List (Option (List ℕ))) (i : ℕ) → is_some (get_or ps i None) ≡ true → count_missing (set ps i None) ≡ count_missing ps + 1
missing_out [] zero h = absurd cc
missing_out [] (suc i) h = absurd cc
missing_out (None ∷ ps) zero h = absurd cc
missing_out (Some u ∷ ps) zero h = omega arith
missing_out (None ∷ ps) (suc i) h = let e = missing_out ps i h in omega (arith, e)
missing_out (Some u ∷ ps) (suc i) h = missing_out ps i h

pub none_missing : (ps : List (Option (List ℕ))) → eqb (count_missing ps) 0 ≡ all_there ps
none_missing [] = refl
none_missing (None ∷ ps) =
    let some : 1 + count_missing ps ≡ 0 → ⊥ = λ e. omega (arith, e) in
    ne_eqb (1 + count_missing ps) 0 some
none_missing (Some t ∷ ps) = none_missing ps

pub length-set_out : (ps : List (Option (List ℕ))) (i : ℕ) → length (set ps i None) ≡ length ps
length-set_out [] zero = refl
length-set_out [] (suc i) = refl
length-set_out (p ∷ ps) zero = refl
length-set_out (p ∷ ps) (suc i) = ap (λ n. suc n) (length-set_out ps i)

pub none_here : (o : Option (List ℕ)) → is_some o ≡ false → o ≡ None
none_here None h = refl
none_here (Some x) h = absurd cc
