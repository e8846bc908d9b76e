-- Lists of numbers: members, rising lists, and their greatest length.
use Rattle.std.proofs.Common.{◌≡◌, ◌⊎◌, ℕ, ◌<◌, ◌≤◌, Bool, true, false, leb, ltb, List, [], ◌∷◌, ◌++◌, length, filter, refl, sym, ap, ◌∙◌, inl, inr, arith}
use Rattle.std.proofs.lemmas.Bool.{cases_Bool}
use Rattle.std.proofs.lemmas.Bool.Decides.{nat_tests}
use Rattle.roam_sync.specs.Links.{IsAmong, IsRising}

pub among_left : (n : ℕ) (ns ms : List ℕ) → IsAmong n ns → IsAmong n (ns ++ ms)
among_left n [] ms h = absurd h
among_left n (k ∷ ns) ms h = elim h [ inl e ↦ inl e | inr r ↦ inr (among_left n ns ms r) ]

pub among_right : (n : ℕ) (ns ms : List ℕ) → IsAmong n ms → IsAmong n (ns ++ ms)
among_right n [] ms h = h
among_right n (k ∷ ns) ms h = inr (among_right n ns ms h)

pub among_cases : (n : ℕ) (ns ms : List ℕ) → IsAmong n (ns ++ ms) → IsAmong n ns ⊎ IsAmong n ms
among_cases n [] ms h = inr h
among_cases n (k ∷ ns) ms h =
    elim h [
      | inl e ↦ inl (inl e)
      | inr r ↦ elim (among_cases n ns ms r) [ inl a ↦ inl (inr a) | inr b ↦ inr b ]
    ]

-- an element that passes a test was there
pub among_filter : (f : ℕ → Bool) (n : ℕ) (ns : List ℕ) → IsAmong n (filter f ns) → IsAmong n ns
among_filter f n [] h = h
among_filter f n (k ∷ ns) h =
    elim (cases_Bool (f k)) [
      | inl e ↦ (let g : (k ≡ n) ⊎ IsAmong n (filter f ns) = rw e at h in elim g [ inl a ↦ inl a | inr r ↦ inr (among_filter f n ns r) ])
      | inr e ↦ inr (among_filter f n ns (rw e at h))
    ]

-- an element that is there and passes the test stays
pub among_passes : (f : ℕ → Bool) (n : ℕ) (ns : List ℕ) → f n ≡ true → IsAmong n ns → IsAmong n (filter f ns)
among_passes f n [] t h = h
among_passes f n (k ∷ ns) t h =
    elim (cases_Bool (f k)) [
      | inl e ↦ rw e (elim h [ inl a ↦ inl a | inr r ↦ inr (among_passes f n ns t r) ])
      | inr e ↦ rw e (elim h [ inl a ↦ absurd (let no : true ≡ false = sym t ∙ ap f (sym a) ∙ e in cc) | inr r ↦ among_passes f n ns t r ])
    ]

-- and it passed
pub among_passed : (f : ℕ → Bool) (n : ℕ) (ns : List ℕ) → IsAmong n (filter f ns) → f n ≡ true
among_passed f n [] h = absurd h
among_passed f n (k ∷ ns) h =
    elim (cases_Bool (f k)) [
      | inl e ↦
          let g : (k ≡ n) ⊎ IsAmong n (filter f ns) = rw e at h in
          elim g [ inl a ↦ ap f (sym a) ∙ e | inr r ↦ among_passed f n ns r ]
      | inr e ↦ among_passed f n ns (rw e at h)
    ]

pub among_from : (k n : ℕ) (ns : List ℕ) → k ≤ n → IsAmong n ns → IsAmong n (filter (leb k) ns)
among_from k n ns le h = let t : leb k n ≡ true = grind (arith, nat_tests) in among_passes (leb k) n ns t h

pub low_from : (k n : ℕ) (ns : List ℕ) → IsAmong n (filter (leb k) ns) → k ≤ n
low_from k n ns h = let t : leb k n ≡ true = among_passed (leb k) n ns h in grind (arith, nat_tests)

pub among_below : (top n : ℕ) (ns : List ℕ) → n < top → IsAmong n ns → IsAmong n (filter (λ m. ltb m top) ns)
among_below top n ns lt h = let t : ltb n top ≡ true = grind (arith, nat_tests) in among_passes (λ m. ltb m top) n ns t h

pub rising-filter : (f : ℕ → Bool) (ns : List ℕ) → IsRising ns → IsRising (filter f ns)
rising-filter f [] r = tt
rising-filter f (n ∷ ns) r =
    let rest = rising-filter f ns r.1 in
    elim (cases_Bool (f n)) [
      | inl e ↦ rw e ((λ m h. r.0 m (among_filter f m ns h)), rest)
      | inr e ↦ rw e rest
    ]

-- a rising list whose numbers are all in another is no longer
pub no_longer : (ns ms : List ℕ) → IsRising ns → IsRising ms → ((n : ℕ) → IsAmong n ns → IsAmong n ms) → length ns ≤ length ms
no_longer [] ms r t h = omega arith
no_longer (n ∷ ns) [] r t h = absurd (h n (inl refl))
no_longer (n ∷ ns) (m ∷ ms) r t h =
    elim (h n (inl refl)) [
      | inl e ↦
          let rest : (k : ℕ) → IsAmong k ns → IsAmong k ms =
          λ k a. (let lt = r.0 k a in elim (h k (inr a)) [ inl f ↦ absurd (omega arith) | inr b ↦ b ]) in
          let le = no_longer ns ms r.1 t.1 rest in
          omega arith
      | inr g ↦
          let lt = t.0 n g in
          let all : (k : ℕ) → IsAmong k (n ∷ ns) → IsAmong k ms =
          λ k a. elim (h k a) [
            | inl f ↦ absurd (elim a [ inl e ↦ omega arith | inr b ↦ (let up = r.0 k b in omega arith) ])
            | inr b ↦ b
          ] in
          let le = no_longer (n ∷ ns) ms r t.1 all in
          omega arith
    ]

pub no_more : (f : ℕ → Bool) (ns : List ℕ) → length (filter f ns) ≤ length ns
no_more f [] = omega arith
no_more f (n ∷ ns) =
    let rest = no_more f ns in
    elim (cases_Bool (f n)) [ inl e ↦ rw e (omega (arith, rest)) | inr e ↦ rw e (omega (arith, rest)) ]

-- fewer are below a number that is there
pub fewer_below : (top : ℕ) (ns : List ℕ) → IsAmong top ns → length (filter (λ m. ltb m top) ns) < length ns
fewer_below top [] h = absurd h
fewer_below top (n ∷ ns) h =
    let most = no_more (λ m. ltb m top) ns in
    elim (cases_Bool (ltb n top)) [
      | inl e ↦ rw e (elim h [
        | inl same ↦ absurd (grind (arith, nat_tests))
        | inr g ↦ (let rest = fewer_below top ns g in omega (arith, rest))
      ])
      | inr e ↦ rw e (omega (arith, most))
    ]
