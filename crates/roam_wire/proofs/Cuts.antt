-- Cutting: the fragments of a text join to it, are few, and have lengths that datagrams carry.
use Rattle.std.proofs.Common.{◌≡◌, ℕ, zero, suc, ◌+◌, ◌*◌, ◌<◌, ◌≤◌, List, [], ◌∷◌, ◌++◌, length, take, drop, get_or, min, refl, sym, ap, ◌∙◌, arith, length-take, length-drop, append-nil, Vec}
use Rattle.std.proofs.lemmas.List.{take-append-drop, take_min, drop_min}
use Rattle.std.specs.declared.alloc.Global.{Global}
use Rattle.roam_wire.specs.Cutting.{cut_within, fragments_of, joined_fragments, AreSendable, texts_of}
use Rattle.roam_wire.specs.Versions.{most_bytes, most_fragments}
use Rattle.roam_wire.specs.declared.versions.Version.{Version}
use Rattle.roam_wire.specs.declared.versions.Version.TheVariants.{One, Two}

-- a number at least the text's length is as good as another
enough : (size n m : ℕ) (text : List ℕ) → 0 < size → length text ≤ n → length text ≤ m → cut_within size n text ≡ cut_within size m text
enough size zero zero text some p q = refl
enough size zero (suc m) [] some p q = refl
enough size zero (suc m) (x ∷ xs) some p q = absurd (omega arith)
enough size (suc n) zero [] some p q = refl
enough size (suc n) zero (x ∷ xs) some p q = absurd (omega arith)
enough size (suc n) (suc m) [] some p q = refl
enough size (suc n) (suc m) (x ∷ xs) some p q =
    let rest = length-drop size (x ∷ xs) in
    ap (λ (ps : List (List ℕ)). take size (x ∷ xs) ∷ ps) (enough size n m (drop size (x ∷ xs)) some (omega (arith, rest)) (omega (arith, rest)))

cut_step : (size : ℕ) (text : List ℕ) → 0 < size → 0 < length text → cut_within size (length text) text ≡ take size text ∷ cut_within size (length (drop size text)) (drop size text)
cut_step size [] some long = absurd (omega arith)
cut_step size (x ∷ xs) some long =
    let rest = length-drop size (x ∷ xs) in
    ap (λ (ps : List (List ℕ)). take size (x ∷ xs) ∷ ps) (enough size (length xs) (length (drop size (x ∷ xs))) (drop size (x ∷ xs)) some (omega (arith, rest)) (omega arith))

-- a text that isn't empty begins with a fragment
pub fragments_of-step : (text : List ℕ) → 0 < length text → fragments_of text ≡ take 1200 text ∷ fragments_of (drop 1200 text)
unfolding fragments_of
fragments_of-step text long = cut_step 1200 text (omega arith) long

pub fragments_of-empty : fragments_of [] ≡ []
unfolding fragments_of
fragments_of-empty = refl

-- ---- the fragments

joined-cut : (size n : ℕ) (text : List ℕ) → 0 < size → length text ≤ n → joined_fragments (cut_within size n text) ≡ text
joined-cut size zero [] some le = refl
joined-cut size zero (x ∷ xs) some le = absurd (omega arith)
joined-cut size (suc n) [] some le = refl
joined-cut size (suc n) (x ∷ xs) some le =
    let rest = length-drop size (x ∷ xs) in
    ap (λ z. take size (x ∷ xs) ++ z) (joined-cut size n (drop size (x ∷ xs)) some (omega (arith, rest))) ∙ take-append-drop size (x ∷ xs)

pub joined-fragments : (text : List ℕ) → joined_fragments (fragments_of text) ≡ text
unfolding fragments_of
joined-fragments text = joined-cut 1200 (length text) text (omega arith) (omega arith)

few : (n m : ℕ) (text : List ℕ) → length text ≤ 1200 * m → length (cut_within 1200 n text) ≤ m
few zero m text le = omega arith
few (suc n) m [] le = omega arith
few (suc n) zero (x ∷ xs) le = absurd (omega arith)
few (suc n) (suc m) (x ∷ xs) le =
    let rest = length-drop 1200 (x ∷ xs) in
    let fewer = few n m (drop 1200 (x ∷ xs)) (omega (arith, rest)) in
    omega (arith, fewer)

some_left : (size n : ℕ) (text : List ℕ) → 0 < length (cut_within size n text) → 0 < length text
some_left size zero text lt = absurd (omega (arith, lt))
some_left size (suc n) [] lt = absurd (omega (arith, lt))
some_left size (suc n) (x ∷ xs) lt = omega arith

record IsSized (size index count len : ℕ) : Type 0 where
  low : 1 ≤ len
  high : len ≤ size
  whole : index + 1 < count → len ≡ size

sized : (size n : ℕ) (text : List ℕ) → 0 < size → length text ≤ n → (i : ℕ) → i < length (cut_within size n text)
    → IsSized size i (length (cut_within size n text)) (length (get_or (cut_within size n text) i []))
sized size zero text some le i lt = absurd (omega (arith, lt))
sized size (suc n) [] some le i lt = absurd (omega (arith, lt))
sized size (suc n) (x ∷ xs) some le zero lt =
    let front = length-take size (x ∷ xs) in
    let rest = length-drop size (x ∷ xs) in
    let whole : 0 + 1 < length (cut_within size (suc n) (x ∷ xs)) → length (take size (x ∷ xs)) ≡ size = λ more.
    let left = some_left size n (drop size (x ∷ xs)) (omega (arith, more)) in omega (arith, front, rest, left) in
    record { low = omega (arith, front); high = omega (arith, front); whole = whole }
sized size (suc n) (x ∷ xs) some le (suc i) lt =
    let rest = length-drop size (x ∷ xs) in
    let is = sized size n (drop size (x ∷ xs)) some (omega (arith, rest)) i (omega (arith, lt)) in
    record { low = is.low; high = is.high; whole = λ more. is.whole (omega (arith, more)) }

-- the fragments of a text that isn't too long for a version are as datagrams of the version may carry them
pub sendable_in : (v : Version) (text : List ℕ) → length text ≤ most_bytes v → AreSendable v (fragments_of text)
unfolding fragments_of
sendable_in v text le =
    record {
      few = go v le;
      lengths = λ i lt. let is = sized 1200 (length text) text (omega arith) (omega arith) i lt in record { low = is.low; high = is.high; whole = is.whole };
    }
  where
    go : (v : Version) → length text ≤ most_bytes v → length (cut_within 1200 (length text) text) ≤ most_fragments v
    go One le = few (length text) 1024 text (omega arith)
    go Two le = few (length text) 4096 text (omega arith)

-- ---- a loop over a text

texts_more : (vs : List (Vec ℕ Global)) (v : Vec ℕ Global) (ps : List (List ℕ)) → texts_of (vs ++ v ∷ []) ++ ps ≡ texts_of vs ++ (v.items ∷ ps)
texts_more [] v ps = refl
texts_more (w ∷ vs) v ps = ap (λ (xs : List (List ℕ)). w.items ∷ xs) (texts_more vs v ps)

-- one more fragment
pub fragment_more : (vs : List (Vec ℕ Global)) (v : Vec ℕ Global) (rest more text : List ℕ) (n : ℕ) → 0 < length rest → n ≡ min 1200 (length rest) → v.items ≡ take n rest → more ≡ drop n rest
    → texts_of vs ++ fragments_of rest ≡ fragments_of text → texts_of (vs ++ v ∷ []) ++ fragments_of more ≡ fragments_of text
fragment_more vs v rest more text n long is front back so =
    let fragment : v.items ≡ take 1200 rest = front ∙ ap (λ (k : ℕ). take k rest) is ∙ take_min 1200 rest in
    let left : more ≡ drop 1200 rest = back ∙ ap (λ (k : ℕ). drop k rest) is ∙ drop_min 1200 rest in
    texts_more vs v (fragments_of more)
    ∙ (λ i. texts_of vs ++ (fragment i ∷ fragments_of (left i)))
    ∙ ap (λ (ps : List (List ℕ)). texts_of vs ++ ps) (sym (fragments_of-step rest long))
    ∙ so

-- nothing is left
pub no_more : (ps : List (List ℕ)) (rest text : List ℕ) → length rest ≡ 0 → ps ++ fragments_of rest ≡ fragments_of text → ps ≡ fragments_of text
no_more ps [] text e so = sym (append-nil ps) ∙ ap (λ (xs : List (List ℕ)). ps ++ xs) (sym fragments_of-empty) ∙ so
no_more ps (x ∷ rest) text e so = absurd (omega (arith, e))
