-- All fragments of one instruction come, each at least once, in any order: then it is whole.
use Rattle.std.proofs.Common.{◌≡◌, ℕ, zero, suc, ◌<◌, ◌≤◌, ◌⊎◌, List, [], ◌∷◌, length, get_or, set, replicate, Option, Some, None, Bool, true, false, refl, sym, ap, ◌∙◌, subst, inl, inr, arith, cond}
use Rattle.std.specs.Prelude.{is_some, nat_eq, nat_lt, nat_le, not, ◌&&◌, ◌||◌}
use Rattle.std.proofs.lemmas.Bool.Decides.{nat_tests}
use Rattle.std.proofs.lemmas.List.{length-replicate}
use Rattle.roam_wire.specs.Gatherers.{FragmentValue, Gathering, Answer, Part, Old, Whole, gather, with_fragment, answer_in}
use Rattle.roam_wire.specs.Fragments.{all_there, text_of}
use Rattle.roam_wire.specs.AnyOrder.{IsFragmentOf, GathersOf, GathersWell, after}
use Rattle.roam_wire.proofs.Arrive.{well}
use Rattle.roam_model.proofs.Members.{slice_get-within}

-- the gathered fragments after some came one after another
abbrev pub gathered_all : Gathering → List FragmentValue → Gathering
gathered_all g [] = g
gathered_all g (p ∷ ps) = gathered_all (after g (gather g p)) ps

-- all of these are fragments of one instruction
abbrev pub AllOf : (ℕ → List (List ℕ)) → ℕ → List FragmentValue → Type 0
AllOf cuts n [] = Unit {0}
AllOf cuts n (p ∷ ps) = (p.id ≡ n) × IsFragmentOf cuts p × AllOf cuts n ps

-- the fragment of this index is among them
abbrev pub Comes : ℕ → List FragmentValue → Type 0
Comes i [] = ⊥
Comes i (p ∷ ps) = (p.index ≡ i) ⊎ Comes i ps

-- a place has its fragment
abbrev IsThere : Gathering → ℕ → Type 0
IsThere g i = is_some (get_or g.fragments i None) ≡ true

-- ---- lists of places

there_at : (ps : List (Option (List ℕ))) (i : ℕ) → all_there ps ≡ true → i < length ps → is_some (get_or ps i None) ≡ true
there_at [] i all lt = absurd (omega arith)
there_at (None ∷ ps) i all lt = absurd (cc)
there_at (Some x ∷ ps) zero all lt = refl
there_at (Some x ∷ ps) (suc i) all lt = there_at ps i all (omega arith)

all_from : (ps : List (Option (List ℕ))) → ((i : ℕ) → i < length ps → is_some (get_or ps i None) ≡ true) → all_there ps ≡ true
all_from [] each = refl
all_from (None ∷ ps) each = absurd (let no : false ≡ true = each 0 (omega arith) in cc)
all_from (Some x ∷ ps) each = all_from ps (λ i lt. each (suc i) (omega arith))

set_here : (ps : List (Option (List ℕ))) (i : ℕ) (x : List ℕ) → i < length ps → is_some (get_or (set ps i (Some x)) i None) ≡ true
set_here [] i x lt = absurd (omega arith)
set_here (p ∷ ps) zero x lt = refl
set_here (p ∷ ps) (suc i) x lt = set_here ps i x (omega arith)

set_stays : (ps : List (Option (List ℕ))) (i j : ℕ) (x : List ℕ) → is_some (get_or ps j None) ≡ true
    → is_some (get_or (set ps i (Some x)) j None) ≡ true
set_stays [] i j x e = e
set_stays (p ∷ ps) zero zero x e = refl
set_stays (p ∷ ps) zero (suc j) x e = e
set_stays (p ∷ ps) (suc i) zero x e = e
set_stays (p ∷ ps) (suc i) (suc j) x e = set_stays ps i j x e

-- ---- one fragment

-- it is there then, and so is all that was
record Adds (g h : Gathering) (n index : ℕ) : Type 0 where
  number : h.id ≡ n
  stays : g.id ≡ n → (i : ℕ) → IsThere g i → IsThere h i
  here : IsThere h index

adds : (cuts : ℕ → List (List ℕ)) (g : Gathering) (p : FragmentValue) → IsFragmentOf cuts p → GathersOf cuts g → g.id ≤ p.id
    → Adds g (after g (gather g p)) p.id p.index
adds cuts g p of is le =
    go (nat_le p.count p.index) refl (nat_lt p.id g.id) refl (nat_eq p.id g.id) refl (all_there g.fragments) refl (nat_lt g.id p.id) refl
    (nat_eq (length g.fragments) p.count) refl (is_some (get_or g.fragments p.index None)) refl
  where
    nothing_there : Option (List ℕ)
    nothing_there = None

    within : p.index < p.count
    within = let lt = slice_get-within (cuts p.id) p.index p.payload of.there in let count = of.count in omega (arith, lt, count)

    long : g.id ≡ p.id → length g.fragments ≡ p.count
    long same = is.count ∙ ap (λ (n : ℕ). length (cuts n)) same ∙ sym of.count

    more : g.id ≡ p.id → Adds g (record { id = p.id; fragments = set g.fragments p.index (Some p.payload) }) p.id p.index
    more same =
        let many = long same in
        record {
          number = refl;
          stays = (λ s i t. set_stays g.fragments p.index i p.payload t);
          here = set_here g.fragments p.index p.payload (omega (arith, within, many));
        }

    go : (a : Bool) → nat_le p.count p.index ≡ a → (b : Bool) → nat_lt p.id g.id ≡ b → (c : Bool) → nat_eq p.id g.id ≡ c → (d : Bool)
        → all_there g.fragments ≡ d
        → (e : Bool) → nat_lt g.id p.id ≡ e → (f : Bool) → nat_eq (length g.fragments) p.count ≡ f → (k : Bool)
        → is_some (get_or g.fragments p.index None) ≡ k
        → Adds g (after g (cond (b || (c && d)) (Some (Old, g)) (cond a None
        (cond e (Some (with_fragment (replicate p.count None) p))
        (cond (not f) None (cond k (Some (Old, g)) (Some (with_fragment g.fragments p)))))))) p.id p.index
    go true a' b b' c c' d d' e e' f f' k k' = let le' : p.count ≤ p.index = grind (arith, nat_tests) in absurd (omega (arith, within, le'))
    go false a' true b' c c' d d' e e' f f' k k' = let lt : p.id < g.id = grind (arith, nat_tests) in absurd (omega (arith, lt, le))
    go false a' false b' true c' true d' e e' f f' k k' =
        let same : g.id ≡ p.id = grind (arith, nat_tests) in
        let many = long same in
        record { number = same; stays = (λ s i t. t); here = there_at g.fragments p.index d' (omega (arith, within, many)) }
    go false a' false b' true c' false d' true e' f f' k k' =
        let same : g.id ≡ p.id = grind (arith, nat_tests) in let lt : g.id < p.id =
        grind (arith, nat_tests) in absurd (omega (arith, same, lt))
    go false a' false b' false c' d d' true e' f f' k k' =
        let lt : g.id < p.id = grind (arith, nat_tests) in
        record {
          number = refl;
          stays = (λ s i t. absurd (omega (arith, s, lt)));
          here = set_here (replicate p.count None) p.index p.payload (omega (arith, within, length-replicate p.count nothing_there));
        }
    go false a' false b' c c' d d' false e' false f' k k' =
        let same : g.id ≡ p.id = let ge : p.id ≤ g.id = grind (arith, nat_tests) in omega (arith, le, ge) in
        let many = long same in
        absurd (grind (arith, nat_tests))
    go false a' false b' true c' false d' false e' true f' true k' =
        let same : g.id ≡ p.id = grind (arith, nat_tests) in record { number = same; stays = (λ s i t. t); here = k' }
    go false a' false b' false c' d d' false e' true f' true k' =
        let same : g.id ≡ p.id = let ge : p.id ≤ g.id = grind (arith, nat_tests) in omega (arith, le, ge) in
        record { number = same; stays = (λ s i t. t); here = k' }
    go false a' false b' true c' false d' false e' true f' false k' = more (grind (arith, nat_tests))
    go false a' false b' false c' d d' false e' true f' false k' =
        more (let ge : p.id ≤ g.id = grind (arith, nat_tests) in omega (arith, le, ge))

after_gathers : (cuts : ℕ → List (List ℕ)) (g : Gathering) (p : FragmentValue) (x : Option (Answer × Gathering)) → GathersWell cuts g p x
    → GathersOf cuts g → GathersOf cuts (after g x)
after_gathers cuts g p None w is = is
after_gathers cuts g p (Some (a, h)) w is = w.0

-- ---- many fragments

all_gathered : (cuts : ℕ → List (List ℕ)) (n : ℕ) (g : Gathering) (ps : List FragmentValue) → AllOf cuts n ps → GathersOf cuts g → g.id ≡ n
    → ((i : ℕ) → i < length (cuts n) → IsThere g i ⊎ Comes i ps)
    → (all_there (gathered_all g ps).fragments ≡ true) × ((gathered_all g ps).id ≡ n)
all_gathered cuts n g [] all is at each =
    let many : length g.fragments ≡ length (cuts n) = is.count ∙ ap (λ (k : ℕ). length (cuts k)) at in
    (all_from g.fragments (λ i lt. elim (each i (omega (arith, lt, many))) [ inl e ↦ e | inr z ↦ absurd z ]), at)
all_gathered cuts n g (p ∷ ps) all is at each =
    let same = all.0 in
    let a = adds cuts g p all.1 is (omega (arith, at, same)) in
    all_gathered cuts n (after g (gather g p)) ps all.2 (after_gathers cuts g p (gather g p) (well cuts g p is all.1) is) (a.number ∙ all.0)
    (λ i lt. elim (each i lt) [
      | inl e ↦ inl (a.stays (at ∙ sym all.0) i e)
      | inr c ↦ elim c [ inl e ↦ inl (subst (λ (j : ℕ). IsThere (after g (gather g p)) j) e a.here) | inr d ↦ inr d ]
    ])

pub all_gathered_anew : (cuts : ℕ → List (List ℕ)) (n : ℕ) (g : Gathering) (p : FragmentValue) (ps : List FragmentValue) → AllOf cuts n (p ∷ ps)
    → GathersOf cuts g → g.id < n
    → ((i : ℕ) → i < length (cuts n) → Comes i (p ∷ ps))
    → (all_there (gathered_all g (p ∷ ps)).fragments ≡ true) × ((gathered_all g (p ∷ ps)).id ≡ n)
all_gathered_anew cuts n g p ps all is lt each =
    let same = all.0 in
    let a = adds cuts g p all.1 is (omega (arith, lt, same)) in
    all_gathered cuts n (after g (gather g p)) ps all.2 (after_gathers cuts g p (gather g p) (well cuts g p is all.1) is) (a.number ∙ all.0)
    (λ i low. elim (each i low) [ inl e ↦ inl (subst (λ (j : ℕ). IsThere (after g (gather g p)) j) e a.here) | inr d ↦ inr d ])

-- ---- what isn't whole

-- the result of a gatherer is whole if each fragment is there, and a part if one is missing
abbrev pub IsPart : Option (Answer × Gathering) → Type 0
IsPart None = Unit {0}
IsPart (Some (Part, h)) = all_there h.fragments ≡ false
IsPart (Some (Old, h)) = Unit {0}
IsPart (Some (Whole text, h)) = Unit {0}

-- an old fragment leaves the gathered ones
abbrev pub IsSame : Gathering → Option (Answer × Gathering) → Type 0
IsSame g None = Unit {0}
IsSame g (Some (Part, h)) = Unit {0}
IsSame g (Some (Old, h)) = h ≡ g
IsSame g (Some (Whole text, h)) = Unit {0}

with_part : (g : Gathering) (ps : List (Option (List ℕ))) (p : FragmentValue) → IsPart (Some (with_fragment ps p)) × IsSame g (Some (with_fragment ps p))
with_part g ps p = go (set ps p.index (Some p.payload))
  where
    go : (qs : List (Option (List ℕ))) → IsPart (Some (answer_in qs, record { id = p.id; fragments = qs }))
        × IsSame g (Some (answer_in qs, record { id = p.id; fragments = qs }))
    go qs = by (all_there qs) refl
      where
        by : (b : Bool) → all_there qs ≡ b → IsPart (Some (cond b (Whole (text_of qs)) Part, record { id = p.id; fragments = qs }))
            × IsSame g (Some (cond b (Whole (text_of qs)) Part, record { id = p.id; fragments = qs }))
        by true e = (tt, tt)
        by false e = (e, tt)

pub is_part : (g : Gathering) (p : FragmentValue) → IsPart (gather g p) × IsSame g (gather g p)
is_part g p = go (nat_le p.count p.index) (nat_lt p.id g.id || (nat_eq p.id g.id && all_there g.fragments)) (nat_lt g.id p.id)
    (nat_eq (length g.fragments) p.count) (is_some (get_or g.fragments p.index None))
  where
    go : (a b c d e : Bool)
        → IsPart (cond b (Some (Old, g)) (cond a None
        (cond c (Some (with_fragment (replicate p.count None) p))
        (cond (not d) None (cond e (Some (Old, g)) (Some (with_fragment g.fragments p)))))))
        × IsSame g (cond b (Some (Old, g)) (cond a None
        (cond c (Some (with_fragment (replicate p.count None) p))
        (cond (not d) None (cond e (Some (Old, g)) (Some (with_fragment g.fragments p)))))))
    go a true c d e = (tt, refl)
    go true false c d e = (tt, tt)
    go false false true d e = with_part g (replicate p.count None) p
    go false false false false e = (tt, tt)
    go false false false true true = (tt, refl)
    go false false false true false = with_part g g.fragments p
