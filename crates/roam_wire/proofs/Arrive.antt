-- The effect of sent fragments on a gatherer: it has those of the highest id that arrived, and its results follow.
use Rattle.std.proofs.Common.{◌≡◌, ℕ, zero, suc, ◌+◌, ◌<◌, ◌≤◌, max, Bool, true, false, ◌||◌, ◌&&◌, cond, eqb, leb, ltb, List, [], ◌∷◌, ◌++◌, length, get_or, set, replicate, Option, Some, None, refl, sym, ap, subst, ◌∙◌, arith, inl, inr, ◌⊎◌}
use Rattle.std.specs.Prelude.{is_some, slice_get}
use Rattle.std.proofs.lemmas.Bool.{cases_Bool, eq-eqb, ne_eqb, eqb-true}
use Rattle.std.proofs.lemmas.Bool.Decides.{nat_tests}
use Rattle.roam_wire.specs.Cutting.{joined_fragments}
use Rattle.roam_wire.specs.Fragments.{all_there, text_of}
use Rattle.roam_wire.specs.Gatherers.{FragmentValue, Gathering, nothing, Answer, Part, Old, Whole, gather, with_fragment, answer_in}
use Rattle.roam_wire.specs.AnyOrder.{IsFragmentOf, AreFragmentsOf, after, gathered_of, highest, has_arrived, each_from, answer_to, GathersOf, GathersWell, IsCutText}

-- ---- those of some texts, numbered from k on, that came

abbrev came_from : ℕ → (ℕ → Bool) → List (List ℕ) → List (Option (List ℕ))
came_from k came [] = []
came_from k came (t ∷ ts) = cond (came k) (Some t) None ∷ came_from (k + 1) came ts

-- only numbers from k on matter
same_from : (k : ℕ) (f g : ℕ → Bool) (ts : List (List ℕ)) → ((j : ℕ) → k ≤ j → f j ≡ g j) → came_from k f ts ≡ came_from k g ts
same_from k f g [] h = refl
same_from k f g (t ∷ ts) h = rw (h k (omega arith), same_from (k + 1) f g ts (λ j le. h j (omega arith))) refl

length-came : (k : ℕ) (f : ℕ → Bool) (ts : List (List ℕ)) → length (came_from k f ts) ≡ length ts
length-came k f [] = refl
length-came k f (t ∷ ts) = ap (λ n. suc n) (length-came (k + 1) f ts)

blank : (k : ℕ) (ts : List (List ℕ)) → replicate (length ts) None ≡ came_from k (λ j. false) ts
blank k [] = refl
blank k (t ∷ ts) = ap (λ (xs : List (Option (List ℕ))). None ∷ xs) (blank (k + 1) ts)

at_place : (k i : ℕ) (f : ℕ → Bool) (ts : List (List ℕ)) → i < length ts → is_some (get_or (came_from k f ts) i None) ≡ f (k + i)
at_place k i f [] h = absurd (omega arith)
at_place k zero f (t ∷ ts) h =
    let here : f (k + 0) ≡ f k = ap f (omega arith) in
    elim (cases_Bool (f k)) [ inl e ↦ rw (here, e) refl | inr e ↦ rw (here, e) refl ]
at_place k (suc i) f (t ∷ ts) h = at_place (k + 1) i f ts (omega arith) ∙ ap f (omega arith)

-- one more came
set_came : (k i : ℕ) (f : ℕ → Bool) (ts : List (List ℕ)) (t : List ℕ) → slice_get ts i ≡ Some t → set (came_from k f ts) i (Some t) ≡ came_from k (λ j. eqb (k + i) j || f j) ts
set_came k i f [] u h = absurd cc
set_came k zero f (t ∷ ts) u h =
    let hit : eqb (k + 0) k ≡ true = eq-eqb _ _ (omega arith) in
    let same : t ≡ u = cc in
    let other : (j : ℕ) → k + 1 ≤ j → k + 0 ≡ j → ⊥ = λ j le e. omega (arith, e, le) in
    let rest : came_from (k + 1) f ts ≡ came_from (k + 1) (λ j. eqb (k + 0) j || f j) ts =
    same_from (k + 1) f (λ j. eqb (k + 0) j || f j) ts (λ j le. sym (rw (ne_eqb (k + 0) j (other j le)) refl)) in
    rw hit (λ i. Some (sym same i) ∷ rest i)
set_came k (suc i) f (t ∷ ts) u h =
    let gone : k + suc i ≡ k → ⊥ = λ e. omega (arith, e) in
    let miss : eqb (k + suc i) k ≡ false = ne_eqb _ _ gone in
    let rest : set (came_from (k + 1) f ts) i (Some u) ≡ came_from (k + 1) (λ j. eqb (k + suc i) j || f j) ts =
    set_came (k + 1) i f ts u h
    ∙ same_from (k + 1) (λ j. eqb (k + 1 + i) j || f j) (λ j. eqb (k + suc i) j || f j) ts (λ j le. ap (λ n. eqb n j || f j) (omega arith)) in
    rw miss (ap (λ (xs : List (Option (List ℕ))). cond (f k) (Some t) None ∷ xs) rest)

text_of-came : (k : ℕ) (f : ℕ → Bool) (ts : List (List ℕ)) → all_there (came_from k f ts) ≡ true → text_of (came_from k f ts) ≡ joined_fragments ts
text_of-came k f [] h = refl
text_of-came k f (t ∷ ts) h =
    elim (cases_Bool (f k)) [
      | inl e ↦ rw e (ap (λ (xs : List ℕ). t ++ xs) (text_of-came (k + 1) f ts (rw e at h)))
      | inr e ↦ absurd (let no : false ≡ true = rw e at h in cc)
    ]

all_came : (k : ℕ) (f : ℕ → Bool) (ts : List (List ℕ)) → all_there (came_from k f ts) ≡ each_from k (length ts) f
all_came k f [] = refl
all_came k f (t ∷ ts) = elim (cases_Bool (f k)) [ inl e ↦ rw e (all_came (k + 1) f ts) | inr e ↦ rw e refl ]

each_has : (k n : ℕ) (f : ℕ → Bool) (i : ℕ) → each_from k n f ≡ true → i < n → f (k + i) ≡ true
each_has k zero f i e lt = absurd (omega arith)
each_has k (suc n) f zero e lt =
    let here : f (k + 0) ≡ f k = ap f (omega arith) in
    elim (cases_Bool (f k)) [ inl t ↦ here ∙ t | inr t ↦ absurd (let no : false ≡ true = rw t at e in cc) ]
each_has k (suc n) f (suc i) e lt =
    elim (cases_Bool (f k)) [
      | inl t ↦ ap f (omega arith) ∙ each_has (k + 1) n f i (rw t at e) (omega arith)
      | inr t ↦ absurd (let no : false ≡ true = rw t at e in cc)
    ]

within : {X : Type 0} (xs : List X) (i : ℕ) (x : X) → slice_get xs i ≡ Some x → i < length xs
within [] i x e = absurd cc
within (y ∷ xs) zero x e = omega arith
within (y ∷ xs) (suc i) x e = let lt = within xs i x e in omega arith

-- ---- a step

abbrev Cuts : Type 0
Cuts = ℕ → List (List ℕ)

-- of the fragments that were cut under this id, those that came
abbrev holds : Cuts → ℕ → (ℕ → Bool) → Gathering
holds cuts id f = record { id = id; fragments = came_from 0 f (cuts id) }

abbrev answered : Answer → Gathering → Option (Answer × Gathering)
answered a g = Some (a, g)

low_index : (cuts : Cuts) (p : FragmentValue) → IsFragmentOf cuts p → leb p.count p.index ≡ false
low_index cuts p of =
    let lt = within (cuts p.id) p.index p.payload of.there in
    let count = of.count in
    let less : p.index < p.count = omega (arith, lt, count) in
    grind (arith, nat_tests)

step_lower : (cuts : Cuts) (m : ℕ) (f : ℕ → Bool) (p : FragmentValue) → IsFragmentOf cuts p → p.id < m → gather (holds cuts m f) p ≡ answered Old (holds cuts m f)
step_lower cuts m f p of lt =
    let low : ltb p.id m ≡ true = grind (arith, nat_tests) in
    rw (low_index cuts p of, low) refl

-- the effect of a new fragment
abbrev one_more : Cuts → FragmentValue → (ℕ → Bool) → Option (Answer × Gathering)
one_more cuts p f = answered (cond (each_from 0 (length (cuts p.id)) f) (Whole (joined_fragments (cuts p.id))) Part) (holds cuts p.id f)

answer_in-came : (f : ℕ → Bool) (ts : List (List ℕ)) → answer_in (came_from 0 f ts) ≡ cond (each_from 0 (length ts) f) (Whole (joined_fragments ts)) Part
answer_in-came f ts =
    let same = all_came 0 f ts in
    elim (cases_Bool (each_from 0 (length ts) f)) [
      | inl e ↦ rw (same, e) (ap Whole (text_of-came 0 f ts (same ∙ e)))
      | inr e ↦ rw (same, e) refl
    ]

with_came : (cuts : Cuts) (f : ℕ → Bool) (p : FragmentValue) → IsFragmentOf cuts p → Some (with_fragment (came_from 0 f (cuts p.id)) p) ≡ one_more cuts p (λ j. eqb (0 + p.index) j || f j)
with_came cuts f p of =
    let ts = cuts p.id in
    let g : ℕ → Bool = λ j. eqb (0 + p.index) j || f j in
    let put : set (came_from 0 f ts) p.index (Some p.payload) ≡ came_from 0 g ts = set_came 0 p.index f ts p.payload of.there in
    ap (λ (ps : List (Option (List ℕ))). answered (answer_in ps) (record { id = p.id; fragments = ps })) put
    ∙ ap (λ (a : Answer). answered a (holds cuts p.id g)) (answer_in-came g ts)

step_higher : (cuts : Cuts) (m : ℕ) (f : ℕ → Bool) (p : FragmentValue) → IsFragmentOf cuts p → m < p.id → gather (holds cuts m f) p ≡ one_more cuts p (λ j. eqb (0 + p.index) j || false)
step_higher cuts m f p of lt =
    let low : ltb p.id m ≡ false = grind (arith, nat_tests) in
    let other : eqb p.id m ≡ false = grind (arith, nat_tests) in
    let high : ltb m p.id ≡ true = grind (arith, nat_tests) in
    let empty : replicate p.count None ≡ came_from 0 (λ j. false) (cuts p.id) = ap (λ n. replicate n None) of.count ∙ blank 0 (cuts p.id) in
    rw (low_index cuts p of, low, other, high)
    (ap (λ (ps : List (Option (List ℕ))). Some (with_fragment ps p)) empty ∙ with_came cuts (λ j. false) p of)

step_there : (cuts : Cuts) (f : ℕ → Bool) (p : FragmentValue) → IsFragmentOf cuts p → f p.index ≡ true → gather (holds cuts p.id f) p ≡ answered Old (holds cuts p.id f)
step_there cuts f p of there =
    let ts = cuts p.id in
    let low : ltb p.id p.id ≡ false = grind (arith, nat_tests) in
    let same : eqb p.id p.id ≡ true = grind (arith, nat_tests) in
    let long : eqb (length (came_from 0 f ts)) p.count ≡ true = eq-eqb _ _ (length-came 0 f ts ∙ sym of.count) in
    let here : is_some (get_or (came_from 0 f ts) p.index None) ≡ true =
    at_place 0 p.index f ts (within ts p.index p.payload of.there) ∙ ap f (let z : 0 + p.index ≡ p.index = omega arith in z) ∙ there in
    elim (cases_Bool (all_there (came_from 0 f ts))) [
      | inl e ↦ rw (low_index cuts p of, low, same, e) refl
      | inr e ↦ rw (low_index cuts p of, low, same, e, long, here) refl
    ]

step_new : (cuts : Cuts) (f : ℕ → Bool) (p : FragmentValue) → IsFragmentOf cuts p → f p.index ≡ false → gather (holds cuts p.id f) p ≡ one_more cuts p (λ j. eqb (0 + p.index) j || f j)
step_new cuts f p of gone =
    let ts = cuts p.id in
    let lt = within ts p.index p.payload of.there in
    let low : ltb p.id p.id ≡ false = grind (arith, nat_tests) in
    let same : eqb p.id p.id ≡ true = grind (arith, nat_tests) in
    let long : eqb (length (came_from 0 f ts)) p.count ≡ true = eq-eqb _ _ (length-came 0 f ts ∙ sym of.count) in
    let place : f (0 + p.index) ≡ f p.index = ap f (let z : 0 + p.index ≡ p.index = omega arith in z) in
    let empty : is_some (get_or (came_from 0 f ts) p.index None) ≡ false = at_place 0 p.index f ts lt ∙ place ∙ gone in
    elim (cases_Bool (all_there (came_from 0 f ts))) [
      | inl e ↦ absurd (let no : true ≡ false = sym (each_has 0 (length ts) f p.index (sym (all_came 0 f ts) ∙ e) lt) ∙ place ∙ gone in cc)
      | inr e ↦ rw (low_index cuts p of, low, same, e, long, empty) (with_came cuts f p of)
    ]

-- ---- many steps

same_holds : (cuts : Cuts) (m n : ℕ) (f g : ℕ → Bool) → m ≡ n → ((j : ℕ) → f j ≡ g j) → holds cuts m f ≡ holds cuts n g
same_holds cuts m n f g id same =
    ap (λ k. holds cuts k f) id ∙ ap (λ (ps : List (Option (List ℕ))). record { id = n; fragments = ps }) (same_from 0 f g (cuts n) (λ j le. same j))

same_each : (k n : ℕ) (f g : ℕ → Bool) → ((j : ℕ) → f j ≡ g j) → each_from k n f ≡ each_from k n g
same_each k zero f g same = refl
same_each k (suc n) f g same = λ i. same k i && same_each (k + 1) n f g same i

-- nothing of an id above the highest arrived
none_above : (id : ℕ) (ps : List FragmentValue) (index : ℕ) → highest ps < id → has_arrived id ps index ≡ false
none_above id [] index lt = refl
none_above id (p ∷ ps) index lt =
    let other : eqb p.id id ≡ false = let gone : p.id ≡ id → ⊥ = λ e. omega (arith, e, lt) in ne_eqb p.id id gone in
    rw (other, none_above id ps index (omega arith)) refl

-- the fragments of an id that arrived, with one more
arrived_other : (id : ℕ) (p : FragmentValue) (ps : List FragmentValue) (index : ℕ) → eqb p.id id ≡ false → has_arrived id (p ∷ ps) index ≡ has_arrived id ps index
arrived_other id p ps index e = rw e refl

arrived_more : (p : FragmentValue) (ps : List FragmentValue) (index : ℕ) → has_arrived p.id (p ∷ ps) index ≡ (eqb p.index index || has_arrived p.id ps index)
arrived_more p ps index = let same : eqb p.id p.id ≡ true = grind (arith, nat_tests) in rw same refl

arrived_again : (p : FragmentValue) (ps : List FragmentValue) (index : ℕ) → has_arrived p.id ps p.index ≡ true → has_arrived p.id (p ∷ ps) index ≡ has_arrived p.id ps index
arrived_again p ps index there =
    arrived_more p ps index
    ∙ elim (cases_Bool (eqb p.index index)) [
      | inl e ↦ rw e (sym (ap (has_arrived p.id ps) (sym (eqb-true p.index index e)) ∙ there))
      | inr e ↦ rw e refl
    ]

-- the state and the result after one more fragment
abbrev next : Cuts → List FragmentValue → FragmentValue → Option (Answer × Gathering)
next cuts ps p = answered (answer_to cuts ps p) (holds cuts (highest (p ∷ ps)) (has_arrived (highest (p ∷ ps)) (p ∷ ps)))

next_lower : (cuts : Cuts) (ps : List FragmentValue) (p : FragmentValue) → IsFragmentOf cuts p → p.id < highest ps → gather (holds cuts (highest ps) (has_arrived (highest ps) ps)) p ≡ next cuts ps p
next_lower cuts ps p of lt =
    let m = highest ps in
    let top : m ≡ max p.id m = omega arith in
    let gone : p.id ≡ max p.id m → ⊥ = λ e. omega (arith, e) in
    let low : ltb p.id m ≡ true = grind (arith, nat_tests) in
    let same : (j : ℕ) → has_arrived m ps j ≡ has_arrived (max p.id m) (p ∷ ps) j = λ j.
    ap (λ k. has_arrived k ps j) top ∙ sym (arrived_other (max p.id m) p ps j (ne_eqb p.id (max p.id m) gone)) in
    step_lower cuts m (has_arrived m ps) p of lt
    ∙ ap (answered Old) (same_holds cuts m (max p.id m) (has_arrived m ps) (has_arrived (max p.id m) (p ∷ ps)) top same)
    ∙ rw low refl

-- a fragment after which its id is the highest, by whether it arrived before
next_old : (cuts : Cuts) (ps : List FragmentValue) (p : FragmentValue) → IsFragmentOf cuts p → highest ps ≡ p.id → has_arrived p.id ps p.index ≡ true → gather (holds cuts p.id (has_arrived p.id ps)) p ≡ next cuts ps p
next_old cuts ps p of here there =
    let top : p.id ≡ max p.id (highest ps) = omega (arith, here) in
    let low : ltb p.id (highest ps) ≡ false = grind (arith, nat_tests, here) in
    let same : (j : ℕ) → has_arrived p.id ps j ≡ has_arrived (max p.id (highest ps)) (p ∷ ps) j = λ j.
    sym (arrived_again p ps j there) ∙ ap (λ k. has_arrived k (p ∷ ps) j) top in
    step_there cuts (has_arrived p.id ps) p of there
    ∙ ap (answered Old) (same_holds cuts p.id (max p.id (highest ps)) (has_arrived p.id ps) (has_arrived (max p.id (highest ps)) (p ∷ ps)) top same)
    ∙ rw (low, there) refl

-- the effect of a new fragment is the following state
made : (cuts : Cuts) (ps : List FragmentValue) (p : FragmentValue) (g : ℕ → Bool) → highest ps ≤ p.id → has_arrived p.id ps p.index ≡ false → ((j : ℕ) → g j ≡ has_arrived p.id (p ∷ ps) j) → one_more cuts p g ≡ next cuts ps p
made cuts ps p g le gone same =
    let top : p.id ≡ max p.id (highest ps) = omega arith in
    let low : ltb p.id (highest ps) ≡ false = grind (arith, nat_tests) in
    let all = same_each 0 (length (cuts p.id)) g (has_arrived p.id (p ∷ ps)) same in
    let held = same_holds cuts p.id (max p.id (highest ps)) g (has_arrived (max p.id (highest ps)) (p ∷ ps)) top (λ j. same j ∙ ap (λ k. has_arrived k (p ∷ ps) j) top) in
    (λ i. answered (cond (all i) (Whole (joined_fragments (cuts p.id))) Part) (held i)) ∙ rw (low, gone) refl

next_new : (cuts : Cuts) (ps : List FragmentValue) (p : FragmentValue) → IsFragmentOf cuts p → highest ps ≡ p.id → has_arrived p.id ps p.index ≡ false → gather (holds cuts p.id (has_arrived p.id ps)) p ≡ next cuts ps p
next_new cuts ps p of here gone =
    step_new cuts (has_arrived p.id ps) p of gone
    ∙ made cuts ps p (λ j. eqb (0 + p.index) j || has_arrived p.id ps j) (omega (arith, here)) gone
    (λ j. ap (λ k. eqb k j || has_arrived p.id ps j) (omega arith) ∙ sym (arrived_more p ps j))

next_higher : (cuts : Cuts) (ps : List FragmentValue) (p : FragmentValue) → IsFragmentOf cuts p → highest ps < p.id → gather (holds cuts (highest ps) (has_arrived (highest ps) ps)) p ≡ next cuts ps p
next_higher cuts ps p of lt =
    let none = λ (j : ℕ). none_above p.id ps j lt in
    step_higher cuts (highest ps) (has_arrived (highest ps) ps) p of lt
    ∙ made cuts ps p (λ j. eqb (0 + p.index) j || false) (omega arith) (none p.index)
    (λ j. ap (λ k. eqb k j || false) (omega arith) ∙ ap (λ b. eqb p.index j || b) (sym (none j)) ∙ sym (arrived_more p ps j))

next_same : (cuts : Cuts) (ps : List FragmentValue) (p : FragmentValue) → IsFragmentOf cuts p → highest ps ≡ p.id → gather (holds cuts (highest ps) (has_arrived (highest ps) ps)) p ≡ next cuts ps p
next_same cuts ps p of here =
    ap (λ k. gather (holds cuts k (has_arrived k ps)) p) here
    ∙ elim (cases_Bool (has_arrived p.id ps p.index)) [ inl e ↦ next_old cuts ps p of here e | inr e ↦ next_new cuts ps p of here e ]

next_is : (cuts : Cuts) (ps : List FragmentValue) (p : FragmentValue) → IsFragmentOf cuts p → gather (holds cuts (highest ps) (has_arrived (highest ps) ps)) p ≡ next cuts ps p
next_is cuts ps p of =
    elim (cases p.id (highest ps)) [
      | inl lower ↦ next_lower cuts ps p of lower
      | inr rest ↦ elim rest [ inl same ↦ next_same cuts ps p of same | inr higher ↦ next_higher cuts ps p of higher ]
    ]
  where
    cases : (a b : ℕ) → (a < b) ⊎ ((b ≡ a) ⊎ (b < a))
    cases a b = grind arith

-- the state of a new gatherer after fragments that were cut
pub held : (cuts : Cuts) → cuts 0 ≡ [] → (ps : List FragmentValue) → AreFragmentsOf cuts ps → gathered_of ps ≡ holds cuts (highest ps) (has_arrived (highest ps) ps)
held cuts none [] all = ap (λ (ts : List (List ℕ)). record { id = 0; fragments = came_from 0 (has_arrived 0 []) ts }) (sym none)
held cuts none (p ∷ ps) all =
    ap (λ (g : Gathering). after g (gather g p)) (held cuts none ps all.1)
    ∙ ap (after (holds cuts (highest ps) (has_arrived (highest ps) ps))) (next_is cuts ps p all.0)

pub answers : (cuts : Cuts) → cuts 0 ≡ [] → (p : FragmentValue) (ps : List FragmentValue) → AreFragmentsOf cuts (p ∷ ps) → gather (gathered_of ps) p ≡ Some (answer_to cuts ps p, gathered_of (p ∷ ps))
answers cuts none p ps all =
    ap (λ (g : Gathering). gather g p) (held cuts none ps all.1)
    ∙ next_is cuts ps p all.0
    ∙ ap (answered (answer_to cuts ps p)) (sym (held cuts none (p ∷ ps) all))

-- ---- the fragments by place

came_there : (k : ℕ) (f : ℕ → Bool) (ts : List (List ℕ)) (i : ℕ) (x : List ℕ) → slice_get (came_from k f ts) i ≡ Some (Some x) → slice_get ts i ≡ Some x
came_there k f [] i x e = absurd cc
came_there k f (t ∷ ts) zero x e = by (f k) e
  where
    by : (b : Bool) → Some (cond b (Some t) None) ≡ Some (Some x) → Some t ≡ Some x
    by true e = cc
    by false e = absurd cc
came_there k f (t ∷ ts) (suc i) x e = came_there (k + 1) f ts i x e

there_came : (k : ℕ) (ps : List (Option (List ℕ))) (ts : List (List ℕ)) → length ps ≡ length ts → ((i : ℕ) (x : List ℕ) → slice_get ps i ≡ Some (Some x) → slice_get ts i ≡ Some x)
    → (f : ℕ → Bool) → ((i : ℕ) → f (k + i) ≡ is_some (get_or ps i None)) → ps ≡ came_from k f ts
there_came k [] [] long there f at = refl
there_came k [] (t ∷ ts) long there f at = absurd (omega (arith, long))
there_came k (p ∷ ps) [] long there f at = absurd (omega (arith, long))
there_came k (p ∷ ps) (t ∷ ts) long there f at =
    let rest : ps ≡ came_from (k + 1) f ts = there_came (k + 1) ps ts (omega (arith, long)) (λ i x e. there (suc i) x e) f (λ i. ap f (omega arith) ∙ at (suc i)) in
    let first : f k ≡ is_some p = ap f (omega arith) ∙ at 0 in
    let here : p ≡ cond (f k) (Some t) None = by p first (λ x e. there 0 x e) in
    λ i. here i ∷ rest i
  where
    by : (o : Option (List ℕ)) → f k ≡ is_some o → ((x : List ℕ) → Some o ≡ Some (Some x) → Some t ≡ Some x) → o ≡ cond (f k) (Some t) None
    by None e h = rw e refl
    by (Some x) e h = let same : Some t ≡ Some x = h x refl in rw e (sym same)

of_holds : (cuts : Cuts) (id : ℕ) (f : ℕ → Bool) → GathersOf cuts (holds cuts id f)
of_holds cuts id f = record { count = length-came 0 f (cuts id); there = λ i x e. came_there 0 f (cuts id) i x e }

pub holds_of : (cuts : Cuts) (g : Gathering) → GathersOf cuts g → g ≡ holds cuts g.id (λ j. is_some (get_or g.fragments j None))
holds_of cuts g of =
    let f : ℕ → Bool = λ j. is_some (get_or g.fragments j None) in
    let same : g.fragments ≡ came_from 0 f (cuts g.id) = there_came 0 g.fragments (cuts g.id) of.count of.there f (λ i. ap f (omega arith)) in
    ap (λ (ps : List (Option (List ℕ))). record { id = g.id; fragments = ps }) same

pub of_nothing : (cuts : Cuts) → cuts 0 ≡ [] → GathersOf cuts nothing
of_nothing cuts none = record { count = sym (ap length none); there = λ i x e. absurd cc }

well_more : (cuts : Cuts) (g : Gathering) (p : FragmentValue) (f : ℕ → Bool) → g.id ≤ p.id → GathersWell cuts g p (one_more cuts p f)
well_more cuts g p f le = (of_holds cuts p.id f, omega arith, by (each_from 0 (length (cuts p.id)) f))
  where
    by : (b : Bool) → IsCutText (cuts p.id) (cond b (Whole (joined_fragments (cuts p.id))) Part)
    by true = refl
    by false = tt

well_held : (cuts : Cuts) (id : ℕ) (f : ℕ → Bool) (p : FragmentValue) → IsFragmentOf cuts p → GathersWell cuts (holds cuts id f) p (gather (holds cuts id f) p)
well_held cuts id f p of =
    elim (cases p.id id) [
      | inl lower ↦ subst (GathersWell cuts (holds cuts id f) p) (sym (step_lower cuts id f p of lower)) (of_holds cuts id f, omega arith, tt)
      | inr rest ↦ elim rest [
        | inl same ↦ subst (λ (k : ℕ). GathersWell cuts (holds cuts k f) p (gather (holds cuts k f) p)) (sym same) (at_id (f p.index) refl)
        | inr higher ↦ subst (GathersWell cuts (holds cuts id f) p) (sym (step_higher cuts id f p of higher)) (well_more cuts (holds cuts id f) p _ (omega arith))
      ]
    ]
  where
    cases : (a b : ℕ) → (a < b) ⊎ ((b ≡ a) ⊎ (b < a))
    cases a b = grind arith

    at_id : (b : Bool) → f p.index ≡ b → GathersWell cuts (holds cuts p.id f) p (gather (holds cuts p.id f) p)
    at_id true e = subst (GathersWell cuts (holds cuts p.id f) p) (sym (step_there cuts f p of e)) (of_holds cuts p.id f, omega arith, tt)
    at_id false e = subst (GathersWell cuts (holds cuts p.id f) p) (sym (step_new cuts f p of e)) (well_more cuts (holds cuts p.id f) p _ (omega arith))

pub well : (cuts : Cuts) (g : Gathering) (p : FragmentValue) → GathersOf cuts g → IsFragmentOf cuts p → GathersWell cuts g p (gather g p)
well cuts g p is of =
    subst (λ (h : Gathering). GathersWell cuts h p (gather h p)) (sym (holds_of cuts g is)) (well_held cuts g.id (λ j. is_some (get_or g.fragments j None)) p of)
