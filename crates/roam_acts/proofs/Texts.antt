-- The acts read from a text, and those that a loop over it has read so far.
use Rattle.std.proofs.Common.{◌≡◌, ℕ, zero, suc, ◌+◌, ◌-◌, ◌<◌, ◌≤◌, true, List, [], ◌∷◌, ◌++◌, length, Option, Some, None, refl, sym, ap, subst, ◌∙◌, arith, append_assoc, append-nil}
use Rattle.std.specs.List.{All, AllByRecursion}
use Rattle.std.specs.Prelude.{Result, Ok, Err, IfOk, IsSome, MatchResult, Vec, is_some}
use Rattle.std.proofs.Common.{◌⊎◌, inl, inr, Global}
use Rattle.std.proofs.lemmas.List.Elements.{All-from_recursion, All-weaker, recursion_from_All}
use Rattle.roam_cells.specs.declared.faults.Fault.{Fault}
use Rattle.roam_cells.specs.declared.faults.Fault.TheVariants.{OutOfMemory, BadDatagram}
use Rattle.roam_cells.specs.declared.faults.Reason.TheVariants.{Length}
use Rattle.std.specs.Option.{option_map}
use Rattle.roam_acts.specs.declared.acts.Act.{Act}
use Rattle.roam_acts.specs.Acts.{IsAct, IsInRange}
use Rattle.roam_acts.specs.Bytes.{act_text, acts_text, BeginsWithAct}
use Rattle.roam_acts.specs.Reading.{acts_in, and_then, first_act, nothing_left}
use Rattle.roam_acts.proofs.Fields.{IsBytes, first_again, first_found, pair_same}

-- ---- the grammar

pub text_again : (acts : List Act) → AllByRecursion IsAct acts → acts_in (length acts) (acts_text acts) ≡ Some acts
unfolding acts_in
text_again [] all = refl
text_again (a ∷ acts) all =
    ap (and_then (acts_in (length acts))) (first_again a (acts_text acts) all.0)
    ∙ ap (option_map (λ (more : List Act). a ∷ more)) (text_again acts all.1)

pub record IsText (count : ℕ) (bytes : List ℕ) (acts : List Act) : Type 0 where
  pub len : length acts ≡ count
  pub all : AllByRecursion IsAct acts
  pub text : bytes ≡ acts_text acts

-- the acts read are a text
abbrev Finds : ℕ → Type 0
Finds count = (bytes : List ℕ) (acts : List Act) → IsBytes bytes → acts_in count bytes ≡ Some acts → IsText count bytes acts

IsBytes-rest : (xs ys bytes : List ℕ) → bytes ≡ xs ++ ys → IsBytes bytes → IsBytes ys
IsBytes-rest [] ys bytes e fits = subst IsBytes e fits
IsBytes-rest (x ∷ xs) ys bytes e fits = IsBytes-rest xs ys (xs ++ ys) refl (λ i. subst IsBytes e fits (suc i))

more_found : (count : ℕ) (bytes : List ℕ) (acts : List Act) → IsBytes bytes → Finds count → (a : Act) (rest : List ℕ) (r : Option (List Act)) → acts_in count rest ≡ r → first_act bytes ≡ Some (a, rest) → option_map (λ (x : List Act). a ∷ x) r ≡ Some acts → IsText (suc count) bytes acts
more_found count bytes acts fits finds a rest None is first e = absurd cc
more_found count bytes acts fits finds a rest (Some others) is first e =
    let here = first_found bytes rest a fits first in
    let there = finds rest others (IsBytes-rest (act_text a) rest bytes here.1 fits) is in
    let same : a ∷ others ≡ acts = cc in
    subst (IsText (suc count) bytes) same (record {
      len = omega (arith, there.len);
      all = (here.0, there.all);
      text = here.1 ∙ ap (λ (t : List ℕ). act_text a ++ t) there.text;
    })

by_first : (count : ℕ) (bytes : List ℕ) (acts : List Act) → IsBytes bytes → Finds count → (r : Option (Act × List ℕ)) → first_act bytes ≡ r → and_then (acts_in count) r ≡ Some acts → IsText (suc count) bytes acts
by_first count bytes acts fits finds None is e = absurd cc
by_first count bytes acts fits finds (Some p) is e = more_found count bytes acts fits finds p.0 p.1 (acts_in count p.1) refl is e

pub text_found : (count : ℕ) (bytes : List ℕ) (acts : List Act) → IsBytes bytes → acts_in count bytes ≡ Some acts → IsText count bytes acts
unfolding acts_in
text_found zero [] acts fits e = let same : [] ≡ acts = cc in subst (IsText 0 []) same (record { len = refl; all = tt; text = refl })
text_found zero (b ∷ bytes) acts fits e = absurd cc
text_found (suc count) bytes acts fits e = by_first count bytes acts fits (text_found count) (first_act bytes) refl e

-- two lists of acts with one text are one
pub one_list : (xs ys : List Act) → AllByRecursion IsAct xs → AllByRecursion IsAct ys → acts_text xs ≡ acts_text ys → xs ≡ ys
one_list [] [] p q e = refl
one_list [] (y ∷ ys) p q e = absurd cc
one_list (x ∷ xs) [] p q e = absurd cc
one_list (x ∷ xs) (y ∷ ys) p q e =
    let both = pair_same x y (acts_text xs) (acts_text ys) (sym (first_again x (acts_text xs) p.0) ∙ ap first_act e ∙ first_again y (acts_text ys) q.0) in
    λ i. both.0 i ∷ one_list xs ys p.1 q.1 both.1 i

-- ---- a loop over a text

-- after some acts were read, the rest decides
abbrev pub SoFar : ℕ → List ℕ → ℕ → List Act → List ℕ → Type 0
SoFar count bytes counter acts rest = acts_in count bytes ≡ option_map (λ more. acts ++ more) (acts_in (count - counter) rest)

one_more : (n : ℕ) (rest : List ℕ) → acts_in (suc n) rest ≡ and_then (acts_in n) (first_act rest)
unfolding acts_in
one_more n rest = refl

added : (acts : List Act) (a : Act) (r : Option (List Act)) → option_map (λ more. acts ++ more) (option_map (λ more. a ∷ more) r) ≡ option_map (λ more. (acts ++ a ∷ []) ++ more) r
added acts a None = refl
added acts a (Some more) = ap (λ (x : List Act). Some x) (sym (append_assoc acts (a ∷ []) more))

pub sofar_next : (count counter : ℕ) (bytes rest more : List ℕ) (acts : List Act) (a : Act) → counter < count → first_act rest ≡ Some (a, more) → SoFar count bytes counter acts rest → SoFar count bytes (counter + 1) (acts ++ a ∷ []) more
sofar_next count counter bytes rest more acts a lt first so =
    let n = count - (counter + 1) in
    let left : count - counter ≡ suc n = omega arith in
    so
    ∙ ap (λ (k : ℕ). option_map (λ m. acts ++ m) (acts_in k rest)) left
    ∙ ap (option_map (λ m. acts ++ m)) (one_more n rest ∙ ap (and_then (acts_in n)) first)
    ∙ added acts a (acts_in n more)

pub sofar_none : (count counter : ℕ) (bytes rest : List ℕ) (acts : List Act) → counter < count → first_act rest ≡ None → SoFar count bytes counter acts rest → acts_in count bytes ≡ None
sofar_none count counter bytes rest acts lt first so =
    let n = count - (counter + 1) in
    let left : count - counter ≡ suc n = omega arith in
    so
    ∙ ap (λ (k : ℕ). option_map (λ m. acts ++ m) (acts_in k rest)) left
    ∙ ap (option_map (λ m. acts ++ m)) (one_more n rest ∙ ap (and_then (acts_in n)) first)

no_more : (rest : List ℕ) → acts_in 0 rest ≡ nothing_left rest
unfolding acts_in
no_more rest = refl

pub sofar_end : (count counter : ℕ) (bytes rest : List ℕ) (acts : List Act) → count ≤ counter → SoFar count bytes counter acts rest → acts_in count bytes ≡ option_map (λ more. acts ++ more) (nothing_left rest)
sofar_end count counter bytes rest acts le so =
    let none : count - counter ≡ 0 = omega arith in
    so ∙ ap (λ (k : ℕ). option_map (λ m. acts ++ m) (acts_in k rest)) none ∙ ap (option_map (λ m. acts ++ m)) (no_more rest)

pub sofar_whole : (count counter : ℕ) (bytes rest : List ℕ) (acts : List Act) → count ≤ counter → length rest ≡ 0 → SoFar count bytes counter acts rest → acts_in count bytes ≡ Some acts
sofar_whole count counter bytes [] acts le e so = sofar_end count counter bytes [] acts le so ∙ ap (λ (x : List Act). Some x) (append-nil acts)
sofar_whole count counter bytes (b ∷ rest) acts le e so = absurd (omega (arith, e))

pub sofar_left : (count counter : ℕ) (bytes rest : List ℕ) (acts : List Act) → count ≤ counter → (length rest ≡ 0 → ⊥) → SoFar count bytes counter acts rest → acts_in count bytes ≡ None
sofar_left count counter bytes [] acts le e so = absurd (e refl)
sofar_left count counter bytes (b ∷ rest) acts le e so = sofar_end count counter bytes (b ∷ rest) acts le so

-- nothing was read yet, or there is an act at the front
abbrev pub HasFirst : List ℕ → ℕ → List ℕ → Type 0
HasFirst bytes counter rest = ((counter ≡ 0) × (rest ≡ bytes)) ⊎ IsSome (first_act bytes)

pub has_first : (bytes rest more : List ℕ) (counter : ℕ) (a : Act) → first_act rest ≡ Some (a, more) → HasFirst bytes counter rest
    → IsSome (first_act bytes)
has_first bytes rest more counter a at (inl none) = ap (λ (xs : List ℕ). is_some (first_act xs)) (sym none.1) ∙ ap is_some at
has_first bytes rest more counter a at (inr found) = found

pub begins_with : (bytes : List ℕ) → IsBytes bytes → IsSome (first_act bytes) → BeginsWithAct bytes
begins_with bytes fits some = go (first_act bytes) refl some
  where
    go : (o : Option (Act × List ℕ)) → first_act bytes ≡ o → is_some o ≡ true → BeginsWithAct bytes
    go None at e = absurd (cc)
    go (Some p) at e =
        let f = first_found bytes p.1 p.0 fits at in
        record { act = p.0; rest = p.1; is = f.0; begins = f.1 }

-- ---- what reading answers

abbrev pub Answers : ℕ → List ℕ → Result (Vec Act Global) Fault → Type 0
Answers count bytes r = MatchResult r (λ v. acts_in count bytes ≡ Some v.items) (λ e. (e ≡ OutOfMemory) ⊎ ((e ≡ BadDatagram Length) × (acts_in count bytes ≡ None)))

read_it : (count : ℕ) (bytes : List ℕ) (acts : List Act) → length acts ≡ count → All IsAct acts → bytes ≡ acts_text acts → acts_in count bytes ≡ Some acts
read_it count bytes acts len all text =
    (λ i. acts_in (sym len i) (text i)) ∙ text_again acts (recursion_from_All IsAct acts all)

pub is_found : (count : ℕ) (bytes : List ℕ) (r : Result (Vec Act Global) Fault) → IsBytes bytes → Answers count bytes r → IfOk r (λ v. (length v.items ≡ count) × All IsAct v.items × (bytes ≡ acts_text v.items))
is_found count bytes (Ok v) fits e =
    let t = text_found count bytes v.items fits e in
    (t.len, All-from_recursion IsAct v.items t.all, t.text)
is_found count bytes (Err e) fits h = tt

pub are_ranged : (count : ℕ) (bytes : List ℕ) (r : Result (Vec Act Global) Fault) → IsBytes bytes → Answers count bytes r → IfOk r (λ v. All IsInRange v.items)
are_ranged count bytes (Ok v) fits e =
    All-weaker IsAct IsInRange (λ a h. h.0) v.items (All-from_recursion IsAct v.items (text_found count bytes v.items fits e).all)
are_ranged count bytes (Err e) fits h = tt

pub only_text : (count : ℕ) (bytes : List ℕ) (r : Result (Vec Act Global) Fault) → Answers count bytes r → (acts : List Act) → length acts ≡ count → All IsAct acts → bytes ≡ acts_text acts → MatchResult r (λ v. v.items ≡ acts) (λ e. e ≡ OutOfMemory)
only_text count bytes (Ok v) e acts len all text = let both = sym e ∙ read_it count bytes acts len all text in cc
only_text count bytes (Err f) h acts len all text =
    elim h [ inl memory ↦ memory | inr none ↦ absurd (let both = sym none.1 ∙ read_it count bytes acts len all text in cc) ]
