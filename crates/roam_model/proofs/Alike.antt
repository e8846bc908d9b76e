-- How many instances are known that only watch, and how many others.
use Rattle.std.proofs.Common.{◌≡◌, ℕ, ◌+◌, ◌<◌, ◌≤◌, List, [], ◌∷◌, ◌++◌, length, Bool, true, false, refl, sym, ap, ◌∙◌, subst, inl, inr, arith, cond}
use Rattle.roam_model.specs.Lists.{IsIn, with_value}
use Rattle.roam_model.specs.Servers.{Record}
use Rattle.roam_model.specs.ServerArrivals.{is_same, most_of, alike_in}
use Rattle.roam_model.proofs.Members.{on_put, put_same}

pub is_same-same : (a b : Bool) → is_same a b ≡ true → a ≡ b
is_same-same true true e = refl
is_same-same false false e = refl
is_same-same true false e = absurd (cc)
is_same-same false true e = absurd (cc)

-- records that watch alike are counted alike
pub alike_same : (f g : ℕ → Record) (watches : Bool) (ids : List ℕ) → ((j : ℕ) → IsIn j ids → (f j).watches ≡ (g j).watches)
    → length (alike_in f watches ids) ≡ length (alike_in g watches ids)
alike_same f g watches [] same = refl
alike_same f g watches (id ∷ ids) same =
    let rest = alike_same f g watches ids (λ j i. same j (inr i)) in
    go (is_same (f id).watches watches) (is_same (g id).watches watches) (ap (λ (b : Bool). is_same b watches) (same id (inl refl))) rest
  where
    go : (a b : Bool) → a ≡ b → length (alike_in f watches ids) ≡ length (alike_in g watches ids)
        → length (cond a (id ∷ alike_in f watches ids) (alike_in f watches ids)) ≡ length (cond b (id ∷ alike_in g watches ids)
        (alike_in g watches ids))
    go true true e rest = omega (arith, rest)
    go false false e rest = rest
    go true false e rest = absurd (cc)
    go false true e rest = absurd (cc)

-- one more at the end
alike_more : (f : ℕ → Record) (watches : Bool) (ids : List ℕ) (id : ℕ)
    → length (alike_in f watches (ids ++ id ∷ [])) ≡ length (alike_in f watches ids) + cond (is_same (f id).watches watches) 1 0
alike_more f watches [] id = go (is_same (f id).watches watches)
  where
    go : (a : Bool) → length (cond a (id ∷ []) []) ≡ 0 + cond a 1 0
    go true = omega arith
    go false = omega arith
alike_more f watches (x ∷ ids) id =
    go (is_same (f x).watches watches) (cond (is_same (f id).watches watches) 1 0) (alike_more f watches ids id)
  where
    go : (a : Bool) (n : ℕ) → length (alike_in f watches (ids ++ id ∷ [])) ≡ length (alike_in f watches ids) + n
        → length (cond a (x ∷ alike_in f watches (ids ++ id ∷ [])) (alike_in f watches (ids ++ id ∷ []))) ≡ length
        (cond a (x ∷ alike_in f watches ids) (alike_in f watches ids)) + n
    go true n e = omega (arith, e)
    go false n e = e

-- the record of an instance that isn't in the list changes
alike_put : (f : ℕ → Record) (r : Record) (watches : Bool) (ids : List ℕ) (id : ℕ) → (IsIn id ids → (f id).watches ≡ r.watches)
    → length (alike_in (with_value f id r) watches ids) ≡ length (alike_in f watches ids)
alike_put f r watches ids id same =
    alike_same (with_value f id r) f watches ids (on_put (λ j x. IsIn j ids → x.watches ≡ (f j).watches) f id r (λ i. sym (same i)) (λ j e i. refl))

-- an instance that is known is heard
pub alike_known : (f : ℕ → Record) (r : Record) (ids : List ℕ) (id : ℕ) → (f id).watches ≡ r.watches
    → ((watches : Bool) → length (alike_in f watches ids) ≤ most_of watches)
    → (watches : Bool) → length (alike_in (with_value f id r) watches ids) ≤ most_of watches
alike_known f r ids id same few watches =
    subst (λ (n : ℕ). n ≤ most_of watches) (sym (alike_put f r watches ids id (λ i. same))) (few watches)

-- one that isn't known is, and there was room
pub alike_new : (f : ℕ → Record) (r : Record) (ids : List ℕ) (id : ℕ) → (IsIn id ids → ⊥)
    → length (alike_in f r.watches ids) < most_of r.watches
    → ((watches : Bool) → length (alike_in f watches ids) ≤ most_of watches)
    → (watches : Bool) → length (alike_in (with_value f id r) watches (ids ++ id ∷ [])) ≤ most_of watches
alike_new f r ids id none room few watches =
    let more = alike_more (with_value f id r) watches ids id in
    let old = alike_put f r watches ids id (λ i. absurd (none i)) in
    let here = ap (λ (x : Record). is_same x.watches watches) (put_same f id r) in
    subst (λ (n : ℕ). n ≤ most_of watches) (sym (more ∙ ap (λ (n : ℕ). n + cond (is_same (with_value f id r id).watches watches) 1 0) old
    ∙ ap (λ (b : Bool). length (alike_in f watches ids) + cond b 1 0) here))
    (go (is_same r.watches watches) refl)
  where
    go : (b : Bool) → is_same r.watches watches ≡ b → length (alike_in f watches ids) + cond b 1 0 ≤ most_of watches
    go true e = subst (λ (w : Bool). length (alike_in f w ids) + 1 ≤ most_of w) (is_same-same r.watches watches e) (omega (arith, room))
    go false e = let le = few watches in omega (arith, le)

-- x
