-- Parameters group by group.
use Rattle.std.proofs.Common.{◌≡◌, ◌≤◌, ◌<◌, ◌+◌, ◌-◌, ℕ, zero, suc, Bool, true, false, cond, nat_lt, List, [], ◌++◌, length, take, take_all, drop, length-drop, refl, sym, ap, ◌∙◌, arith, append_assoc}
use Rattle.std.specs.Prelude.{◌||◌, ◌&&◌}
use Rattle.std.proofs.lemmas.List.{append-nil, drop-drop}
use Rattle.std.proofs.lemmas.Bool.Decides.{nat_tests}
use Rattle.roam_normalize.specs.Renditions.{first_kind, group_length, group_text, has_lines, has_lines_from, is_of_lines, spelled_from, spelled_out}

lt-true : (a b : ℕ) → nat_lt a b ≡ true → a < b
lt-true a b h = grind (arith, nat_tests)

lt-yes : (a b : ℕ) → a < b → nat_lt a b ≡ true
lt-yes a b h = grind (arith, nat_tests)

lt-no : (a b : ℕ) → b ≤ a → nat_lt a b ≡ false
lt-no a b h = grind (arith, nat_tests)

-- the rest behind a group
abbrev left : List ℕ → List ℕ
left bytes = drop (group_length bytes + 1) bytes

abbrev goes : List ℕ → Bool
goes bytes = nat_lt (group_length bytes) (length bytes)

less : (bytes : List ℕ) → goes bytes ≡ true → length (left bytes) < length bytes
less bytes h = let some = lt-true (group_length bytes) (length bytes) h in omega (arith, some, length-drop (group_length bytes + 1) bytes)

and-same : (t a b : Bool) → (t ≡ true → a ≡ b) → (t && a) ≡ (t && b)
and-same true a b h = h refl
and-same false a b h = refl

lines-same : (m n : ℕ) (bytes : List ℕ) → length bytes < m → length bytes < n → has_lines_from m bytes ≡ has_lines_from n bytes
unfolding has_lines_from
lines-same zero n bytes p q = absurd (omega (arith, p))
lines-same (suc m) zero bytes p q = absurd (omega (arith, q))
lines-same (suc m) (suc n) bytes p q =
    ap (λ t. is_of_lines (first_kind bytes) || t)
    (and-same (goes bytes) (has_lines_from m (left bytes)) (has_lines_from n (left bytes))
    (λ h. let l = less bytes h in lines-same m n (left bytes) (omega (arith, p, l)) (omega (arith, q, l))))

pub lines-step : (bytes : List ℕ) → has_lines bytes ≡ (is_of_lines (first_kind bytes) || (goes bytes && has_lines (left bytes)))
unfolding has_lines has_lines_from
lines-step bytes =
    ap (λ t. is_of_lines (first_kind bytes) || t)
    (and-same (goes bytes) (has_lines_from (length bytes) (left bytes)) (has_lines_from (suc (length (left bytes))) (left bytes))
    (λ h. let l = less bytes h in lines-same (length bytes) (suc (length (left bytes))) (left bytes) l (omega arith)))

cond-same : (t : Bool) (a b : List ℕ) → (t ≡ true → a ≡ b) → cond t a [] ≡ cond t b []
cond-same true a b h = h refl
cond-same false a b h = refl

abbrev first_text : List ℕ → List ℕ
first_text bytes = group_text (first_kind bytes) (take (group_length bytes) bytes)

spelled-same : (m n : ℕ) (bytes : List ℕ) → length bytes < m → length bytes < n → spelled_from m bytes ≡ spelled_from n bytes
unfolding spelled_from
spelled-same zero n bytes p q = absurd (omega (arith, p))
spelled-same (suc m) zero bytes p q = absurd (omega (arith, q))
spelled-same (suc m) (suc n) bytes p q =
    ap (λ t. first_text bytes ++ t)
    (cond-same (goes bytes) (spelled_from m (left bytes)) (spelled_from n (left bytes))
    (λ h. let l = less bytes h in spelled-same m n (left bytes) (omega (arith, p, l)) (omega (arith, q, l))))

pub spelled-step : (bytes : List ℕ) → spelled_out bytes ≡ first_text bytes ++ cond (goes bytes) (spelled_out (left bytes)) []
unfolding spelled_out spelled_from
spelled-step bytes =
    ap (λ t. first_text bytes ++ t)
    (cond-same (goes bytes) (spelled_from (length bytes) (left bytes)) (spelled_from (suc (length (left bytes))) (left bytes))
    (λ h. let l = less bytes h in spelled-same (length bytes) (suc (length (left bytes))) (left bytes) l (omega arith)))

-- ---- from a place on

-- a slice from a place on is all of the rest
pub rest-lent : (xs : List ℕ) (at : ℕ) → take (length xs - at) (drop at xs) ≡ drop at xs
rest-lent xs at = take_all (length xs - at) (drop at xs) (omega (arith, length-drop at xs))

abbrev lent : List ℕ → ℕ → List ℕ
lent xs at = take (length xs - at) (drop at xs)

-- the first parameter is of lines
pub lines-found : (bytes : List ℕ) (at : ℕ) → has_lines (drop at bytes) ≡ has_lines bytes → is_of_lines (first_kind (lent bytes at)) ≡ true → true ≡ has_lines bytes
lines-found bytes at same is =
    let found : is_of_lines (first_kind (drop at bytes)) ≡ true = ap (λ l. is_of_lines (first_kind l)) (sym (rest-lent bytes at)) ∙ is in
    sym (sym same ∙ lines-step (drop at bytes) ∙ ap (λ t. t || (goes (drop at bytes) && has_lines (left (drop at bytes)))) found)

-- it isn't, and it is the last
pub lines-none : (bytes : List ℕ) (at n : ℕ) → n ≡ group_length (lent bytes at) → has_lines (drop at bytes) ≡ has_lines bytes → is_of_lines (first_kind (lent bytes at)) ≡ false
    → length (lent bytes at) ≤ n → false ≡ has_lines bytes
lines-none bytes at n size same is last =
    let found : is_of_lines (first_kind (drop at bytes)) ≡ false = ap (λ l. is_of_lines (first_kind l)) (sym (rest-lent bytes at)) ∙ is in
    let ends : goes (drop at bytes) ≡ false = ap goes (sym (rest-lent bytes at)) ∙ lt-no (group_length (lent bytes at)) (length (lent bytes at)) (omega (arith, size, last)) in
    sym (sym same ∙ lines-step (drop at bytes)
    ∙ ap (λ t. t || (goes (drop at bytes) && has_lines (left (drop at bytes)))) found
    ∙ ap (λ t. t && has_lines (left (drop at bytes))) ends)

-- it isn't, and others follow
pub lines-on : (bytes : List ℕ) (at n : ℕ) → n ≡ group_length (lent bytes at) → has_lines (drop at bytes) ≡ has_lines bytes → is_of_lines (first_kind (lent bytes at)) ≡ false
    → n < length (lent bytes at) → has_lines (drop (at + (n + 1)) bytes) ≡ has_lines bytes
lines-on bytes at n size same is more =
    let found : is_of_lines (first_kind (drop at bytes)) ≡ false = ap (λ l. is_of_lines (first_kind l)) (sym (rest-lent bytes at)) ∙ is in
    let goes_on : goes (drop at bytes) ≡ true = ap goes (sym (rest-lent bytes at)) ∙ lt-yes (group_length (lent bytes at)) (length (lent bytes at)) (omega (arith, size, more)) in
    let place : at + (group_length (drop at bytes) + 1) ≡ at + (n + 1) =
    let e = ap group_length (rest-lent bytes at) in omega (arith, size, e) in
    ap has_lines (sym (drop-drop (group_length (drop at bytes) + 1) at bytes ∙ ap (λ n. drop n bytes) place))
    ∙ sym (lines-step (drop at bytes)
    ∙ ap (λ t. t || (goes (drop at bytes) && has_lines (left (drop at bytes)))) found
    ∙ ap (λ t. t && has_lines (left (drop at bytes))) goes_on)
    ∙ same

module _ (bytes : List ℕ) (at : ℕ) (old now : List ℕ) (so_far : now ++ spelled_out (drop at bytes) ≡ old ++ spelled_out bytes) where
  abbrev rest : List ℕ
  rest = lent bytes at

  module _ (n : ℕ) (size : n ≡ group_length rest) where
    abbrev text : List ℕ
    text = group_text (first_kind rest) (take n rest)

    first-is : text ≡ first_text rest
    first-is = ap (λ k. group_text (first_kind rest) (take k rest)) size

    step-lent : spelled_out (drop at bytes) ≡ text ++ cond (goes rest) (spelled_out (left rest)) []
    step-lent = ap spelled_out (sym (rest-lent bytes at)) ∙ spelled-step rest ∙ sym (ap (λ l. l ++ cond (goes rest) (spelled_out (left rest)) []) first-is)

    -- the last group went out
    pub spelled-all : length rest ≤ n → now ++ text ≡ old ++ spelled_out bytes
    spelled-all last =
        ap (λ l. now ++ l) (sym (step-lent ∙ ap (λ t. text ++ cond t (spelled_out (left rest)) []) (lt-no (group_length rest) (length rest) (omega (arith, size, last))) ∙ append-nil text)) ∙ so_far

    -- a group went out, and others follow
    pub spelled-on : n < length rest → (now ++ text) ++ spelled_out (drop (at + (n + 1)) bytes) ≡ old ++ spelled_out bytes
    spelled-on more =
        let place : at + (group_length rest + 1) ≡ at + (n + 1) = omega (arith, size) in
        let same : left rest ≡ drop (at + (n + 1)) bytes =
        ap (λ l. drop (group_length rest + 1) l) (rest-lent bytes at) ∙ drop-drop (group_length rest + 1) at bytes ∙ ap (λ k. drop k bytes) place in
        append_assoc now text (spelled_out (drop (at + (n + 1)) bytes))
        ∙ ap (λ l. now ++ (text ++ spelled_out l)) (sym same)
        ∙ ap (λ l. now ++ l) (sym (step-lent ∙ ap (λ t. text ++ cond t (spelled_out (left rest)) []) (lt-yes (group_length rest) (length rest) (omega (arith, size, more)))))
        ∙ so_far

-- the bytes behind a group are among the parameters
pub on-within : (bytes : List ℕ) (at n : ℕ) → at ≤ length bytes → n < length (lent bytes at) → at + (n + 1) ≤ length bytes
on-within bytes at n few more =
    let a = length-drop at bytes in
    let e : length (lent bytes at) ≡ length (drop at bytes) = ap length (rest-lent bytes at) in
    omega (arith, few, more, a, e)
