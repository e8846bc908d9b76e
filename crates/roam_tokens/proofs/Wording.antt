-- Where a line is cut into words.
use Rattle.std.proofs.Common.{◌≡◌, ℕ, ◌+◌, ◌<◌, ◌≤◌, Bool, true, false, eqb, ltb, List, [], ◌∷◌, ◌++◌, length, get_or, take, drop, Option, Some, None, refl, sym, ap, ◌∙◌, arith, add-one}
use Rattle.std.proofs.Math.Seq.{take-append_seam, drop-append-add, drop-cons}
use Rattle.std.proofs.lemmas.Bool.{and_parts, eqb-true, ltb-true, not-false}
use Rattle.std.proofs.lemmas.Bool.Decides.{nat_tests}
use Rattle.std.proofs.lemmas.List.{length-append, take-append-drop}
use Rattle.std.proofs.lemmas.List.Sums.{prefix_len_stops}
use Rattle.std.specs.List.{list_all, position, prefix_len}
use Rattle.std.specs.Char.{digit_value}
use Rattle.std.specs.Prelude.{not}
use Rattle.std.specs.Str.Parse.{AllDigits}
use Rattle.roam_tokens.specs.Words.{first_word, word_at}
use Rattle.roam_tokens.proofs.Spelled.{chosen_some}

-- a byte that is no space
abbrev pub is_other : ℕ → Bool
is_other b = not (eqb b 32)

-- a word has no space
abbrev pub IsWord : List ℕ → Type 0
IsWord w = list_all is_other w ≡ true

no_digit : (b : ℕ) → b ≡ 32 → digit_value b < 36 → ⊥
no_digit b e lt = let same : digit_value b ≡ digit_value 32 = ap digit_value e in omega (arith, same, lt)

digit_is_other : (radix d : ℕ) → radix ≤ 36 → digit_value d < radix → is_other d ≡ true
digit_is_other radix d le lt = by (eqb d 32) refl
  where
    by : (b : Bool) → eqb d 32 ≡ b → not (eqb d 32) ≡ true
    by true e = absurd (no_digit d (eqb-true _ _ e) (omega (arith, le, lt)))
    by false e = rw e refl

pub digits_are_word : (radix : ℕ) (w : List ℕ) → radix ≤ 36 → AllDigits radix w → IsWord w
digits_are_word radix [] le h = refl
digits_are_word radix (d ∷ w) le h =
    let other = digit_is_other radix d le h.0 in
    let more = digits_are_word radix w le h.1 in
    rw (other, more) refl

no_spaces : (w rest : List ℕ) → IsWord w → prefix_len is_other (w ++ 32 ∷ rest) ≡ length w
no_spaces [] rest h = refl
no_spaces (d ∷ w) rest h =
    let both = and_parts (is_other d) (list_all is_other w) h in
    let more = no_spaces w rest both.1 in
    rw (both.0, more) (omega arith)

space_at : (w rest : List ℕ) → IsWord w → position (λ (b : ℕ). eqb b 32) (w ++ 32 ∷ rest) ≡ Some (length w)
space_at w rest h =
    let place = no_spaces w rest h in
    let there : ltb (length w) (length (w ++ 32 ∷ rest)) ≡ true = grind (arith, nat_tests, length-append w (32 ∷ rest)) in
    rw (place, there) refl

pub word_again : (w rest : List ℕ) → IsWord w → first_word (w ++ 32 ∷ rest) ≡ Some (w, rest)
word_again w rest h =
    let text = w ++ 32 ∷ rest in
    let front : take (length w) text ≡ w = take-append_seam w (32 ∷ rest) in
    let back : drop (length w + 1) text ≡ rest = drop-append-add w (32 ∷ rest) 1 in
    ap (word_at text) (space_at w rest h) ∙ (λ i. Some (front i, back i))

-- a word alone has no space
no_space : (w : List ℕ) → IsWord w → prefix_len is_other w ≡ length w
no_space [] h = refl
no_space (d ∷ w) h =
    let both = and_parts (is_other d) (list_all is_other w) h in
    let more = no_space w both.1 in
    rw (both.0, more) (omega arith)

pub word_alone : (w : List ℕ) → IsWord w → first_word w ≡ None
word_alone w h =
    let place = no_space w h in
    let past : ltb (length w) (length w) ≡ false = grind (arith, nat_tests) in
    rw (place, past) refl

split_at : (text : List ℕ) (p : ℕ) → position (λ (b : ℕ). eqb b 32) text ≡ Some p → text ≡ take p text ++ 32 ∷ drop (p + 1) text
split_at text p e =
    let place = prefix_len is_other text in
    let there = chosen_some (ltb place (length text)) place p e in
    let lt : place < length text = ltb-true place (length text) there.0 in
    let space : get_or text place 0 ≡ 32 = eqb-true _ _ (not-false _ (prefix_len_stops is_other text 0 lt)) in
    let cut : text ≡ take place text ++ 32 ∷ drop (place + 1) text =
    sym (take-append-drop place text) ∙ ap (λ (t : List ℕ). take place text ++ t) (drop-cons text place 0 lt
    ∙ (λ i. space i ∷ drop (sym (add-one place) i) text)) in
    cut ∙ ap (λ (n : ℕ). take n text ++ 32 ∷ drop (n + 1) text) there.1

pub word_found : (text : List ℕ) (p : List ℕ × List ℕ) → first_word text ≡ Some p → text ≡ p.0 ++ 32 ∷ p.1
word_found text p e = by (position (λ (b : ℕ). eqb b 32) text) refl e
  where
    by : (r : Option ℕ) → position (λ (b : ℕ). eqb b 32) text ≡ r → word_at text r ≡ Some p → text ≡ p.0 ++ 32 ∷ p.1
    by None is e = absurd cc
    by (Some n) is e =
        let cut : List ℕ × List ℕ = (take n text, drop (n + 1) text) in
        let same : cut ≡ p = cc in
        split_at text n is ∙ ap (λ (q : List ℕ × List ℕ). q.0 ++ 32 ∷ q.1) same
