-- An unfinished end is the longest tail that further bytes could make a character of.
use Rattle.std.proofs.Common.{◌≡◌, inl, inr, ℕ, zero, suc, ◌+◌, ◌<◌, ◌≤◌, true, false, List, [], ◌∷◌, ◌++◌, length, take, drop, slice_index, refl, sym, ap, subst, ◌∙◌, arith, ⊎_elim, length-append, append_assoc, take-append-drop}
use Rattle.std.specs.Prelude.{◌==◌, None, if◌then◌else◌}
use Rattle.std.proofs.lemmas.Bool.{cases_Bool, cases_lt}
use Rattle.std.proofs.lemmas.Bool.Decides.{nat_tests}
use Rattle.std.proofs.lemmas.List.{get_or-append-add, drop-append-le}
use Rattle.bstr.specs.Utf8.{Decoded, decoded, decoded_by, bad, good, lead_len, second, continues, code_of_2, code_of_3, code_of_4}
use Rattle.bstr.proofs.lemmas.PieceLemmas.{by-shape, value-6, value-9, value-12, tail-continues, piece-bounds}
use Rattle.roam_text.specs.Log.{is_unfinished, unfinished_part}
use Rattle.roam_text.specs.ProperFronts.{IsProperFront}
use Rattle.roam_text.proofs.Bytes.{is_unfinished-true, decoded-extend, finished-some, true≢false, some≢none, lead-none, lead-most, shorter, unfinished-empty, unfinished-end, unfinished-more, unfinished-unfinished}

-- ---- a proper front is unfinished, and the other way

pub front-unfinished : (bs : List ℕ) → IsProperFront bs → is_unfinished bs ≡ true
front-unfinished bs p = ⊎_elim
    (λ yes. yes)
    (λ no.
    let bounds = piece-bounds bs (finished-some bs no) in
    let same = ap (λ (d : Decoded). d.size) (decoded-extend bs p.more no) in
    let all = ap (λ (d : Decoded). d.size) p.whole in
    let some = p.some in
    absurd (omega (arith, length-append bs p.more)))
    (cases_Bool (is_unfinished bs))

-- a byte that may come second after a first one
abbrev next_byte : ℕ → ℕ
next_byte b = if b == 0xE0 then 0xA0 else if b == 0xF0 then 0x90 else 0x80

next-may : (b : ℕ) → b ≤ 0xF4 → second b (next_byte b) ≡ true
next-may b high = grind (arith, nat_tests)

-- the bytes so far of an unfinished character of one to three bytes
data IsBegun (n b c d : ℕ) : Type 0 where
  one : n ≡ 1 → 0xC2 ≤ b → b ≤ 0xF4 → IsBegun n b c d
  two : n ≡ 2 → 0xE0 ≤ b → b ≤ 0xF4 → second b c ≡ true → IsBegun n b c d
  three : n ≡ 3 → 0xF0 ≤ b → b ≤ 0xF4 → second b c ≡ true → continues d ≡ true → IsBegun n b c d

begun : (n b c d e : ℕ) → 0 < n → (decoded_by n b c d e).char ≡ None → n ≤ (decoded_by n b c d e).size → n < lead_len b → IsBegun n b c d
begun n b c d e some none all short =
    let size : (p : Decoded) → decoded_by n b c d e ≡ p → (decoded_by n b c d e).size ≡ p.size = λ p is. ap (λ (p : Decoded). p.size) is in
    let found : (x m : ℕ) → decoded_by n b c d e ≡ good x m → ⊥ = λ x m is. some≢none x (decoded_by n b c d e).char (ap (λ (p : Decoded). p.char) is) none in
    by-shape n b c d e
    (λ h. absurd (omega arith))
    (λ h. absurd (found b 1 h.2))
    (λ h. let lead = lead-none b h.1 (inl h.2) in absurd (omega arith))
    (λ h. let high = h.1 in let lead = lead-none b (omega arith) (inr h.1) in absurd (omega arith))
    (λ h. let few = h.3 in one (omega arith) h.1 h.2)
    (λ h. let s = size (bad 1) h.4 in let more = h.0 in absurd (omega arith))
    (λ h. absurd (found (code_of_2 b c) 2 h.4))
    (λ h. let few = h.4 in let more = h.0 in two (omega arith) h.1 h.2 h.3)
    (λ h. let s = size (bad 2) h.5 in let more = h.0 in absurd (omega arith))
    (λ h. absurd (found (code_of_3 b c d) 3 h.5))
    (λ h. let few = h.5 in let more = h.0 in three (omega arith) h.1 h.2 h.3 h.4)
    (λ h. let s = size (bad 3) h.6 in let more = h.0 in absurd (omega arith))
    (λ h. absurd (found (code_of_4 b c d e) 4 h.6))

front-1 : (b : ℕ) → 0xC2 ≤ b → b ≤ 0xF4 → IsProperFront (b ∷ [])
front-1 b low high = let may = next-may b high in ⊎_elim
    (λ below. record {
      more = next_byte b ∷ [];
      some = omega arith;
      char = code_of_2 b (next_byte b);
      whole = value-6 2 b (next_byte b) 0 0 (omega arith, low, below, may);
    })
    (λ above. ⊎_elim
    (λ below. record {
      more = next_byte b ∷ 0x80 ∷ [];
      some = omega arith;
      char = code_of_3 b (next_byte b) 0x80;
      whole = value-9 3 b (next_byte b) 0x80 0 (omega arith, above, below, may, refl);
    })
    (λ above. record {
      more = next_byte b ∷ 0x80 ∷ 0x80 ∷ [];
      some = omega arith;
      char = code_of_4 b (next_byte b) 0x80 0x80;
      whole = value-12 4 b (next_byte b) 0x80 0x80 (omega arith, above, high, may, refl, refl);
    })
    (cases_lt b 0xF0))
    (cases_lt b 0xE0)

front-2 : (b c : ℕ) → 0xE0 ≤ b → b ≤ 0xF4 → second b c ≡ true → IsProperFront (b ∷ c ∷ [])
front-2 b c low high may = ⊎_elim
    (λ below. record {
      more = 0x80 ∷ [];
      some = omega arith;
      char = code_of_3 b c 0x80;
      whole = value-9 3 b c 0x80 0 (omega arith, low, below, may, refl);
    })
    (λ above. record {
      more = 0x80 ∷ 0x80 ∷ [];
      some = omega arith;
      char = code_of_4 b c 0x80 0x80;
      whole = value-12 4 b c 0x80 0x80 (omega arith, above, high, may, refl, refl);
    })
    (cases_lt b 0xF0)

front-3 : (b c d : ℕ) → 0xF0 ≤ b → b ≤ 0xF4 → second b c ≡ true → continues d ≡ true → IsProperFront (b ∷ c ∷ d ∷ [])
front-3 b c d low high may goes_on = record {
  more = 0x80 ∷ [];
  some = omega arith;
  char = code_of_4 b c d 0x80;
  whole = value-12 4 b c d 0x80 (omega arith, low, high, may, goes_on, refl);
}

front-of-1 : (b c d : ℕ) → IsBegun 1 b c d → IsProperFront (b ∷ [])
front-of-1 b c d (one is low high) = front-1 b low high
front-of-1 b c d (two is low high may) = absurd (omega arith)
front-of-1 b c d (three is low high may goes_on) = absurd (omega arith)

front-of-2 : (b c d : ℕ) → IsBegun 2 b c d → IsProperFront (b ∷ c ∷ [])
front-of-2 b c d (one is low high) = absurd (omega arith)
front-of-2 b c d (two is low high may) = front-2 b c low high may
front-of-2 b c d (three is low high may goes_on) = absurd (omega arith)

front-of-3 : (b c d : ℕ) → IsBegun 3 b c d → IsProperFront (b ∷ c ∷ d ∷ [])
front-of-3 b c d (one is low high) = absurd (omega arith)
front-of-3 b c d (two is low high may) = absurd (omega arith)
front-of-3 b c d (three is low high may goes_on) = front-3 b c d low high may goes_on

at-least : (a b : ℕ) → a ≡ b → b ≤ a
at-least a b is = omega arith

pub unfinished-front : (bs : List ℕ) → is_unfinished bs ≡ true → IsProperFront bs
unfinished-front [] h = record { more = 0x41 ∷ []; some = omega arith; char = 0x41; whole = refl }
unfinished-front (b ∷ []) h =
    let u = is_unfinished-true (b ∷ []) h in
    front-of-1 b 0 0 (begun 1 b 0 0 0 (omega arith) u.none (at-least _ _ u.size) u.short)
unfinished-front (b ∷ c ∷ []) h =
    let u = is_unfinished-true (b ∷ c ∷ []) h in
    front-of-2 b c 0 (begun 2 b c 0 0 (omega arith) u.none (at-least _ _ u.size) u.short)
unfinished-front (b ∷ c ∷ d ∷ []) h =
    let u = is_unfinished-true (b ∷ c ∷ d ∷ []) h in
    front-of-3 b c d (begun 3 b c d 0 (omega arith) u.none (at-least _ _ u.size) u.short)
unfinished-front (b ∷ c ∷ d ∷ e ∷ bs) h =
    let u = is_unfinished-true (b ∷ c ∷ d ∷ e ∷ bs) h in
    let most = lead-most b in
    let short = u.short in
    absurd (omega arith)

-- ---- it is a tail

tail-within : (n : ℕ) (bs : List ℕ) → length bs ≤ n → (front : List ℕ) × (bs ≡ front ++ unfinished_part bs)
tail-within zero [] le = ([], sym (unfinished-end [] unfinished-empty))
tail-within zero (x ∷ xs) le = absurd (omega arith)
tail-within (suc n) bs le = ⊎_elim
    (λ yes. ([], sym (unfinished-end bs yes)))
    (λ no.
    let less = shorter bs no in
    let rest = tail-within n (drop (decoded bs).size bs) (omega arith) in
    let s = (decoded bs).size in (
      take s bs ++ rest.0,
      sym (take-append-drop s bs)
          ∙ ap (λ l. take s bs ++ l) (rest.1 ∙ ap (λ l. rest.0 ++ l) (sym (unfinished-more bs no)))
          ∙ sym (append_assoc (take s bs) rest.0 (unfinished_part bs)),
    ))
    (cases_Bool (is_unfinished bs))

pub unfinished-tail : (bs : List ℕ) → (front : List ℕ) × (bs ≡ front ++ unfinished_part bs)
unfinished-tail bs = tail-within (length bs) bs (omega arith)

pub unfinished-begins : (bs : List ℕ) → IsProperFront (unfinished_part bs)
unfinished-begins bs = unfinished-front (unfinished_part bs) (unfinished-unfinished bs)

-- ---- and no longer tail is one

-- a byte that continues a character begins none
lead-of-continuing : (b : ℕ) → continues b ≡ true → lead_len b ≡ 0
lead-of-continuing b is = grind (arith, nat_tests)

inside-continues : (bs : List ℕ) (k : ℕ) → 0 < k → k < (decoded bs).size → (decoded bs).size ≤ 4 → continues (slice_index bs k) ≡ true
inside-continues bs k some inside few =
    let goes_on = tail-continues (length bs) (slice_index bs 0) (slice_index bs 1) (slice_index bs 2) (slice_index bs 3) in
    ⊎_elim
    (λ one. subst (λ (i : ℕ). continues (slice_index bs i) ≡ true) (by-one k some one) (goes_on.0 (omega arith)))
    (λ more. ⊎_elim
    (λ two. subst (λ (i : ℕ). continues (slice_index bs i) ≡ true) (by-two k more two) (goes_on.1 (omega arith)))
    (λ three. subst (λ (i : ℕ). continues (slice_index bs i) ≡ true) (by-three k three inside few) (goes_on.2 (omega arith)))
    (cases_lt k 3))
    (cases_lt k 2)
  where
    by-one : (k : ℕ) → 0 < k → k < 2 → 1 ≡ k
    by-one k a b = omega arith

    by-two : (k : ℕ) → 2 ≤ k → k < 3 → 2 ≡ k
    by-two k a b = omega arith

    by-three : (k : ℕ) → 3 ≤ k → k < (decoded bs).size → (decoded bs).size ≤ 4 → 3 ≡ k
    by-three k a b c = omega arith

-- a tail that begins within the first piece of some bytes
inside-none : (front tail : List ℕ) → is_unfinished (front ++ tail) ≡ false → length front < (decoded (front ++ tail)).size → is_unfinished tail ≡ true → ⊥
inside-none [] tail finished inside starts = true≢false (sym starts ∙ finished)
inside-none (x ∷ xs) [] finished inside starts =
    let bounds = piece-bounds (x ∷ xs ++ []) (omega arith) in
    absurd (omega (arith, length-append (x ∷ xs) []))
inside-none (x ∷ xs) (t ∷ ts) finished inside starts =
    let bounds = piece-bounds (x ∷ xs ++ t ∷ ts) (omega arith) in
    let goes_on = inside-continues (x ∷ xs ++ t ∷ ts) (length (x ∷ xs) + 0) (omega arith) (omega arith) bounds.1 in
    let lead = lead-of-continuing t (ap continues (sym (get_or-append-add (x ∷ xs) (t ∷ ts) 0 0)) ∙ goes_on) in
    let short = (is_unfinished-true (t ∷ ts) starts).short in
    absurd (omega arith)

longest-within : (n : ℕ) (bs front tail : List ℕ) → length bs ≤ n → bs ≡ front ++ tail → is_unfinished tail ≡ true → length (unfinished_part bs) < length tail → ⊥
longest-within zero bs front tail le is cut_short longer = absurd (omega (arith, length-append front tail, ap length is))
longest-within (suc n) bs front tail le is cut_short longer = ⊎_elim
    (λ whole. absurd (omega (arith, length-append front tail, ap length is, ap length (unfinished-end bs whole))))
    (λ no. ⊎_elim
    (λ inside. inside-none front tail (sym (ap is_unfinished is) ∙ no)
    (subst (λ (l : List ℕ). length front < (decoded l).size) is inside) cut_short)
    (λ past.
    let less = shorter bs no in
    longest-within n (drop (decoded bs).size bs) (drop (decoded bs).size front) tail (omega arith)
    (ap (drop (decoded bs).size) is ∙ drop-append-le (decoded bs).size front tail past) cut_short
    (subst (λ (l : List ℕ). length l < length tail) (unfinished-more bs no) longer))
    (cases_lt (length front) (decoded bs).size))
    (cases_Bool (is_unfinished bs))

pub unfinished-longest : (bs front tail : List ℕ) → bs ≡ front ++ tail → IsProperFront tail → length (unfinished_part bs) < length tail → ⊥
unfinished-longest bs front tail is begins longer =
    longest-within (length bs) bs front tail (omega arith) is (front-unfinished tail begins) longer
