-- The bytes of a number are read as that number, and the bytes that are read as a number are its bytes.
use Rattle.std.proofs.Common.{◌≡◌, ℕ, ◌+◌, ◌/◌, ◌%◌, ◌^◌, ◌<◌, ◌≤◌, List, [], ◌∷◌, ◌++◌, length, get_or, take, drop, sym, ap, ◌∙◌, arith, inl, inr, lit<}
use Rattle.std.specs.Prelude.{All}
use Rattle.std.specs.Int.{w16, w32, from_be_bytes}
use Rattle.std.proofs.lemmas.Bool.{cases_lt}
use Rattle.std.proofs.lemmas.List.{drop-drop, take-append-drop, get_or-drop, get_or-take, get_or_past, length-take, length-drop}
use Rattle.std.proofs.lemmas.List.Elements.{All-get_or}
use Rattle.std.proofs.lemmas.Nat.{be_bytes_2, be_bytes_4}
use Rattle.byteorder.specs.Endian.{big_bytes, big_number}

-- each place of a text has a byte, and past its end a 0 is read
abbrev pub AreBytes : List ℕ → Type 0
AreBytes text = (i : ℕ) → get_or text i 0 < 256

pub are_bytes : (text : List ℕ) → All (λ (b : ℕ). b < 256) text → AreBytes text
are_bytes text h i =
    elim (cases_lt i (length text)) [
      | inl lt ↦ All-get_or (λ (b : ℕ). b < 256) text i 0 lt h
      | inr le ↦ rw (get_or_past text i 0 le) (lit< tt)
    ]

pub bytes-drop : (n : ℕ) (text : List ℕ) → AreBytes text → AreBytes (drop n text)
bytes-drop n text h i = rw get_or-drop (h (n + i))

bytes-take : (n : ℕ) (text : List ℕ) → AreBytes text → AreBytes (take n text)
bytes-take n text h i =
    elim (cases_lt i n) [
      | inl lt ↦ rw (get_or-take n text i 0 lt) (h i)
      | inr le ↦ rw (get_or_past (take n text) i 0 (omega (arith, length-take n text))) (lit< tt)
    ]

same_place : (n : ℕ) (xs : List ℕ) (i : ℕ) → i < n → get_or (take n xs) i 0 ≡ get_or xs i 0
same_place n xs i lt = get_or-take n xs i 0 lt

back_4 : (xs : List ℕ) → 4 ≤ length xs → AreBytes xs → big_bytes 4 (big_number 4 xs) ≡ take 4 xs
back_4 xs long fits =
    let same = same_place 4 xs in
    let first : big_number 4 xs ≡ from_be_bytes w32 (take 4 xs) = omega (arith, same 0 (lit< tt), same 1 (lit< tt), same 2 (lit< tt), same 3 (lit< tt)) in
    be_bytes_4 (take 4 xs) (big_number 4 xs) (omega (arith, length-take 4 xs)) (bytes-take 4 xs fits) first

back_2 : (xs : List ℕ) → 2 ≤ length xs → AreBytes xs → big_bytes 2 (big_number 2 xs) ≡ take 2 xs
back_2 xs long fits =
    let same = same_place 2 xs in
    let first : big_number 2 xs ≡ from_be_bytes w16 (take 2 xs) = omega (arith, same 0 (lit< tt), same 1 (lit< tt)) in
    be_bytes_2 (take 2 xs) (big_number 2 xs) (omega (arith, length-take 2 xs)) (bytes-take 2 xs fits) first

-- a text begins with the bytes of the number that it begins with
pub number_4 : (at : ℕ) (text : List ℕ) → at + 4 ≤ length text → AreBytes text → drop at text ≡ big_bytes 4 (big_number 4 (drop at text)) ++ drop (at + 4) text
number_4 at text long fits =
    let here : big_bytes 4 (big_number 4 (drop at text)) ≡ take 4 (drop at text) = back_4 (drop at text) (omega (arith, length-drop at text)) (bytes-drop at text fits) in
    sym (take-append-drop 4 (drop at text)) ∙ ap (λ (x : List ℕ). x ++ drop 4 (drop at text)) (sym here)
    ∙ ap (λ (x : List ℕ). big_bytes 4 (big_number 4 (drop at text)) ++ x) (drop-drop 4 at text)

pub number_2 : (at : ℕ) (text : List ℕ) → at + 2 ≤ length text → AreBytes text → drop at text ≡ big_bytes 2 (big_number 2 (drop at text)) ++ drop (at + 2) text
number_2 at text long fits =
    let here : big_bytes 2 (big_number 2 (drop at text)) ≡ take 2 (drop at text) = back_2 (drop at text) (omega (arith, length-drop at text)) (bytes-drop at text fits) in
    sym (take-append-drop 2 (drop at text)) ∙ ap (λ (x : List ℕ). x ++ drop 2 (drop at text)) (sym here)
    ∙ ap (λ (x : List ℕ). big_bytes 2 (big_number 2 (drop at text)) ++ x) (drop-drop 2 at text)

back_3 : (xs : List ℕ) → 3 ≤ length xs → AreBytes xs → big_bytes 3 (big_number 3 xs) ≡ take 3 xs
back_3 [] long fits = absurd (omega arith)
back_3 (a ∷ []) long fits = absurd (omega arith)
back_3 (a ∷ b ∷ []) long fits = absurd (omega arith)
back_3 (a ∷ b ∷ c ∷ rest) long fits =
    let n = big_number 3 (a ∷ b ∷ c ∷ rest) in
    let first : a < 256 = fits 0 in
    let second : b < 256 = fits 1 in
    let third : c < 256 = fits 2 in
    let one : n / 256 ^ 2 % 256 ≡ a = omega (arith, first, second, third) in
    let two : n / 256 ^ 1 % 256 ≡ b = omega (arith, first, second, third) in
    let three : n % 256 ≡ c = omega (arith, first, second, third) in
    λ i. one i ∷ (two i ∷ (three i ∷ []))

pub number_3 : (at : ℕ) (text : List ℕ) → at + 3 ≤ length text → AreBytes text → drop at text ≡ big_bytes 3 (big_number 3 (drop at text)) ++ drop (at + 3) text
number_3 at text long fits =
    let here : big_bytes 3 (big_number 3 (drop at text)) ≡ take 3 (drop at text) = back_3 (drop at text) (omega (arith, length-drop at text)) (bytes-drop at text fits) in
    sym (take-append-drop 3 (drop at text)) ∙ ap (λ (x : List ℕ). x ++ drop 3 (drop at text)) (sym here)
    ∙ ap (λ (x : List ℕ). big_bytes 3 (big_number 3 (drop at text)) ++ x) (drop-drop 3 at text)
