-- Big-endian numbers and their bytes, in both directions, for all three formats.
use Rattle.std.proofs.Common.{◌≡◌, ℕ, suc, ◌+◌, ◌<◌, ◌≤◌, List, ◌∷◌, ◌++◌, length, get_or, take, drop, sym, arith, lit<}
use Rattle.std.proofs.Math.Seq.{drop-cons}
use Rattle.std.proofs.lemmas.List.{drop-drop, take-append-drop, get_or-take, length-take, length-drop}
use Rattle.std.proofs.lemmas.Nat.{be_bytes_2, be_bytes_8}
use Rattle.std.specs.Int.{w16, w64, from_be_bytes}
use Rattle.byteorder.specs.Endian.{big_bytes, big_number}
use Rattle.roam_acts.proofs.Fields.{IsBytes, IsBytes-drop, IsBytes-take}

-- the first n bytes are those of the number that they spell
abbrev pub IsBack : ℕ → Type 0
IsBack n = (xs : List ℕ) → n ≤ length xs → IsBytes xs → big_bytes n (big_number n xs) ≡ take n xs

same_place : (n : ℕ) (xs : List ℕ) (i : ℕ) → i < n → get_or (take n xs) i 0 ≡ get_or xs i 0
same_place n xs i lt = get_or-take n xs i 0 lt

pub back_8 : IsBack 8
back_8 xs long fits =
    let same = same_place 8 xs in
    let first : big_number 8 xs ≡ from_be_bytes w64 (take 8 xs) =
    omega (arith, same 0 (lit< tt), same 1 (lit< tt), same 2 (lit< tt), same 3 (lit< tt), same 4 (lit< tt), same 5 (lit< tt), same 6 (lit< tt), same 7 (lit< tt)) in
    be_bytes_8 (take 8 xs) (big_number 8 xs) (omega (arith, length-take 8 xs)) (IsBytes-take 8 xs fits) first

pub back_2 : IsBack 2
back_2 xs long fits =
    let same = same_place 2 xs in
    let first : big_number 2 xs ≡ from_be_bytes w16 (take 2 xs) = omega (arith, same 0 (lit< tt), same 1 (lit< tt)) in
    be_bytes_2 (take 2 xs) (big_number 2 xs) (omega (arith, length-take 2 xs)) (IsBytes-take 2 xs fits) first

-- the n bytes from a place are those of the number there
pub number : (n at : ℕ) (bytes : List ℕ) → IsBack n → at + n ≤ length bytes → IsBytes bytes → drop at bytes ≡ big_bytes n (big_number n (drop at bytes)) ++ drop (at + n) bytes
number n at bytes back long fits =
    let here : big_bytes n (big_number n (drop at bytes)) ≡ take n (drop at bytes) = back (drop at bytes) (omega (arith, length-drop at bytes)) (IsBytes-drop at bytes fits) in
    sym (rw (here, ← drop-drop n at bytes) (take-append-drop n (drop at bytes)))

-- a byte and those after it
pub byte : (at : ℕ) (bytes : List ℕ) → at < length bytes → drop at bytes ≡ get_or bytes at 0 ∷ drop (suc at) bytes
byte at bytes lt = drop-cons bytes at 0 lt
