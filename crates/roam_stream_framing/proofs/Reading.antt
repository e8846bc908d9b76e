-- The bytes of a stream are datagrams, and the beginning of another, in one way.
use Rattle.std.proofs.Common.{◌≡◌, ℕ, suc, ◌+◌, ◌≤◌, List, [], ◌∷◌, ◌++◌, length, take, drop, sym, ap, ◌∙◌, refl, append_assoc, arith, length-append}
use Rattle.std.proofs.Math.Seq.{take-append_seam, drop-append_seam}
use Rattle.std.proofs.lemmas.Bool.Decides.{nat_tests}
use Rattle.byteorder.specs.Endian.{big_number}
use Rattle.byteorder.specs.Numbers.{big_number-reads_back}
use Rattle.roam_stream_framing.specs.declared.frames.Front.TheVariants.{Whole}
use Rattle.roam_stream_framing.specs.Frames.{IsCarried, IsPart, OneReading, framed, framed_all, front_by, front_of, longest_datagram}

-- the framed text of a datagram begins with its length
length_first : (d rest : List ℕ) → IsCarried d → big_number 2 (framed d ++ rest) ≡ length d
length_first d rest carried = big_number-reads_back 2 (length d) (d ++ rest) (omega arith)

whole_by : (n count : ℕ) → 1 ≤ n → n ≤ longest_datagram → n + 2 ≤ count → front_by n count ≡ Whole n
whole_by n count some short long = grind (arith, nat_tests)

front_from : (bytes : List ℕ) (n : ℕ) → 2 ≤ length bytes → big_number 2 bytes ≡ n → front_by n (length bytes) ≡ Whole n → front_of bytes ≡ Whole n
front_from bytes n two is whole = grind (arith, nat_tests)

-- the framed text of a datagram is read as a whole one
whole_first : (d rest : List ℕ) → IsCarried d → front_of (framed d ++ rest) ≡ Whole (length d)
whole_first d rest carried =
    let long : length (framed d ++ rest) ≡ 2 + length d + length rest = omega (arith, length-append d rest) in
    front_from (framed d ++ rest) (length d) (omega arith) (length_first d rest carried)
    (whole_by (length d) (length (framed d ++ rest)) carried.some carried.short (omega arith))

-- so no part of one begins so
no_part : (d rest kept : List ℕ) → IsCarried d → IsPart kept → kept ≡ framed d ++ rest → ⊥
no_part d rest kept carried part is = let whole = whole_first d rest carried in let same = ap front_of is in cc

-- two texts of one length begin one list
same_front : (d d' rest rest' : List ℕ) → length d ≡ length d' → d ++ rest ≡ d' ++ rest' → (d ≡ d') × (rest ≡ rest')
same_front d d' rest rest' long is = (
  sym (take-append_seam d rest) ∙ ap (λ t. take (length d) t) is ∙ ap (λ n. take n (d' ++ rest')) long ∙ take-append_seam d' rest',
  sym (drop-append_seam d rest) ∙ ap (λ t. drop (length d) t) is ∙ ap (λ n. drop n (d' ++ rest')) long ∙ drop-append_seam d' rest',
)

same_first : (d d' rest rest' : List ℕ) → IsCarried d → IsCarried d' → framed d ++ rest ≡ framed d' ++ rest' → (d ≡ d') × (rest ≡ rest')
same_first d d' rest rest' carried carried' is =
    let long : length d ≡ length d' =
    sym (length_first d rest carried) ∙ ap (λ t. big_number 2 t) is ∙ length_first d' rest' carried' in
    let behind : d ++ rest ≡ d' ++ rest' = ap (λ t. drop 2 t) is in
    same_front d d' rest rest' long behind

-- the first of several, and those behind it
first_of : (d : List ℕ) (given : List (List ℕ)) (kept : List ℕ) → framed_all (d ∷ given) ++ kept ≡ framed d ++ (framed_all given ++ kept)
first_of d given kept = append_assoc (framed d) (framed_all given) kept

pub one : OneReading
one [] [] kept kept' carried carried' part part' is = (refl, is)
one [] (d ∷ given) kept kept' carried carried' part part' is =
    absurd (no_part d (framed_all given ++ kept') kept (carried' 0 d (omega arith)) part (is ∙ first_of d given kept'))
one (d ∷ given) [] kept kept' carried carried' part part' is =
    absurd (no_part d (framed_all given ++ kept) kept' (carried 0 d (omega arith)) part' (sym is ∙ first_of d given kept))
one (d ∷ given) (d' ∷ given') kept kept' carried carried' part part' is =
    let here = same_first d d' (framed_all given ++ kept) (framed_all given' ++ kept') (carried 0 d (omega arith)) (carried' 0 d' (omega arith))
    (sym (first_of d given kept) ∙ is ∙ first_of d' given' kept') in
    let later = one given given' kept kept' (λ k x lt. carried (suc k) x (omega arith)) (λ k x lt. carried' (suc k) x (omega arith)) part part' here.1 in
    (let h = here.0 in let l = later.0 in cc, later.1)
