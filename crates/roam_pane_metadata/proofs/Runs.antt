-- Fronts of a piece that say nothing.
use Rattle.std.proofs.Common.{◌≡◌, ◌<◌, ◌≤◌, ◌+◌, ◌-◌, ℕ, zero, suc, Bool, true, false, List, [], ◌∷◌, ◌++◌, length, length-drop, take, take_all, drop, refl, sym, ap, arith, append_assoc, subst}
use Rattle.std.specs.Prelude.{not, slice_index}
use Rattle.std.proofs.lemmas.List.{drop-append-le, length-take-le, take_more}
use Rattle.std.proofs.Math.Seq.{take-add}
use Rattle.memchr.specs.Find.{is_byte3}
use Rattle.roam_text.specs.Log.{settled_part}
use Rattle.roam_pane_metadata.specs.Silence.{AreNumbers, AreStill, IsPlainSequence, SaySame, SaysNothing, is_number, is_still}
use Rattle.roam_pane_metadata.proofs.Silences.{same-refl, same-trans, still-silent}
use Rattle.roam_pane_metadata.proofs.Sequences.{sequence-silent}

not-true : (b : Bool) → (b ≡ true → ⊥) → not b ≡ true
not-true true never = absurd (never refl)
not-true false never = refl

pub still-take : (n : ℕ) (piece : List ℕ) → n ≤ length piece → ((k : ℕ) → k < n → is_byte3 0x1B 0x07 0xC2 (slice_index piece k) ≡ true → ⊥) → AreStill (take n piece)
still-take zero piece few never = tt
still-take (suc n) [] few never = absurd (omega (arith, few))
still-take (suc n) (b ∷ piece) few never = (
  not-true (is_byte3 0x1B 0x07 0xC2 b) (never 0 (omega arith)),
  still-take n piece (omega (arith, few)) (λ k less. never (suc k) (omega (arith, less))),
)

numbers-more : (body : List ℕ) (b : ℕ) → AreNumbers body → is_number b ≡ true → AreNumbers (body ++ b ∷ [])
numbers-more [] b n is = (is, tt)
numbers-more (a ∷ body) b n is = (n.0, numbers-more body b n.1 is)

pub numbers-on : (at : ℕ) (piece : List ℕ) → 2 ≤ at → at < length piece → AreNumbers (drop 2 (take at piece)) → is_number (slice_index piece at) ≡ true
    → AreNumbers (drop 2 (take (at + 1) piece))
numbers-on at piece some less numbers is =
    let long : length (take at piece) ≡ at = length-take-le at piece (omega (arith, less)) in
    subst (λ l. AreNumbers (drop 2 l)) (sym (take_more piece at 0 less))
    (subst AreNumbers (sym (drop-append-le 2 (take at piece) (slice_index piece at ∷ []) (omega (arith, long, some))))
    (numbers-more (drop 2 (take at piece)) (slice_index piece at) numbers is))

pub silent-nothing : SaysNothing []
silent-nothing more = same-refl (settled_part more)

silent-joined : (a b : List ℕ) → SaysNothing a → SaysNothing b → SaysNothing (a ++ b)
silent-joined a b first later more =
    subst (λ l. SaySame (settled_part l) (settled_part more)) (sym (append_assoc a b more))
    (same-trans (settled_part (a ++ (b ++ more))) (settled_part (b ++ more)) (settled_part more) (first (b ++ more)) (later more))

sequence-or-nothing : (n : ℕ) (piece : List ℕ) → (0 < n → IsPlainSequence (take n piece)) → SaysNothing (take n piece)
sequence-or-nothing zero piece plain = silent-nothing
sequence-or-nothing (suc n) piece plain = sequence-silent (take (suc n) piece) (plain (omega arith))

-- silent bytes, still bytes after them, and a plain control sequence after these
pub silent-on : (at still sequence : ℕ) (piece : List ℕ) → SaysNothing (take at piece) → AreStill (take still (drop at piece))
    → (0 < sequence → IsPlainSequence (take sequence (drop (at + still) piece))) → SaysNothing (take (at + still + sequence) piece)
silent-on at still sequence piece before quiet plain =
    subst SaysNothing (sym (take-add (at + still) sequence piece))
    (silent-joined (take (at + still) piece) (take sequence (drop (at + still) piece))
    (subst SaysNothing (sym (take-add at still piece)) (silent-joined (take at piece) (take still (drop at piece)) before (still-silent (take still (drop at piece)) quiet)))
    (sequence-or-nothing sequence (drop (at + still) piece) plain))

-- all of the rest is lent from a place on
rest-lent : (xs : List ℕ) (at : ℕ) → take (length xs - at) (drop at xs) ≡ drop at xs
rest-lent xs at = take_all (length xs - at) (drop at xs) (omega (arith, length-drop at xs))

-- the same, for the lent bytes
pub silent-lent : (at still sequence : ℕ) (piece : List ℕ) → SaysNothing (take at piece)
    → AreStill (take still (take (length piece - at) (drop at piece)))
    → (0 < sequence → IsPlainSequence (take sequence (take (length piece - (at + still)) (drop (at + still) piece))))
    → SaysNothing (take (at + still + sequence) piece)
silent-lent at still sequence piece before quiet plain =
    silent-on at still sequence piece before (subst (λ l. AreStill (take still l)) (rest-lent piece at) quiet)
    (λ some. subst (λ l. IsPlainSequence (take sequence l)) (rest-lent piece (at + still)) (plain some))

-- and of how many there are
pub within-lent : (at still sequence : ℕ) (piece : List ℕ) → at ≤ length piece → still ≤ length (take (length piece - at) (drop at piece))
    → sequence ≤ length (take (length piece - (at + still)) (drop (at + still) piece)) → at + still + sequence ≤ length piece
within-lent at still sequence piece few first later =
    let a = length-drop at piece in
    let b = length-drop (at + still) piece in
    let p : length (take (length piece - at) (drop at piece)) ≡ length (drop at piece) = ap length (rest-lent piece at) in
    let q : length (take (length piece - (at + still)) (drop (at + still) piece)) ≡ length (drop (at + still) piece) = ap length (rest-lent piece (at + still)) in
    omega (arith, few, first, later, a, b, p, q)

-- a run of the lent bytes ends within the piece
pub run-within : (at run : ℕ) (piece : List ℕ) → at ≤ length piece → run ≤ length (take (length piece - at) (drop at piece)) → at + run ≤ length piece
run-within at run piece few most =
    let a = length-drop at piece in
    let p : length (take (length piece - at) (drop at piece)) ≡ length (drop at piece) = ap length (rest-lent piece at) in
    omega (arith, few, most, a, p)

still-joined : (xs ys : List ℕ) → AreStill xs → AreStill ys → AreStill (xs ++ ys)
still-joined [] ys first later = later
still-joined (x ∷ xs) ys first later = (first.0, still-joined xs ys first.1 later)

-- one more still byte
pub still-on : (piece : List ℕ) (at : ℕ) → at < length piece → is_still (slice_index piece at) ≡ true → AreStill (take at piece) → AreStill (take (at + 1) piece)
still-on piece at less is still = subst AreStill (sym (take_more piece at 0 less)) (still-joined (take at piece) (slice_index piece at ∷ []) still (is, tt))

-- still bytes near, and far
pub still-far : (piece : List ℕ) (near far : ℕ) → AreStill (take near piece) → AreStill (take far (take (length piece - near) (drop near piece))) → AreStill (take (near + far) piece)
still-far piece near far first later =
    subst AreStill (sym (take-add near far piece))
    (still-joined (take near piece) (take far (drop near piece)) first (subst (λ l. AreStill (take far l)) (rest-lent piece near) later))
