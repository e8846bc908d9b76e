-- Where a frame is open behind the first so many bytes, however they are looked at.
use Rattle.std.proofs.Common.{◌≡◌, ◌<◌, ◌≤◌, ◌+◌, ◌-◌, ℕ, zero, suc, List, [], ◌∷◌, length, take, drop, Option, None, refl, ap, ◌∙◌, arith, if◌then◌else◌}
use Rattle.std.proofs.lemmas.List.{drop-drop}
use Rattle.roam_pane_sockets.specs.Frames.{HasNoEscape, HasNoMark, frame_with, opened_at, opens}
use Rattle.roam_pane_sockets.specs.Pieces.{frame_upto}
use Rattle.roam_pane_sockets.proofs.Framing.{no-change, unmarked}

-- a run without ESC is one in a longer text too
still-in : (run n : ℕ) (xs : List ℕ) → run ≤ n → HasNoEscape (take run (take n xs)) → HasNoEscape (take run xs)
still-in zero n xs few still = tt
still-in (suc run) zero xs few still = absurd (omega (arith, few))
still-in (suc run) (suc n) [] few still = tt
still-in (suc run) (suc n) (b ∷ xs) few still = (still.0, still-in run n xs (omega (arith, few)) still.1)

-- bytes without ESC are passed over
passed-upto : (run n : ℕ) (frame : Option ℕ) (at : ℕ) (xs : List ℕ) → run ≤ n → n ≤ length xs → HasNoEscape (take run xs)
    → frame_upto n frame at xs ≡ frame_upto (n - run) frame (at + run) (drop run xs)
passed-upto zero n frame at xs few long still =
    let same : at ≡ at + 0 = omega arith in
    let all : n ≡ n - 0 = omega arith in
    ap (λ k. frame_upto n frame k xs) same ∙ ap (λ m. frame_upto m frame (at + 0) xs) all
passed-upto (suc run) zero frame at xs few long still = absurd (omega (arith, few))
passed-upto (suc run) (suc n) frame at [] few long still = absurd (omega (arith, long))
passed-upto (suc run) (suc n) frame at (b ∷ xs) few long still =
    let next : at + 1 + run ≡ at + suc run = omega arith in
    let left : n - run ≡ suc n - suc run = omega arith in
    ap (λ f. frame_upto n f (at + 1) xs) (no-change frame at b xs still.0)
    ∙ passed-upto run n frame (at + 1) xs (omega (arith, few)) (omega (arith, long)) still.1
    ∙ ap (λ k. frame_upto (n - run) frame k (drop run xs)) next ∙ ap (λ m. frame_upto m frame (at + suc run) (drop run xs)) left

one-upto : (n : ℕ) (frame : Option ℕ) (at : ℕ) (xs : List ℕ) → 0 < n → 0 < length xs
    → frame_upto n frame at xs ≡ frame_upto (n - 1) (frame_with frame at xs) (at + 1) (drop 1 xs)
one-upto zero frame at xs some long = absurd (omega (arith, some))
one-upto (suc n) frame at [] some long = absurd (omega (arith, long))
one-upto (suc n) frame at (b ∷ xs) some long =
    let left : n ≡ suc n - 1 = omega arith in ap (λ m. frame_upto m (frame_with frame at (b ∷ xs)) (at + 1) xs) left

-- the same, of the rest of some bytes from a place on
pub run-upto : (count : ℕ) (frame : Option ℕ) (at run : ℕ) (bytes : List ℕ) → at + run ≤ count → count - at ≤ length (drop at bytes)
    → HasNoEscape (take run (take (count - at) (drop at bytes)))
    → frame_upto (count - at) frame at (drop at bytes) ≡ frame_upto (count - (at + run)) frame (at + run) (drop (at + run) bytes)
run-upto count frame at run bytes few long still =
    let left : count - at - run ≡ count - (at + run) = omega arith in
    passed-upto run (count - at) frame at (drop at bytes) (omega (arith, few)) long
    (still-in run (count - at) (drop at bytes) (omega (arith, few)) still)
    ∙ ap (frame_upto (count - at - run) frame (at + run)) (drop-drop run at bytes)
    ∙ ap (λ n. frame_upto n frame (at + run) (drop (at + run) bytes)) left

pub step-upto : (count : ℕ) (frame : Option ℕ) (at : ℕ) (bytes : List ℕ) → at < count → 0 < length (drop at bytes)
    → frame_upto (count - at) frame at (drop at bytes)
    ≡ frame_upto (count - (at + 1)) (frame_with frame at (drop at bytes)) (at + 1) (drop (at + 1) bytes)
step-upto count frame at bytes less some =
    let left : count - at - 1 ≡ count - (at + 1) = omega arith in
    one-upto (count - at) frame at (drop at bytes) (omega (arith, less)) some
    ∙ ap (frame_upto (count - at - 1) (frame_with frame at (drop at bytes)) (at + 1)) (drop-drop 1 at bytes)
    ∙ ap (λ n. frame_upto n (frame_with frame at (drop at bytes)) (at + 1) (drop (at + 1) bytes)) left

-- without a question mark none begins and none ends
pub none-upto : (n : ℕ) (frame : Option ℕ) (at : ℕ) (xs : List ℕ) → HasNoMark xs → frame_upto n frame at xs ≡ frame
none-upto zero frame at xs h = refl
none-upto (suc n) frame at [] h = refl
none-upto (suc n) frame at (b ∷ xs) h =
    ap (λ t. frame_upto n (if t then None else if opens (b ∷ xs) then opened_at frame at else frame) (at + 1) xs) (unmarked 0x6C (b ∷ xs) h)
    ∙ ap (λ t. frame_upto n (if t then opened_at frame at else frame) (at + 1) xs) (unmarked 0x68 (b ∷ xs) h)
    ∙ none-upto n frame (at + 1) xs h.1
