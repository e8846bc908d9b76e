-- The beginnings and ends of synchronized updates, however the bytes are cut, and the rest once some bytes went on.
use Rattle.std.proofs.Common.{◌≡◌, ◌<◌, ◌≤◌, ◌+◌, ℕ, zero, suc, Bool, true, false, List, [], ◌∷◌, ◌++◌, length, take, drop, Option, None, Some, length-append, refl, sym, ap, ◌∙◌, arith, if◌then◌else◌}
use Rattle.std.specs.Prelude.{◌==◌, ◌&&◌, IfSome, nat_lt, slice_index}
use Rattle.std.proofs.lemmas.List.{append-nil, drop-drop}
use Rattle.std.proofs.Math.Seq.{drop-append_seam}
use Rattle.std.proofs.lemmas.Bool.{lt-ltb}
use Rattle.memchr.specs.Find.{is_byte}
use Rattle.roam_pane_sockets.specs.Frames.{HasNoEscape, HasNoMark, frame_after, frame_with, free_before, opened_at, opens, sets_frame}

-- without ESC neither begins
no-set : (last b : ℕ) (rest : List ℕ) → (b == 0x1B) ≡ false → sets_frame last (b ∷ rest) ≡ false
no-set last b [] e = refl
no-set last b (c ∷ []) e = refl
no-set last b (c ∷ d ∷ []) e = refl
no-set last b (c ∷ d ∷ f ∷ []) e = refl
no-set last b (c ∷ d ∷ f ∷ g ∷ []) e = refl
no-set last b (c ∷ d ∷ f ∷ g ∷ h ∷ []) e = refl
no-set last b (c ∷ d ∷ f ∷ g ∷ h ∷ i ∷ []) e = refl
no-set last b (c ∷ d ∷ f ∷ g ∷ h ∷ i ∷ j ∷ rest) e =
    ap (λ t. t && (c == 0x5B && (d == 0x3F && (f == 0x32 && (g == 0x30 && (h == 0x32 && (i == 0x36 && j == last))))))) e

pub no-change : (frame : Option ℕ) (at b : ℕ) (rest : List ℕ) → (b == 0x1B) ≡ false → frame_with frame at (b ∷ rest) ≡ frame
no-change frame at b rest e =
    ap (λ t. if t then None else if opens (b ∷ rest) then opened_at frame at else frame) (no-set 0x6C b rest e)
    ∙ ap (λ t. if t then opened_at frame at else frame) (no-set 0x68 b rest e)

-- bytes without ESC are passed over
passed-over : (run : ℕ) (frame : Option ℕ) (at : ℕ) (xs : List ℕ) → run ≤ length xs → HasNoEscape (take run xs)
    → frame_after frame at xs ≡ frame_after frame (at + run) (drop run xs)
passed-over zero frame at xs few still = let same : at ≡ at + 0 = omega arith in ap (λ k. frame_after frame k xs) same
passed-over (suc n) frame at [] few still = absurd (omega (arith, few))
passed-over (suc n) frame at (b ∷ xs) few still =
    let next : at + 1 + n ≡ at + suc n = omega arith in
    ap (λ f. frame_after f (at + 1) xs) (no-change frame at b xs still.0)
    ∙ passed-over n frame (at + 1) xs (omega (arith, few)) still.1
    ∙ ap (λ k. frame_after frame k (drop n xs)) next

one-more : (frame : Option ℕ) (at : ℕ) (xs : List ℕ) → 0 < length xs
    → frame_after frame at xs ≡ frame_after (frame_with frame at xs) (at + 1) (drop 1 xs)
one-more frame at [] some = absurd (omega (arith, some))
one-more frame at (b ∷ xs) some = refl

-- the same, of the rest of some bytes from a place on
pub run-over : (frame : Option ℕ) (at run : ℕ) (bytes : List ℕ) → run ≤ length (drop at bytes) → HasNoEscape (take run (drop at bytes))
    → frame_after frame at (drop at bytes) ≡ frame_after frame (at + run) (drop (at + run) bytes)
run-over frame at run bytes few still =
    passed-over run frame at (drop at bytes) few still ∙ ap (frame_after frame (at + run)) (drop-drop run at bytes)

pub step-over : (frame : Option ℕ) (at : ℕ) (bytes : List ℕ) → 0 < length (drop at bytes)
    → frame_after frame at (drop at bytes) ≡ frame_after (frame_with frame at (drop at bytes)) (at + 1) (drop (at + 1) bytes)
step-over frame at bytes some =
    one-more frame at (drop at bytes) some ∙ ap (frame_after (frame_with frame at (drop at bytes)) (at + 1)) (drop-drop 1 at bytes)

-- a byte that isn't the one that is looked for
not-byte : (b : ℕ) → (is_byte 0x1B b ≡ true → ⊥) → (b == 0x1B) ≡ false
not-byte b never = by (b == 0x1B) refl
  where
    by : (t : Bool) → (b == 0x1B) ≡ t → (b == 0x1B) ≡ false
    by false is = is
    by true is = absurd (never is)

pub no-escape : (n : ℕ) (bytes : List ℕ) → n ≤ length bytes → ((k : ℕ) → k < n → is_byte 0x1B (slice_index bytes k) ≡ true → ⊥)
    → HasNoEscape (take n bytes)
no-escape zero bytes few never = tt
no-escape (suc n) [] few never = absurd (omega (arith, few))
no-escape (suc n) (b ∷ bytes) few never = (
  not-byte b (never 0 (omega arith)),
  no-escape n bytes (omega (arith, few)) (λ k less. never (suc k) (omega (arith, less))),
)

-- a beginning before one place is before a later place too
pub within-more : (frame : Option ℕ) (a b : ℕ) → a ≤ b → IfSome frame (λ begin. begin ≤ a) → IfSome frame (λ begin. begin ≤ b)
within-more None a b more h = tt
within-more (Some begin) a b more h = omega (arith, more, h)

-- ---- appended bytes

none-left : (xs : List ℕ) → length xs ≡ 0 → xs ≡ []
none-left [] none = refl
none-left (x ∷ xs) none = absurd (omega (arith, none))

-- while nothing may go on, every byte is ready
pub none-later : (frame : Option ℕ) (ready later : List ℕ) → IfSome frame (λ begin. (begin ≤ length ready) × (later ≡ []))
    → free_before frame (ready ++ later) ≡ 0 → later ≡ []
none-later None ready later h free = none-left later (omega (arith, free, length-append ready later))
none-later (Some begin) ready later h free = h.1

-- the beginning of an update behind the appended bytes, once all are appended
pub framed : (frame result : Option ℕ) (from : ℕ) (old new chunk rest : List ℕ) → from ≡ length old → new ++ rest ≡ old ++ chunk
    → (rest ≡ [] → result ≡ frame_after frame from (drop from new)) → rest ≡ [] → result ≡ frame_after frame (length old) chunk
framed frame result from old new chunk rest at all is none =
    let same : new ≡ old ++ chunk = sym (append-nil new) ∙ ap (λ l. new ++ l) (sym none) ∙ all in
    is none ∙ ap (λ k. frame_after frame k (drop k new)) at ∙ ap (λ l. frame_after frame (length old) (drop (length old) l)) same
    ∙ ap (frame_after frame (length old)) (drop-append_seam old chunk)

-- no byte is left over
true-not-false : true ≡ false → ⊥
true-not-false e = cc

pub not-short : (later : List ℕ) → nat_lt 0 (length later) ≡ false → later ≡ []
not-short [] none = refl
not-short (x ∷ later) none = absurd (true-not-false (sym (lt-ltb 0 (length (x ∷ later)) (omega arith)) ∙ none))

pub is-short : (later : List ℕ) → nat_lt 0 (length later) ≡ true → later ≡ [] → ⊥
is-short [] some none = true-not-false (sym some)
is-short (x ∷ later) some none = cc

pub first-none : (xs ys : List ℕ) → xs ++ ys ≡ [] → xs ≡ []
first-none [] ys e = refl
first-none (x ∷ xs) ys e = cc

-- ---- without a question mark

and-false : (t : Bool) → t && false ≡ false
and-false true = refl
and-false false = refl

pub unmarked : (last : ℕ) (xs : List ℕ) → HasNoMark xs → sets_frame last xs ≡ false
unmarked last [] h = refl
unmarked last (a ∷ []) h = refl
unmarked last (a ∷ b ∷ []) h = refl
unmarked last (a ∷ b ∷ c ∷ []) h = refl
unmarked last (a ∷ b ∷ c ∷ d ∷ []) h = refl
unmarked last (a ∷ b ∷ c ∷ d ∷ e ∷ []) h = refl
unmarked last (a ∷ b ∷ c ∷ d ∷ e ∷ f ∷ []) h = refl
unmarked last (a ∷ b ∷ c ∷ d ∷ e ∷ f ∷ g ∷ []) h = refl
unmarked last (a ∷ b ∷ c ∷ d ∷ e ∷ f ∷ g ∷ i ∷ rest) h =
    ap (λ t. a == 0x1B && (b == 0x5B && (t && (d == 0x32 && (e == 0x30 && (f == 0x32 && (g == 0x36 && i == last))))))) h.1.1.0
    ∙ ap (λ t. a == 0x1B && t) (and-false (b == 0x5B)) ∙ and-false (a == 0x1B)

pub none-changes : (frame : Option ℕ) (at : ℕ) (xs : List ℕ) → HasNoMark xs → frame_after frame at xs ≡ frame
none-changes frame at [] h = refl
none-changes frame at (b ∷ xs) h =
    ap (λ t. frame_after (if t then None else if opens (b ∷ xs) then opened_at frame at else frame) (at + 1) xs) (unmarked 0x6C (b ∷ xs) h)
    ∙ ap (λ t. frame_after (if t then opened_at frame at else frame) (at + 1) xs) (unmarked 0x68 (b ∷ xs) h)
    ∙ none-changes frame (at + 1) xs h.1

not-mark : (b : ℕ) → (is_byte 0x3F b ≡ true → ⊥) → (b == 0x3F) ≡ false
not-mark b never = by (b == 0x3F) refl
  where
    by : (t : Bool) → (b == 0x3F) ≡ t → (b == 0x3F) ≡ false
    by false is = is
    by true is = absurd (never is)

pub no-mark : (bytes : List ℕ) → ((k : ℕ) → k < length bytes → is_byte 0x3F (slice_index bytes k) ≡ true → ⊥) → HasNoMark bytes
no-mark [] never = tt
no-mark (b ∷ bytes) never = (
  not-mark b (never 0 (omega arith)),
  no-mark bytes (λ k less. never (suc k) (omega (arith, less))),
)
