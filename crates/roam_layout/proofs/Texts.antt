-- The status text: its labels, and that it is printable.
use Rattle.std.proofs.Common.{◌≡◌, ℕ, ◌+◌, ◌^◌, ◌<◌, ◌≤◌, ◌%◌, eqb, List, [], ◌∷◌, ◌++◌, take, replicate, refl, sym, subst, ◌∙◌, arith}
use Rattle.std.specs.Prelude.{slice_index, decimal, codes}
use Rattle.std.specs.List.{All}
use Rattle.std.proofs.lemmas.Bool.{cond_both}
use Rattle.std.proofs.lemmas.Fmt.{decimal_by_steps}
use Rattle.std.proofs.lemmas.List.Elements.{All-nil, All-cons, All-append, All-replicate, All-take}
use Rattle.std.specs.List.{flat_map}
use Rattle.std.proofs.lemmas.Grind.{flat_map-append}
use Rattle.roam_layout.specs.Trees.{Shape, One, Two, leaves, AreNumbers}
use Rattle.roam_layout.specs.Rects.{rects_of, first_part, second_part}
use Rattle.roam_layout.specs.Status.{label, view_text, status, status_row, IsPrintable}
use Rattle.roam_layout.specs.Layouts.{Plan, area}
use Rattle.roam_layout.specs.declared.rects.Rect.{Rect}

pub labels_placed : (f : ℕ) (t : Shape) (r : Rect) → flat_map (λ (x : ℕ × Rect). label f x.0) (rects_of t r) ≡ flat_map (label f) (leaves t)
labels_placed f (One p) r = refl
labels_placed f (Two w g a b) r =
    flat_map-append (λ (x : ℕ × Rect). label f x.0) (rects_of a (first_part w g a b r)) (rects_of b (second_part w g a b r))
    ∙ (λ i. labels_placed f a (first_part w g a b r) i ++ labels_placed f b (second_part w g a b r) i)
    ∙ sym (flat_map-append (label f) (leaves a) (leaves b))

-- labels, view and padding, one after the other
pub row_done : (s : Plan) (focus : ℕ) (panes : List (ℕ × Rect)) (view cols : ℕ) (none labels text row : List ℕ)
    → none ≡ [] → focus ≡ s.focus → panes ≡ rects_of s.tree (area s.rows s.cols) → view ≡ slice_index s.views s.focus → cols ≡ s.cols
    → labels ≡ none ++ flat_map (λ (x : ℕ × Rect). label focus x.0) panes → text ≡ labels ++ view_text view
    → row ≡ take cols (text ++ replicate cols 32) → row ≡ status_row s
row_done s focus panes view cols none labels text row en ef ep ev ec el et er =
    rw (er, et, el, en, ef, ep, ev, ec, labels_placed s.focus s.tree (area s.rows s.cols)) refl

-- ---- printable

one_printable : (c : ℕ) → 0x20 ≤ c → c < 0x7F → All IsPrintable (c ∷ [])
one_printable c low high = All-cons IsPrintable c [] (low, high) (All-nil IsPrintable)

decimal_printable : (n : ℕ) → n < 2 ^ 64 → All IsPrintable (decimal n)
decimal_printable n h =
    decimal_by_steps (λ n ds. All IsPrintable ds) (λ n h. one_printable (48 + n) (omega arith) (omega (arith, h)))
    (λ n ds h all. All-append IsPrintable ds ((48 + n % 10) ∷ []) all (one_printable (48 + n % 10) (omega arith) (omega arith)))
    n h

label_printable : (f p : ℕ) → p ≤ 9 → All IsPrintable (label f p)
label_printable f p h =
    let number = decimal_printable p (omega (arith, h)) in
    cond_both (eqb p f) (codes "[" ++ decimal p ++ codes "]") (codes " " ++ decimal p ++ codes " ") (λ (l : List ℕ). All IsPrintable l)
    (λ _. All-append IsPrintable (codes "[" ++ decimal p) (codes "]")
    (All-append IsPrintable (codes "[") (decimal p) (one_printable 91 (omega arith) (omega arith)) number)
    (one_printable 93 (omega arith) (omega arith)))
    (λ _. All-append IsPrintable (codes " " ++ decimal p) (codes " ")
    (All-append IsPrintable (codes " ") (decimal p) (one_printable 32 (omega arith) (omega arith)) number)
    (one_printable 32 (omega arith) (omega arith)))

labels_printable : (f : ℕ) (t : Shape) → AreNumbers t → All IsPrintable (flat_map (label f) (leaves t))
labels_printable f (One p) h = All-append IsPrintable (label f p) [] (label_printable f p h.1) (All-nil IsPrintable)
labels_printable f (Two w g a b) h =
    subst (λ (l : List ℕ). All IsPrintable l) (sym (flat_map-append (label f) (leaves a) (leaves b)))
    (All-append IsPrintable (flat_map (label f) (leaves a)) (flat_map (label f) (leaves b)) (labels_printable f a h.0)
    (labels_printable f b h.1))

view_printable : (v : ℕ) → v < 2 ^ 64 → All IsPrintable (view_text v)
view_printable v h =
    cond_both (eqb v 0) [] (codes " ^" ++ decimal v) (λ (l : List ℕ). All IsPrintable l) (λ _. All-nil IsPrintable)
    (λ _. All-append IsPrintable (codes " ^") (decimal v)
    (All-cons IsPrintable 32 (94 ∷ []) (omega arith, omega arith) (one_printable 94 (omega arith) (omega arith)))
    (decimal_printable v h))

pub row_printable : (s : Plan) (view : ℕ) → AreNumbers s.tree → view ≡ slice_index s.views s.focus → view < 2 ^ 64
    → All IsPrintable (status_row s)
row_printable s view numbers e h =
    All-take IsPrintable s.cols (status s ++ replicate s.cols 32)
    (All-append IsPrintable (status s) (replicate s.cols 32)
    (All-append IsPrintable (flat_map (label s.focus) (leaves s.tree)) (view_text (slice_index s.views s.focus))
    (labels_printable s.focus s.tree numbers)
    (view_printable (slice_index s.views s.focus) (omega (arith, e, h))))
    (All-replicate IsPrintable s.cols 32 (omega arith, omega arith)))
