-- The rectangles of a layout's panes: their sizes, and that each is found by its number.
use Rattle.std.proofs.Common.{◌≡◌, ℕ, zero, suc, ◌+◌, ◌<◌, ◌≤◌, Bool, true, false, cond, eqb, List, [], ◌∷◌, ◌++◌, length, get_or, Some, None, refl, ap, ◌∙◌, subst, arith}
use Rattle.std.proofs.lemmas.Bool.{eqb-true, eq-eqb, ne_eqb}
use Rattle.roam_cells.specs.Limits.{IsSize}
use Rattle.roam_layout.specs.Trees.{Shape, One, Two, times, AreNumbers}
use Rattle.roam_layout.specs.Rects.{rects_of, first_part, second_part, first_length, rect_in, Fits}
use Rattle.roam_layout.specs.Layouts.{Plan, IsPlan, area, panes}
use Rattle.roam_layout.proofs.Covering.{across_in, down_in}
use Rattle.roam_layout.specs.declared.rects.Way.TheVariants.{Right, Down}
use Rattle.roam_layout.specs.declared.rects.Rect.{Rect}

-- ---- sizes

-- a property of each entry of a list
abbrev Each : (ℕ × Rect → Type 0) → List (ℕ × Rect) → Type 0
Each P [] = Unit {0}
Each P (x ∷ xs) = P x × Each P xs

each-append : (P : ℕ × Rect → Type 0) (xs ys : List (ℕ × Rect)) → Each P xs → Each P ys → Each P (xs ++ ys)
each-append P [] ys h k = k
each-append P (x ∷ xs) ys h k = (h.0, each-append P xs ys h.1 k)

found_in : (P : ℕ × Rect → Type 0) (p : ℕ) (r : Rect) (xs : List (ℕ × Rect)) → Each P xs → rect_in p xs ≡ Some r → P (p, r)
found_in P p r [] h e = cc
found_in P p r (x ∷ xs) h e = by_case (found_in P p r xs h.1) (eqb x.0 p) refl e
  where
    by_case : (rect_in p xs ≡ Some r → P (p, r)) → (v : Bool) → eqb x.0 p ≡ v → cond v (Some x.1) (rect_in p xs) ≡ Some r → P (p, r)
    by_case rest true is at =
        let same : x.1 ≡ r = cc in
        subst (λ (s : Rect). P (p, s)) same (subst (λ (n : ℕ). P (n, x.1)) (eqb-true x.0 p is) h.0)
    by_case rest false is at = rest at

none_in : (p : ℕ) (xs : List (ℕ × Rect)) → Each (λ x. eqb x.0 p ≡ false) xs → rect_in p xs ≡ None
none_in p [] h = refl
none_in p (x ∷ xs) h = ap (λ v. cond v (Some x.1) (rect_in p xs)) h.0 ∙ none_in p xs h.1

abbrev HasScreenSize : ℕ × Rect → Type 0
HasScreenSize x = IsSize x.1.rows x.1.cols

sizes_placed : (t : Shape) (r : Rect) → Fits t r → r.rows ≤ 200 → r.cols ≤ 500 → Each HasScreenSize (rects_of t r)
sizes_placed (One p) r fits rows cols = (record { least_rows = fits.0; most_rows = rows; least_columns = fits.1; most_columns = cols }, tt)
sizes_placed (Two Right g a b) r fits rows cols =
    let n = first_length Right g a b r in
    let bounds = across_in g a b r fits in
    each-append HasScreenSize (rects_of a (first_part Right g a b r)) (rects_of b (second_part Right g a b r))
    (sizes_placed a (first_part Right g a b r) (omega (arith, fits.0), bounds.0) rows (omega (arith, bounds.1, cols)))
    (sizes_placed b (second_part Right g a b r) (omega (arith, fits.0), omega (arith, bounds.1)) rows (omega (arith, cols)))
sizes_placed (Two Down g a b) r fits rows cols =
    let n = first_length Down g a b r in
    let bounds = down_in g a b r fits in
    each-append HasScreenSize (rects_of a (first_part Down g a b r)) (rects_of b (second_part Down g a b r))
    (sizes_placed a (first_part Down g a b r) (bounds.0, omega (arith, fits.1)) (omega (arith, bounds.1, rows)) cols)
    (sizes_placed b (second_part Down g a b r) (omega (arith, bounds.1), omega (arith, fits.1)) (omega (arith, rows)) cols)

-- each rectangle of a layout is of a size that a screen may have
pub sizes_in : (s : Plan) → IsPlan s → (k : ℕ) (r : Rect) → rect_in k (panes s) ≡ Some r → IsSize r.rows r.cols
sizes_in s plan k r e =
    let size = plan.size in
    found_in HasScreenSize k r (panes s)
    (sizes_placed s.tree (area s.rows s.cols) plan.fits (omega (arith, size.1)) size.3) e

-- ---- numbers

numbers_placed : (p : ℕ) (t : Shape) (r : Rect) → AreNumbers t → 10 ≤ p → Each (λ x. eqb x.0 p ≡ false) (rects_of t r)
numbers_placed p (One q) r numbers high = (ne_eqb q p (λ e. omega (arith, e, numbers.1, high)), tt)
numbers_placed p (Two w g a b) r numbers high =
    each-append (λ x. eqb x.0 p ≡ false) (rects_of a (first_part w g a b r)) (rects_of b (second_part w g a b r))
    (numbers_placed p a (first_part w g a b r) numbers.0 high) (numbers_placed p b (second_part w g a b r) numbers.1 high)

-- no pane has a number above 9
pub none_above : (s : Plan) → IsPlan s → (p : ℕ) → 10 ≤ p → rect_in p (panes s) ≡ None
none_above s plan p high = none_in p (panes s) (numbers_placed p s.tree (area s.rows s.cols) plan.numbers high)

-- ---- each is found

abbrev counts : ℕ → List (ℕ × Rect) → ℕ
counts p [] = 0
counts p (x ∷ xs) = cond (eqb x.0 p) 1 0 + counts p xs

counts-append : (p : ℕ) (xs ys : List (ℕ × Rect)) → counts p (xs ++ ys) ≡ counts p xs + counts p ys
counts-append p [] ys = omega arith
counts-append p (x ∷ xs) ys = omega (arith, counts-append p xs ys)

counts_placed : (p : ℕ) (t : Shape) (x : Rect) → counts p (rects_of t x) ≡ times p t
counts_placed p (One q) x = omega arith
counts_placed p (Two w g a b) x =
    omega (
      arith,
      counts-append p (rects_of a (first_part w g a b x)) (rects_of b (second_part w g a b x)),
      counts_placed p a (first_part w g a b x),
      counts_placed p b (second_part w g a b x),
    )

abbrev one_if : Bool → ℕ
one_if v = cond v 1 0

once_at : (n p : ℕ) → n ≡ p → one_if (eqb n p) ≡ 1
once_at n p e = ap one_if (eq-eqb n p e)

counts_at : (xs : List (ℕ × Rect)) (k : ℕ) (d : ℕ × Rect) → k < length xs → 1 ≤ counts (get_or xs k d).0 xs
counts_at [] k d h = absurd (omega (arith, h))
counts_at (x ∷ xs) zero d h = let one = once_at x.0 x.0 refl in omega (arith, one)
counts_at (x ∷ xs) (suc k) d h = let rest = counts_at xs k d (omega (arith, h)) in omega (arith, rest)

finds_itself : (xs : List (ℕ × Rect)) → ((p : ℕ) → counts p xs ≤ 1) → (k : ℕ) (d : ℕ × Rect) → k < length xs
    → rect_in (get_or xs k d).0 xs ≡ Some (get_or xs k d).1
finds_itself [] once k d h = absurd (omega (arith, h))
finds_itself (y ∷ xs) once zero d h = ap (λ v. cond v (Some y.1) (rect_in y.0 xs)) (eq-eqb y.0 y.0 refl)
finds_itself (y ∷ xs) once (suc k) d h =
    let z = get_or xs k d in
    let there = counts_at xs k d (omega (arith, h)) in
    let other : eqb y.0 z.0 ≡ false = ne_eqb y.0 z.0 (λ e.
    let one = once_at y.0 z.0 e in
    omega (arith, once z.0, there, one)) in
    ap (λ v. cond v (Some y.1) (rect_in z.0 xs)) other ∙ finds_itself xs (λ p. omega (arith, once p)) k d (omega (arith, h))

-- a pane of a layout is found by its number
pub found_by_number : (s : Plan) → IsPlan s → (k : ℕ) (d : ℕ × Rect) → k < length (panes s)
    → rect_in (get_or (panes s) k d).0 (panes s) ≡ Some (get_or (panes s) k d).1
found_by_number s plan k d h =
    finds_itself (panes s) (λ p. omega (arith, counts_placed p s.tree (area s.rows s.cols), plan.distinct p)) k d h
