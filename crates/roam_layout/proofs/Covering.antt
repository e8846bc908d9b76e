-- The panes and borders of a tree cover its rectangle, each place once.
use Rattle.std.proofs.Common.{◌≡◌, ℕ, ℤ, pos, negsuc, ◌+◌, ◌-◌, ◌≤◌, Bool, true, false, ◌&&◌, cond, refl, inl, inr, List, [], ◌∷◌, ◌++◌, arith, ◌+ℤ◌}
use Rattle.std.proofs.lemmas.Bool.{cases_lt}
use Rattle.roam_layout.specs.Trees.{Shape, One, Two, least_rows, least_cols}
use Rattle.roam_layout.specs.Rects.{rects_of, borders, within, once, hits, Covers, nearest_in_range, middle, first_length, front, part, Fits}
use Rattle.roam_layout.specs.declared.rects.Way.TheVariants.{Right, Down}
use Rattle.roam_layout.specs.declared.rects.Rect.{Rect}

pub pushed_in : (g : ℤ) (low high : ℕ) → low ≤ high → (low ≤ nearest_in_range g low high) × (nearest_in_range g low high ≤ high)
pushed_in (pos n) low high le = (omega arith, omega arith)
pushed_in (negsuc n) low high le = (omega arith, le)

pub across_in : (g : ℤ) (a b : Shape) (r : Rect) → Fits (Two Right g a b) r
    → (least_cols a ≤ first_length Right g a b r) × (first_length Right g a b r + 1 + least_cols b ≤ r.cols)
across_in g a b r h =
    let in_range = pushed_in (pos (middle r.cols) +ℤ g) (least_cols a) (r.cols - 1 - least_cols b) (omega (arith, h.1))
    in (in_range.0, omega (arith, in_range.1, h.1))

pub down_in : (g : ℤ) (a b : Shape) (r : Rect) → Fits (Two Down g a b) r
    → (least_rows a ≤ first_length Down g a b r) × (first_length Down g a b r + 1 + least_rows b ≤ r.rows)
down_in g a b r h =
    let in_range = pushed_in (pos (middle r.rows) +ℤ g) (least_rows a) (r.rows - 1 - least_rows b) (omega (arith, h.0))
    in (in_range.0, omega (arith, in_range.1, h.0))

pub hits-append : {A : Type 0} (r c : ℕ) (xs ys : List (A × Rect)) → hits r c (xs ++ ys) ≡ hits r c xs + hits r c ys
hits-append r c [] ys = omega arith
hits-append r c (x ∷ xs) ys = omega (arith, hits-append r c xs ys)

within_parts : (first n w k : ℕ) → n + 1 ≤ w
    → cond (within first n k) 1 0 + cond (within (first + n) 1 k) 1 0 + cond (within (first + (n + 1)) (w - n - 1) k) 1 0 ≡ cond
    (within first w k) 1 0
within_parts first n w k le =
    elim (cases_lt k first) [
      | inl below ↦ grind arith
      | inr above ↦ elim (cases_lt k (first + n)) [
        | inl left ↦ grind arith
        | inr right ↦ elim (cases_lt k (first + (n + 1))) [ inl border ↦ grind arith | inr second ↦ grind arith ]
      ]
    ]

both_right : (p a b c d : Bool) → cond a 1 0 + cond b 1 0 + cond c 1 0 ≡ cond d 1 0
    → cond (p && a) 1 0 + cond (p && b) 1 0 + cond (p && c) 1 0 ≡ cond (p && d) 1 0
both_right true a b c d h = h
both_right false a b c d h = refl

and-true : (a : Bool) → (a && true) ≡ a
and-true true = refl
and-true false = refl

and-false : (a : Bool) → (a && false) ≡ false
and-false true = refl
and-false false = refl

both_left : (p a b c d : Bool) → cond a 1 0 + cond b 1 0 + cond c 1 0 ≡ cond d 1 0
    → cond (a && p) 1 0 + cond (b && p) 1 0 + cond (c && p) 1 0 ≡ cond (d && p) 1 0
both_left true a b c d h = rw (and-true a, and-true b, and-true c, and-true d) h
both_left false a b c d h = rw (and-false a, and-false b, and-false c, and-false d) refl

pub once_across : (n r c : ℕ) (x : Rect) → n + 1 ≤ x.cols
    → once r c (front Right n x) + once r c (part Right n 1 x) + once r c (part Right (n + 1) (x.cols - n - 1) x) ≡ once r c x
once_across n r c x le =
    both_right (within x.row x.rows r) (within x.col n c) (within (x.col + n) 1 c) (within (x.col + (n + 1)) (x.cols - n - 1) c)
    (within x.col x.cols c)
    (within_parts x.col n x.cols c le)

pub once_down : (n r c : ℕ) (x : Rect) → n + 1 ≤ x.rows
    → once r c (front Down n x) + once r c (part Down n 1 x) + once r c (part Down (n + 1) (x.rows - n - 1) x) ≡ once r c x
once_down n r c x le =
    both_left (within x.col x.cols c) (within x.row n r) (within (x.row + n) 1 r) (within (x.row + (n + 1)) (x.rows - n - 1) r)
    (within x.row x.rows r)
    (within_parts x.row n x.rows r le)

pub covered : (t : Shape) (x : Rect) → Fits t x → Covers (rects_of t x) (borders t x) x
covered (One p) x fits r c = omega arith
covered (Two Right g a b) x fits r c =
    let n = first_length Right g a b x in
    let bounds = across_in g a b x fits in
    let left = covered a (front Right n x) (omega (arith, fits.0), bounds.0) r c in
    let right = covered b (part Right (n + 1) (x.cols - n - 1) x) (omega (arith, fits.0), omega (arith, bounds.1)) r c in
    let whole = once_across n r c x (omega (arith, bounds.1)) in
    let panes = hits-append r c (rects_of a (front Right n x)) (rects_of b (part Right (n + 1) (x.cols - n - 1) x)) in
    let edges = hits-append r c (borders a (front Right n x))
    ((Right, part Right n 1 x) ∷ borders b (part Right (n + 1) (x.cols - n - 1) x)) in
    omega (arith, left, right, whole, panes, edges)
covered (Two Down g a b) x fits r c =
    let n = first_length Down g a b x in
    let bounds = down_in g a b x fits in
    let upper = covered a (front Down n x) (bounds.0, omega (arith, fits.1)) r c in
    let lower = covered b (part Down (n + 1) (x.rows - n - 1) x) (omega (arith, bounds.1), omega (arith, fits.1)) r c in
    let whole = once_down n r c x (omega (arith, bounds.1)) in
    let panes = hits-append r c (rects_of a (front Down n x)) (rects_of b (part Down (n + 1) (x.rows - n - 1) x)) in
    let edges = hits-append r c (borders a (front Down n x)) ((Down, part Down n 1 x) ∷ borders b (part Down (n + 1) (x.rows - n - 1) x)) in
    omega (arith, upper, lower, whole, panes, edges)
