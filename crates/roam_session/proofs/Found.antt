-- The entry at a place in two lists of rectangles that agree in its row.
use Rattle.std.proofs.Common.{◌≡◌, ℕ, suc, ◌+◌, ◌<◌, ◌≤◌, Bool, true, false, not, ◌&&◌, ◌||◌, cond, eqb, inl, inr, ◌⊎◌, List, [], ◌∷◌, length, get_or, Option, Some, None, refl, sym, ap, ◌∙◌, arith}
use Rattle.std.specs.List.{list_any}
use Rattle.std.proofs.lemmas.Bool.{and_parts, eqb-true}
use Rattle.roam_layout.specs.Rects.{within, inside, once, hits}
use Rattle.roam_layout.specs.Faces.{first_with_place}
use Rattle.roam_layout.specs.declared.rects.Rect.{Rect}
use Rattle.roam_layout.specs.declared.rects.Way.{Way}
use Rattle.roam_layout.specs.declared.rects.Way.TheVariants.{Right, Down}
use Rattle.roam_session.specs.Marks.{is_same_rect, is_same_way, is_same_pane, is_same_border, loses_pane, loses_border}

-- an entry of a list
abbrev pub In : {A : Type 0} → A → List A → Type 0
In x [] = ⊥
In x (y ∷ ys) = (x ≡ y) ⊎ In x ys

-- the found value is an entry, and has the place
pub record IsFound {A : Type 0} (r c : ℕ) (x : A × Rect) (xs : List (A × Rect)) : Type 0 where
  pub there : In x xs
  pub has : inside r c x.1 ≡ true

pub found_is : {A : Type 0} (r c : ℕ) (x : A × Rect) (xs : List (A × Rect)) → first_with_place r c xs ≡ Some x → IsFound r c x xs
found_is r c x [] e = absurd cc
found_is {A} r c x (y ∷ ys) e = by_case (found_is r c x ys) (inside r c y.1) refl e
  where
    by_case : (first_with_place r c ys ≡ Some x → IsFound r c x ys) → (v : Bool) → inside r c y.1 ≡ v → cond v (Some y) (first_with_place r c ys) ≡ Some x
        → IsFound r c x (y ∷ ys)
    by_case rest true is at =
        let same : y ≡ x = cc in
        record { there = inl (sym same); has = sym (ap (λ (z : A × Rect). inside r c z.1) same) ∙ is }
    by_case rest false is at = let h = rest at in record { there = inr h.there; has = h.has }

-- an entry that has the place is counted
hit : {A : Type 0} (r c : ℕ) (x : A × Rect) (xs : List (A × Rect)) → In x xs → inside r c x.1 ≡ true → 1 ≤ hits r c xs
hit r c x [] i h = absurd i
hit {A} r c x (y ∷ ys) (inl e) h =
    let one : once r c y.1 ≡ 1 = ap (λ b. cond b 1 0) (sym (ap (λ (z : A × Rect). inside r c z.1) e) ∙ h) in
    omega (arith, one)
hit r c x (y ∷ ys) (inr i) h = omega (arith, hit r c x ys i h)

-- the only one that has the place is found
only : {A : Type 0} (r c : ℕ) (x : A × Rect) (xs : List (A × Rect)) → hits r c xs ≤ 1 → In x xs → inside r c x.1 ≡ true
    → first_with_place r c xs ≡ Some x
only r c x [] few i h = absurd i
only {A} r c x (y ∷ ys) few (inl e) h =
    ap (λ b. cond b (Some y) (first_with_place r c ys)) (sym (ap (λ (z : A × Rect). inside r c z.1) e) ∙ h) ∙ ap Some (sym e)
only r c x (y ∷ ys) few (inr i) h = by_case (inside r c y.1) few (only r c x ys)
  where
    by_case : (v : Bool) → cond v 1 0 + hits r c ys ≤ 1 → (hits r c ys ≤ 1 → In x ys → inside r c x.1 ≡ true → first_with_place r c ys ≡ Some x)
        → cond v (Some y) (first_with_place r c ys) ≡ Some x
    by_case true all rest = absurd (omega (arith, all, hit r c x ys i h))
    by_case false all rest = rest (omega (arith, all)) i h

-- lists that have the same entries in a row
pub found_same : {A : Type 0} (r c : ℕ) (xs ys : List (A × Rect)) → hits r c xs ≤ 1 → hits r c ys ≤ 1
    → ((x : A × Rect) → In x xs → within x.1.row x.1.rows r ≡ true → In x ys)
    → ((x : A × Rect) → In x ys → within x.1.row x.1.rows r ≡ true → In x xs)
    → first_with_place r c ys ≡ first_with_place r c xs
found_same {A} r c xs ys few less there back = by_both (first_with_place r c xs) (first_with_place r c ys) refl refl
  where
    by_both : (o q : Option (A × Rect)) → first_with_place r c xs ≡ o → first_with_place r c ys ≡ q → q ≡ o
    by_both (Some x) q e f =
        let is = found_is r c x xs e in
        sym f ∙ only r c x ys less (there x is.there (and_parts (within x.1.row x.1.rows r) (within x.1.col x.1.cols c) is.has).0) is.has
    by_both None None e f = refl
    by_both None (Some y) e f =
        let is = found_is r c y ys f in
        sym (sym e ∙ only r c y xs few (back y is.there (and_parts (within y.1.row y.1.rows r) (within y.1.col y.1.cols c) is.has).0) is.has)

-- ---- lists of which none of a row is lost

pub or_none : (a b : Bool) → (a || b) ≡ false → (a ≡ false) × (b ≡ false)
or_none true b e = absurd cc
or_none false b e = (refl, e)

any_none : {A : Type 0} (p : A → Bool) (x : A) (xs : List A) → list_any p xs ≡ false → In x xs → p x ≡ false
any_none p x [] e i = absurd i
any_none p x (y ∷ ys) e (inl same) = ap p same ∙ (or_none (p y) (list_any p ys) e).0
any_none p x (y ∷ ys) e (inr i) = any_none p x ys (or_none (p y) (list_any p ys) e).1 i

any_some : {A : Type 0} (p : A → Bool) (x : A) (xs : List A) → ((y : A) → p y ≡ true → x ≡ y) → list_any p xs ≡ true → In x xs
any_some p x [] same e = absurd cc
any_some {A} p x (y ∷ ys) same e = by_case (any_some p x ys same) (p y) refl e
  where
    by_case : (list_any p ys ≡ true → In x ys) → (v : Bool) → p y ≡ v → (v || list_any p ys) ≡ true → (x ≡ y) ⊎ In x ys
    by_case rest true is at = inl (same y is)
    by_case rest false is at = inr (rest at)

not_lost : (a b : Bool) → (a && not b) ≡ false → a ≡ true → b ≡ true
not_lost true true e h = refl
not_lost true false e h = absurd cc
not_lost false b e h = absurd cc

same_rect : (x y : Rect) → is_same_rect x y ≡ true → x ≡ y
same_rect x y e =
    let p = and_parts (eqb x.row y.row && eqb x.col y.col && eqb x.rows y.rows) (eqb x.cols y.cols) e in
    let q = and_parts (eqb x.row y.row && eqb x.col y.col) (eqb x.rows y.rows) p.0 in
    let s = and_parts (eqb x.row y.row) (eqb x.col y.col) q.0 in
    (λ i. record { row = eqb-true x.row y.row s.0 i; col = eqb-true x.col y.col s.1 i; rows = eqb-true x.rows y.rows q.1 i; cols = eqb-true x.cols y.cols p.1 i })

same_way : (x y : Way) → is_same_way x y ≡ true → x ≡ y
same_way Right Right e = refl
same_way Down Down e = refl
same_way Right Down e = absurd cc
same_way Down Right e = absurd cc

pub pane_stays : (r : ℕ) (xs ys : List (ℕ × Rect)) → loses_pane r xs ys ≡ false → (x : ℕ × Rect) → In x xs
    → within x.1.row x.1.rows r ≡ true → In x ys
pane_stays r xs ys e x i h =
    any_some (λ y. is_same_pane x y) x ys
    (λ y s. let p = and_parts (eqb x.0 y.0) (is_same_rect x.1 y.1) s in (λ j. (eqb-true x.0 y.0 p.0 j, same_rect x.1 y.1 p.1 j)))
    (not_lost (within x.1.row x.1.rows r) (list_any (λ y. is_same_pane x y) ys)
    (any_none (λ (z : ℕ × Rect). within z.1.row z.1.rows r && not (list_any (λ y. is_same_pane z y) ys)) x xs e i) h)

pub border_stays : (r : ℕ) (xs ys : List (Way × Rect)) → loses_border r xs ys ≡ false → (x : Way × Rect) → In x xs
    → within x.1.row x.1.rows r ≡ true → In x ys
border_stays r xs ys e x i h =
    any_some (λ y. is_same_border x y) x ys
    (λ y s. let p = and_parts (is_same_way x.0 y.0) (is_same_rect x.1 y.1) s in (λ j. (same_way x.0 y.0 p.0 j, same_rect x.1 y.1 p.1 j)))
    (not_lost (within x.1.row x.1.rows r) (list_any (λ y. is_same_border x y) ys)
    (any_none (λ (z : Way × Rect). within z.1.row z.1.rows r && not (list_any (λ y. is_same_border z y) ys)) x xs e i) h)

-- ---- the panes of a layout by their numbers

pub in_at : {A : Type 0} (x : A) (xs : List A) (d : A) → In x xs → (k : ℕ) × (k < length xs) × (get_or xs k d ≡ x)
in_at x [] d i = absurd i
in_at x (y ∷ ys) d (inl e) = (0, omega arith, sym e)
in_at x (y ∷ ys) d (inr i) = let h = in_at x ys d i in (suc h.0, omega (arith, h.1), h.2)
