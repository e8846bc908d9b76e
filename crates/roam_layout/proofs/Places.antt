-- The pane or border at a place, and lists of cells that show the cell at each place of a row.
use Rattle.std.proofs.Common.{◌≡◌, ℕ, ◌+◌, ◌-◌, ◌<◌, ◌≤◌, Bool, true, false, ◌&&◌, cond, inl, inr, List, [], ◌∷◌, ◌++◌, map, replicate, length, get_or, Option, Some, None, refl, sym, ap, ◌∙◌, arith, length-append}
use Rattle.std.specs.List.{range_with_len}
use Rattle.std.proofs.lemmas.Bool.{cases_lt}
use Rattle.std.proofs.lemmas.Bool.Decides.{nat_tests}
use Rattle.std.proofs.lemmas.List.{same_lists, get_or_default, get_or_append_left, get_or-append_right, get_or-replicate, length-replicate}
use Rattle.std.proofs.lemmas.List.FromFn.{length-map-range_with_len, get_or-map-range_with_len}
use Rattle.roam_cells.specs.Glyph.{Glyph, blank}
use Rattle.roam_screens.specs.Screenshot.{Screenshot}
use Rattle.roam_layout.specs.Trees.{Shape}
use Rattle.roam_layout.specs.Rects.{rects_of, borders, within, inside, once, hits, Fits}
use Rattle.roam_layout.specs.Faces.{first_with_place, pane_cell, sign}
use Rattle.roam_layout.proofs.Covering.{covered}
use Rattle.roam_layout.specs.declared.rects.Way.{Way}
use Rattle.roam_layout.specs.declared.rects.Rect.{Rect}

-- ---- within a range

pub within_in : (first n k : ℕ) → first ≤ k → k < first + n → within first n k ≡ true
within_in first n k low high = grind (arith, nat_tests)

pub within_below : (first n k : ℕ) → k < first → within first n k ≡ false
within_below first n k below = grind (arith, nat_tests)

pub within_above : (first n k : ℕ) → first + n ≤ k → within first n k ≡ false
within_above first n k above = grind (arith, nat_tests)

pub within_range : (first n k : ℕ) → within first n k ≡ true → (first ≤ k) × (k < first + n)
within_range first n k e = (grind (arith, nat_tests), grind (arith, nat_tests))

pub within_none : (first n k : ℕ) → within first n k ≡ false → (first ≤ k → k < first + n → ⊥)
within_none first n k e low high = grind (arith, nat_tests)

pub not_row : (r c : ℕ) (x : Rect) → within x.row x.rows r ≡ false → inside r c x ≡ false
not_row r c x e = ap (λ v. v && within x.col x.cols c) e

and_no : (a : Bool) → (a && false) ≡ false
and_no true = refl
and_no false = refl

pub not_col : (r c : ℕ) (x : Rect) → within x.col x.cols c ≡ false → inside r c x ≡ false
not_col r c x e = ap (λ v. within x.row x.rows r && v) e ∙ and_no (within x.row x.rows r)

pub both : (r c : ℕ) (x : Rect) → within x.row x.rows r ≡ true → within x.col x.cols c ≡ true → inside r c x ≡ true
both r c x e f = ap (λ v. v && within x.col x.cols c) e ∙ f

-- ---- the pane or border that has a place

-- the first that there is
abbrev pub or_else : {A : Type 0} → Option A → Option A → Option A
or_else None y = y
or_else (Some x) y = Some x

pub or_none : {A : Type 0} → (x : Option A) → or_else x None ≡ x
or_none None = refl
or_none (Some x) = refl

pub found-append : {A : Type 0} (r c : ℕ) (xs ys : List (A × Rect)) → first_with_place r c (xs ++ ys) ≡ or_else (first_with_place r c xs) (first_with_place r c ys)
found-append r c [] ys = refl
found-append r c (x ∷ xs) ys = by_case (inside r c x.1) (found-append r c xs ys)
  where
    by_case : (v : Bool) → first_with_place r c (xs ++ ys) ≡ or_else (first_with_place r c xs) (first_with_place r c ys)
        → cond v (Some x) (first_with_place r c (xs ++ ys)) ≡ or_else (cond v (Some x) (first_with_place r c xs)) (first_with_place r c ys)
    by_case true rest = refl
    by_case false rest = rest

pub not_found : {A : Type 0} (r c : ℕ) (xs : List (A × Rect)) → hits r c xs ≡ 0 → first_with_place r c xs ≡ None
not_found r c [] e = refl
not_found r c (x ∷ xs) e = by_case (inside r c x.1) e (not_found r c xs)
  where
    by_case : (v : Bool) → cond v 1 0 + hits r c xs ≡ 0 → (hits r c xs ≡ 0 → first_with_place r c xs ≡ None) → cond v (Some x) (first_with_place r c xs) ≡ None
    by_case true more rest = absurd (omega (arith, more))
    by_case false more rest = rest (omega (arith, more))

-- outside its rectangle a tree has nothing
pub outside : (t : Shape) (x : Rect) (r c : ℕ) → Fits t x → inside r c x ≡ false
    → (first_with_place r c (rects_of t x) ≡ None) × (first_with_place r c (borders t x) ≡ None)
outside t x r c fits out =
    let none : once r c x ≡ 0 = ap (λ v. cond v 1 0) out in
    let all = covered t x fits r c in
    (not_found r c (rects_of t x) (omega (arith, all, none)), not_found r c (borders t x) (omega (arith, all, none)))

-- the cell of a tree at a place
abbrev pub tree_cell : (ℕ → Screenshot) → Shape → Rect → ℕ → ℕ → Glyph
tree_cell picture t x r c = pane_cell picture r c (first_with_place r c (rects_of t x)) (first_with_place r c (borders t x))

-- a split shows what its parts show
module _ (picture : ℕ → Screenshot) (w : Way) (a b : Shape) (xa xe xb : Rect) (fa : Fits a xa) (fb : Fits b xb) (r c : ℕ) where
  abbrev whole : Glyph
  whole = pane_cell picture r c (first_with_place r c (rects_of a xa ++ rects_of b xb)) (first_with_place r c (borders a xa ++ (w, xe) ∷ borders b xb))

  abbrev parted : Option (ℕ × Rect) → Option (ℕ × Rect) → Option (Way × Rect) → Bool → Option (Way × Rect) → Glyph
  parted pa pb ea e eb = pane_cell picture r c (or_else pa pb) (or_else ea (cond e (Some (w, xe)) eb))

  whole_is : whole ≡ parted (first_with_place r c (rects_of a xa)) (first_with_place r c (rects_of b xb)) (first_with_place r c (borders a xa)) (inside r c xe)
      (first_with_place r c (borders b xb))
  whole_is = λ i. pane_cell picture r c (found-append r c (rects_of a xa) (rects_of b xb) i)
      (found-append r c (borders a xa) ((w, xe) ∷ borders b xb) i)

  pub first_cell : inside r c xe ≡ false → inside r c xb ≡ false → whole ≡ tree_cell picture a xa r c
  first_cell ee eb =
      let none = outside b xb r c fb eb in
      whole_is
      ∙ (λ i. parted (first_with_place r c (rects_of a xa)) (none.0 i) (first_with_place r c (borders a xa)) (ee i) (none.1 i))
      ∙ (λ i. pane_cell picture r c (or_none (first_with_place r c (rects_of a xa)) i) (or_none (first_with_place r c (borders a xa)) i))

  pub border_sign : inside r c xa ≡ false → inside r c xe ≡ true → inside r c xb ≡ false → whole ≡ sign w
  border_sign ea ee eb =
      let none = outside a xa r c fa ea in
      let more = outside b xb r c fb eb in
      whole_is ∙ (λ i. parted (none.0 i) (more.0 i) (none.1 i) (ee i) (more.1 i))

  pub second_cell : inside r c xa ≡ false → inside r c xe ≡ false → whole ≡ tree_cell picture b xb r c
  second_cell ea ee =
      let none = outside a xa r c fa ea in
      whole_is ∙ (λ i. parted (none.0 i) (first_with_place r c (rects_of b xb)) (none.1 i) (ee i) (first_with_place r c (borders b xb)))

-- ---- lists that show a row

-- a list shows what f says of n columns from a column on
pub record Shows (xs : List Glyph) (from n : ℕ) (f : ℕ → Glyph) : Type 0 where
  pub size : length xs ≡ n
  pub at : (k : ℕ) → k < n → get_or xs k blank ≡ f (from + k)

pub shows_same : (xs : List Glyph) (from n : ℕ) (f g : ℕ → Glyph) → Shows xs from n f → ((c : ℕ) → from ≤ c → c < from + n → f c ≡ g c)
    → Shows xs from n g
shows_same xs from n f g s same =
    record { size = s.size; at = λ k h. s.at k h ∙ same (from + k) (omega arith) (omega (arith, h)) }

pub shows_beside : (xs ys : List Glyph) (from mid n m all : ℕ) (f : ℕ → Glyph) → mid ≡ from + n → all ≡ n + m
    → Shows xs from n f → Shows ys mid m f → Shows (xs ++ ys) from all f
shows_beside xs ys from mid n m all f em ea s t =
    record {
      size = omega (arith, length-append xs ys, s.size, t.size, ea);
      at = λ k h. elim (cases_lt k n) [
        | inl l ↦ get_or_append_left xs ys blank k (omega (arith, l, s.size)) ∙ s.at k l
        | inr l ↦
            let place : mid + (k - n) ≡ from + k = omega (arith, em, l) in
            get_or-append_right xs ys n k blank s.size l ∙ t.at (k - n) (omega (arith, h, l, ea)) ∙ ap f place
      ];
    }

pub shows_equal : (xs ys : List Glyph) (from n : ℕ) (f : ℕ → Glyph) → xs ≡ ys → Shows ys from n f → Shows xs from n f
shows_equal xs ys from n f e s = record { size = ap length e ∙ s.size; at = λ k h. ap (λ l. get_or l k blank) e ∙ s.at k h }

pub shows_one : (from n : ℕ) (g : Glyph) → Shows (replicate n g) from n (λ c. g)
shows_one from n g = record { size = length-replicate n g; at = λ k h. get_or-replicate n k g blank h }

-- a list that shows a row from column 1 on is the row
pub shows_row : (xs : List Glyph) (n : ℕ) (f : ℕ → Glyph) → Shows xs 1 n f → xs ≡ map (λ c. f (c + 1)) (range_with_len 0 n)
shows_row xs n f s =
    same_lists xs (map (λ c. f (c + 1)) (range_with_len 0 n)) (s.size ∙ sym (length-map-range_with_len (λ c. f (c + 1)) 0 n)) (λ k d h.
    let l : k < n = omega (arith, h, s.size) in
    let one : 1 + k ≡ k + 1 = omega arith in
    get_or_default xs k d blank h ∙ s.at k l ∙ ap f one
    ∙ sym (get_or-map-range_with_len (λ c. f (c + 1)) 0 n k k d l (omega arith)))
