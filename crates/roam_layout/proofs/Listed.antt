-- Pictures in a list: each has its pane's size, and is found by its pane's number.
use Rattle.std.proofs.Common.{◌≡◌, ℕ, zero, suc, ◌+◌, ◌<◌, ◌≤◌, Bool, true, false, ◌||◌, cond, eqb, List, [], ◌∷◌, ◌++◌, length, get_or, refl, sym, subst, ap, ◌∙◌, arith}
use Rattle.std.specs.List.{All}
use Rattle.std.proofs.lemmas.Bool.{eqb-true, eq-eqb, ne_eqb}
use Rattle.std.proofs.lemmas.List.{get_or-map, length-map}
use Rattle.std.proofs.lemmas.List.Elements.{All-head, All-tail}
use Rattle.roam_screens.specs.Screenshot.{Screenshot, IsScreenshot}
use Rattle.roam_layout.specs.Trees.{Shape, One, Two, has, times}
use Rattle.roam_layout.specs.Rects.{rects_of, first_part, second_part}
use Rattle.roam_layout.specs.Layouts.{Plan, IsPlan, area, panes}
use Rattle.roam_layout.specs.Changes.{size_of}
use Rattle.roam_layout.specs.Faces.{picture_size, picture_in, ArePictures, Show}
use Rattle.roam_layout.proofs.Segments.{ArePictured}
use Rattle.roam_layout.specs.declared.rects.Rect.{Rect}

-- a list with a picture for each pane gives each pane one of its size
pub pictured_from : (picture : ℕ → Screenshot) (ps : List (ℕ × Rect)) (ss : List (ℕ × Screenshot)) → ArePictures ps ss → Show picture ss
    → All (λ (y : ℕ × Screenshot). IsScreenshot y.1) ss → ArePictured picture ps
pictured_from picture [] ss e show are = tt
pictured_from picture (x ∷ ps) [] e show are = cc
pictured_from picture (x ∷ ps) (y ∷ ss) e show are =
    let head : picture_size y ≡ size_of x = cc in
    let rest : ArePictures ps ss = cc in
    let number : y.0 ≡ x.0 = ap (λ s. s.pane) head in
    let same : y.1 ≡ picture x.0 = All-head (λ (z : ℕ × Screenshot). z.1 ≡ picture z.0) y ss show ∙ ap picture number in (
      record {
        rows = ap (λ (s : Screenshot). s.rows) (sym same) ∙ ap (λ s. s.rows) head;
        cols = ap (λ (s : Screenshot). s.cols) (sym same) ∙ ap (λ s. s.cols) head;
        shot = subst (λ (s : Screenshot). IsScreenshot s) same (All-head (λ (z : ℕ × Screenshot). IsScreenshot z.1) y ss are);
      },
      pictured_from picture ps ss rest (All-tail (λ (z : ℕ × Screenshot). z.1 ≡ picture z.0) y ss show)
          (All-tail (λ (z : ℕ × Screenshot). IsScreenshot z.1) y ss are),
    )

pub sizes_at : (ps : List (ℕ × Rect)) (ss : List (ℕ × Screenshot)) (k : ℕ) (d : ℕ × Rect) (e : ℕ × Screenshot) → ArePictures ps ss
    → k < length ps
    → ((get_or ss k e).1.rows ≡ (get_or ps k d).1.rows) × ((get_or ss k e).1.cols ≡ (get_or ps k d).1.cols)
sizes_at ps ss k d e same h =
    let count : length ss ≡ length ps = sym (length-map ss picture_size) ∙ ap length same ∙ length-map ps size_of in
    let one : picture_size (get_or ss k e) ≡ size_of (get_or ps k d) =
    sym (get_or-map picture_size ss k e (size_of d) (omega (arith, count, h))) ∙ ap (λ l. get_or l k (size_of d)) same
    ∙ get_or-map size_of ps k d (size_of d) h in
    (ap (λ s. s.rows) one, ap (λ s. s.cols) one)

pub same_count : (ps : List (ℕ × Rect)) (ss : List (ℕ × Screenshot)) → ArePictures ps ss → length ss ≡ length ps
same_count ps ss same = sym (length-map ss picture_size) ∙ ap length same ∙ length-map ps size_of

pub right_of_or : (v w : Bool) → v ≡ false → (v || w) ≡ true → w ≡ true
right_of_or true w e h = cc
right_of_or false w e h = h

-- ---- pictures by number

-- whether a list has a number
abbrev pub lists : {A : Type 0} → ℕ → List (ℕ × A) → Bool
lists p [] = false
lists p (x ∷ xs) = eqb x.0 p || lists p xs

-- how often a list has a number
abbrev counts : {A : Type 0} → ℕ → List (ℕ × A) → ℕ
counts p [] = 0
counts p (x ∷ xs) = cond (eqb x.0 p) 1 0 + counts p xs

or_more : (a b c : Bool) → ((a || b) || c) ≡ (a || (b || c))
or_more true b c = refl
or_more false b c = refl

lists-append : {A : Type 0} (p : ℕ) (xs ys : List (ℕ × A)) → lists p (xs ++ ys) ≡ (lists p xs || lists p ys)
lists-append p [] ys = refl
lists-append p (x ∷ xs) ys = ap (λ v. eqb x.0 p || v) (lists-append p xs ys) ∙ sym (or_more (eqb x.0 p) (lists p xs) (lists p ys))

or_false : (a : Bool) → (a || false) ≡ a
or_false true = refl
or_false false = refl

pub lists_placed : (p : ℕ) (t : Shape) (x : Rect) → lists p (rects_of t x) ≡ has p t
lists_placed p (One q) x = or_false (eqb q p)
lists_placed p (Two w g a b) x =
    lists-append p (rects_of a (first_part w g a b x)) (rects_of b (second_part w g a b x))
    ∙ (λ i. lists_placed p a (first_part w g a b x) i || lists_placed p b (second_part w g a b x) i)

counts-append : {A : Type 0} (p : ℕ) (xs ys : List (ℕ × A)) → counts p (xs ++ ys) ≡ counts p xs + counts p ys
counts-append p [] ys = omega arith
counts-append p (x ∷ xs) ys = omega (arith, counts-append p xs ys)

counts_placed : (p : ℕ) (t : Shape) (x : Rect) → counts p (rects_of t x) ≡ times p t
counts_placed p (One q) x = omega arith
counts_placed p (Two w g a b) x =
    omega (
      arith,
      counts-append p (rects_of a (first_part w g a b x)) (rects_of b (second_part w g a b x)),
      counts_placed p a (first_part w g a b x),
      counts_placed p b (second_part w g a b x),
    )

lists_same : (p : ℕ) (ps : List (ℕ × Rect)) (ss : List (ℕ × Screenshot)) → ArePictures ps ss → lists p ss ≡ lists p ps
lists_same p [] [] e = refl
lists_same p [] (y ∷ ss) e = cc
lists_same p (x ∷ ps) [] e = cc
lists_same p (x ∷ ps) (y ∷ ss) e =
    let head : picture_size y ≡ size_of x = cc in
    let number : y.0 ≡ x.0 = ap (λ s. s.pane) head in
    let rest = lists_same p ps ss cc in
    λ i. eqb (number i) p || rest i

counts_same : (p : ℕ) (ps : List (ℕ × Rect)) (ss : List (ℕ × Screenshot)) → ArePictures ps ss → counts p ss ≡ counts p ps
counts_same p [] [] e = refl
counts_same p [] (y ∷ ss) e = cc
counts_same p (x ∷ ps) [] e = cc
counts_same p (x ∷ ps) (y ∷ ss) e =
    let head : picture_size y ≡ size_of x = cc in
    let number : y.0 ≡ x.0 = ap (λ s. s.pane) head in
    let rest = counts_same p ps ss cc in
    λ i. cond (eqb (number i) p) 1 0 + rest i

-- the picture that a list has for a pane is the one that it shows
pub listed : (picture : ℕ → Screenshot) (p : ℕ) (ss : List (ℕ × Screenshot)) → Show picture ss → lists p ss ≡ true
    → picture_in ss p ≡ picture p
listed picture p [] show is = cc
listed picture p (y ∷ ss) show is = by_case (eqb y.0 p) refl (listed picture p ss
    (All-tail (λ (z : ℕ × Screenshot). z.1 ≡ picture z.0) y ss show))
  where
    by_case : (v : Bool) → eqb y.0 p ≡ v → (lists p ss ≡ true → picture_in ss p ≡ picture p) → cond v y.1 (picture_in ss p) ≡ picture p
    by_case true e rest = All-head (λ (z : ℕ × Screenshot). z.1 ≡ picture z.0) y ss show ∙ ap picture (eqb-true y.0 p e)
    by_case false e rest = rest (right_of_or (eqb y.0 p) (lists p ss) e is)

abbrev one_if : Bool → ℕ
one_if v = cond v 1 0

once_at : (n p : ℕ) → n ≡ p → one_if (eqb n p) ≡ 1
once_at n p e = ap one_if (eq-eqb n p e)

counts_at : {A : Type 0} (xs : List (ℕ × A)) (k : ℕ) (d : ℕ × A) → k < length xs → 1 ≤ counts (get_or xs k d).0 xs
counts_at [] k d h = absurd (omega (arith, h))
counts_at (x ∷ xs) zero d h = let one = once_at x.0 x.0 refl in omega (arith, one)
counts_at (x ∷ xs) (suc k) d h = let rest = counts_at xs k d (omega (arith, h)) in omega (arith, rest)

-- if no number is there twice, a list shows its pictures by number
shows_itself : (ss : List (ℕ × Screenshot)) → ((p : ℕ) → counts p ss ≤ 1) → Show (picture_in ss) ss
shows_itself [] once k d h = absurd (omega (arith, h))
shows_itself (y ∷ ss) once zero d h = ap (λ v. cond v y.1 (picture_in ss y.0)) (sym (eq-eqb y.0 y.0 refl))
shows_itself (y ∷ ss) once (suc k) d h =
    let z = get_or ss k d in
    let there = counts_at ss k d (omega (arith, h)) in
    let other : eqb y.0 z.0 ≡ false = ne_eqb y.0 z.0 (λ e.
    let one = once_at y.0 z.0 e in
    omega (arith, once z.0, there, one)) in
    shows_itself ss (λ p. omega (arith, once p)) k d (omega (arith, h)) ∙ ap (λ v. cond v y.1 (picture_in ss z.0)) (sym other)

pub shows_by_number : (s : Plan) (ss : List (ℕ × Screenshot)) → IsPlan s → ArePictures (panes s) ss → Show (picture_in ss) ss
shows_by_number s ss plan e =
    shows_itself ss (λ p. omega (arith, counts_same p (panes s) ss e, counts_placed p s.tree (area s.rows s.cols), plan.distinct p))

-- the picture of a pane of a layout
pub pane_listed : (s : Plan) (picture : ℕ → Screenshot) (p : ℕ) (ss : List (ℕ × Screenshot)) → ArePictures (panes s) ss → Show picture ss
    → has p s.tree ≡ true → picture_in ss p ≡ picture p
pane_listed s picture p ss e show there =
    listed picture p ss show (lists_same p (panes s) ss e ∙ lists_placed p s.tree (area s.rows s.cols) ∙ there)

-- that of the pane in focus
pub focus_listed : (s : Plan) (picture : ℕ → Screenshot) (ss : List (ℕ × Screenshot)) → IsPlan s → ArePictures (panes s) ss
    → Show picture ss
    → picture_in ss s.focus ≡ picture s.focus
focus_listed s picture ss plan e show = pane_listed s picture s.focus ss e show plan.focus
