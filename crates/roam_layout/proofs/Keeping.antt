-- The invariants that each act keeps: the tree fits, its panes are distinct and numbered 1 to 9, its shifts are modest, the focus is a
-- pane.
use Rattle.std.proofs.Common.{◌≡◌, ℕ, ℤ, pos, ◌+◌, ◌-◌, ◌≤◌, ◌<◌, ◌+ℤ◌, max, nat_le, Bool, true, false, ◌||◌, ◌==◌, cond, refl, ap, sym, subst, ◌∙◌, inl, inr, List, [], ◌∷◌, ◌++◌, length, map, arith, ◌⊎◌, Option, Some, None, is_some}
use Rattle.std.proofs.lemmas.Bool.{false≢true, eq-eqb, or_left, or_right, leb-true, eqb-true, le-leb}
use Rattle.std.proofs.lemmas.Bool.Decides.{leb_tells}
use Rattle.std.specs.Prelude.{slice_set, slice_index, if◌then◌else◌}
use Rattle.roam_cells.specs.declared.faults.Fault.TheVariants.{PanesFull, TooSmall}
use Rattle.std.proofs.Math.Bool.{or-false, or_assoc}
use Rattle.std.proofs.lemmas.List.{map-append, length-map}
use Rattle.roam_layout.specs.Trees.{Shape, One, Two, leaves, has, is_one, first_leaf, with_subtree, without_pane, heir, least_rows, least_cols, free, AreNumbers, AreModest}
use Rattle.roam_layout.specs.Rects.{rects_of, first_length, front, part, spot, Fits, is_roomy, after_growth}
use Rattle.roam_layout.specs.Layouts.{Plan, IsPlan, IsLaid, scroll, view_in_range, Laid, Refused, split, area, after}
use Rattle.roam_layout.proofs.Covering.{across_in, down_in}
use Rattle.roam_layout.proofs.Counting.{times_closed, distinct_planted, free_is_free}
use Rattle.roam_layout.proofs.Growing.{IfGrown, HasGrown, grown_keeps}
use Rattle.roam_layout.specs.declared.rects.Way.{Way}
use Rattle.roam_layout.specs.declared.rects.Way.TheVariants.{Right, Down}
use Rattle.roam_layout.specs.declared.rects.Rect.{Rect}

fits_across : (v w : Bool) (a a' b b' u : Shape) (g : ℤ) (n : ℕ) (r x y : Rect) → (v || w) ≡ true
    → least_cols a ≤ n → n + 1 + least_cols b ≤ r.cols → least_rows a ≤ r.rows → least_rows b ≤ r.rows
    → (v ≡ true → Fits u x → Fits a' (front Right n r)) → (w ≡ true → Fits u y → Fits b' (part Right (n + 1) (r.cols - n - 1) r))
    → Fits u (cond v x y) → Fits (cond v (Two Right g a' b) (Two Right g a b')) r
fits_across true w a a' b b' u g n r x y is low high ra rb first second h =
    let k = first refl h in (omega (arith, k.0), omega (arith, k.1))
fits_across false w a a' b b' u g n r x y is low high ra rb first second h =
    let k = second is h in (omega (arith, k.0), omega (arith, k.1))

fits_down : (v w : Bool) (a a' b b' u : Shape) (g : ℤ) (n : ℕ) (r x y : Rect) → (v || w) ≡ true
    → least_rows a ≤ n → n + 1 + least_rows b ≤ r.rows → least_cols a ≤ r.cols → least_cols b ≤ r.cols
    → (v ≡ true → Fits u x → Fits a' (front Down n r)) → (w ≡ true → Fits u y → Fits b' (part Down (n + 1) (r.rows - n - 1) r))
    → Fits u (cond v x y) → Fits (cond v (Two Down g a' b) (Two Down g a b')) r
fits_down true w a a' b b' u g n r x y is low high ra rb first second h =
    let k = first refl h in (omega (arith, k.0), omega (arith, k.1))
fits_down false w a a' b b' u g n r x y is low high ra rb first second h =
    let k = second is h in (omega (arith, k.0), omega (arith, k.1))

-- a tree that fits a pane's rectangle may take the pane's place
pub fits_planted : (p : ℕ) (u t : Shape) (r : Rect) → Fits t r → has p t ≡ true → Fits u (spot p t r) → Fits (with_subtree p u t) r
fits_planted p u (One q) r fits is h = rw is h
fits_planted p u (Two Right g a b) r fits is h =
    let n = first_length Right g a b r in
    let bounds = across_in g a b r fits in
    let left = fits_planted p u a (front Right n r) (omega (arith, fits.0), bounds.0) in
    let right = fits_planted p u b (part Right (n + 1) (r.cols - n - 1) r) (omega (arith, fits.0), omega (arith, bounds.1)) in
    fits_across (has p a) (has p b) a (with_subtree p u a) b (with_subtree p u b) u g n r (spot p a (front Right n r))
    (spot p b (part Right (n + 1) (r.cols - n - 1) r)) is bounds.0 bounds.1 (omega (arith, fits.0))
    (omega (arith, fits.0)) left right h
fits_planted p u (Two Down g a b) r fits is h =
    let n = first_length Down g a b r in
    let bounds = down_in g a b r fits in
    let upper = fits_planted p u a (front Down n r) (bounds.0, omega (arith, fits.1)) in
    let lower = fits_planted p u b (part Down (n + 1) (r.rows - n - 1) r) (omega (arith, bounds.1), omega (arith, fits.1)) in
    fits_down (has p a) (has p b) a (with_subtree p u a) b (with_subtree p u b) u g n r (spot p a (front Down n r))
    (spot p b (part Down (n + 1) (r.rows - n - 1) r)) is bounds.0 bounds.1 (omega (arith, fits.1))
    (omega (arith, fits.1)) upper lower h

-- the rectangle of a pane is no smaller than a pane
pub spot_least : (p : ℕ) (t : Shape) (r : Rect) → Fits t r → Fits (One p) (spot p t r)
spot_least p (One q) r fits = fits
spot_least p (Two Right g a b) r fits =
    let n = first_length Right g a b r in
    let bounds = across_in g a b r fits in
    let left = spot_least p a (front Right n r) (omega (arith, fits.0), bounds.0) in
    let right = spot_least p b (part Right (n + 1) (r.cols - n - 1) r) (omega (arith, fits.0), omega (arith, bounds.1)) in
    either_fits (has p a) (One p) (spot p a (front Right n r)) (spot p b (part Right (n + 1) (r.cols - n - 1) r)) left right
  where
    either_fits : (v : Bool) (t : Shape) (x y : Rect) → Fits t x → Fits t y → Fits t (cond v x y)
    either_fits true t x y h k = h
    either_fits false t x y h k = k
spot_least p (Two Down g a b) r fits =
    let n = first_length Down g a b r in
    let bounds = down_in g a b r fits in
    let upper = spot_least p a (front Down n r) (bounds.0, omega (arith, fits.1)) in
    let lower = spot_least p b (part Down (n + 1) (r.rows - n - 1) r) (omega (arith, bounds.1), omega (arith, fits.1)) in
    either_fits (has p a) (One p) (spot p a (front Down n r)) (spot p b (part Down (n + 1) (r.rows - n - 1) r)) upper lower
  where
    either_fits : (v : Bool) (t : Shape) (x y : Rect) → Fits t x → Fits t y → Fits t (cond v x y)
    either_fits true t x y h k = h
    either_fits false t x y h k = k

-- a property of each choice is one of the chosen one
one_of_four : (P : Shape → Type 0) (x y z : Bool) (s t u v : Shape) → P s → P t → P u → P v → P (cond x s (cond y t (cond z u v)))
one_of_four P true y z s t u v a b c d = a
one_of_four P false true z s t u v a b c d = b
one_of_four P false false true s t u v a b c d = c
one_of_four P false false false s t u v a b c d = d

one_of_two : (P : Shape → Type 0) (x : Bool) (s t : Shape) → P s → P t → P (cond x s t)
one_of_two P true s t a b = a
one_of_two P false s t a b = b

pub closed_least : (p : ℕ) (t : Shape) → (least_rows (without_pane p t) ≤ least_rows t) × (least_cols (without_pane p t) ≤ least_cols t)
closed_least p (One q) = (omega arith, omega arith)
closed_least p (Two Right g a b) =
    let h = closed_least p a in
    let k = closed_least p b in
    one_of_four (λ t. (least_rows t ≤ max (least_rows a) (least_rows b)) × (least_cols t ≤ least_cols a + least_cols b + 1))
    (is_one p a) (is_one p b) (has p a) b a (Two Right g (without_pane p a) b) (Two Right g a (without_pane p b))
    (omega arith, omega arith) (omega arith, omega arith) (omega (arith, h.0), omega (arith, h.1)) (omega (arith, k.0), omega (arith, k.1))
closed_least p (Two Down g a b) =
    let h = closed_least p a in
    let k = closed_least p b in
    one_of_four (λ t. (least_rows t ≤ least_rows a + least_rows b + 1) × (least_cols t ≤ max (least_cols a) (least_cols b)))
    (is_one p a) (is_one p b) (has p a) b a (Two Down g (without_pane p a) b) (Two Down g a (without_pane p b))
    (omega arith, omega arith) (omega arith, omega arith) (omega (arith, h.0), omega (arith, h.1)) (omega (arith, k.0), omega (arith, k.1))

pub closed_modest : (p : ℕ) (t : Shape) → AreModest t → AreModest (without_pane p t)
closed_modest p (One q) h = h
closed_modest p (Two w g a b) h =
    one_of_four AreModest (is_one p a) (is_one p b) (has p a) b a (Two w g (without_pane p a) b) (Two w g a (without_pane p b))
    h.2 h.1 (h.0, closed_modest p a h.1, h.2) (h.0, h.1, closed_modest p b h.2)

pub closed_numbers : (p : ℕ) (t : Shape) → AreNumbers t → AreNumbers (without_pane p t)
closed_numbers p (One q) h = h
closed_numbers p (Two w g a b) h =
    one_of_four AreNumbers (is_one p a) (is_one p b) (has p a) b a (Two w g (without_pane p a) b) (Two w g a (without_pane p b))
    h.1 h.0 (closed_numbers p a h.0, h.1) (h.0, closed_numbers p b h.1)

pub planted_modest : (p : ℕ) (u t : Shape) → AreModest u → AreModest t → AreModest (with_subtree p u t)
planted_modest p u (One q) h k = one_of_two AreModest (q == p) u (One q) h k
planted_modest p u (Two w g a b) h k =
    one_of_two AreModest (has p a) (Two w g (with_subtree p u a) b) (Two w g a (with_subtree p u b))
    (k.0, planted_modest p u a h k.1, k.2) (k.0, k.1, planted_modest p u b h k.2)

pub planted_numbers : (p : ℕ) (u t : Shape) → AreNumbers u → AreNumbers t → AreNumbers (with_subtree p u t)
planted_numbers p u (One q) h k = one_of_two AreNumbers (q == p) u (One q) h k
planted_numbers p u (Two w g a b) h k =
    one_of_two AreNumbers (has p a) (Two w g (with_subtree p u a) b) (Two w g a (with_subtree p u b))
    (planted_numbers p u a h k.0, k.1) (k.0, planted_numbers p u b h k.1)

same_is : (n : ℕ) → (n == n) ≡ true
same_is n = eq-eqb n n refl

pub first_in : (t : Shape) → has (first_leaf t) t ≡ true
first_in (One p) = same_is p
first_in (Two w g a b) = or_left (has (first_leaf a) a) (has (first_leaf a) b) (first_in a)

pub planted_has : (p n : ℕ) (u t : Shape) → has p t ≡ true → has n u ≡ true → has n (with_subtree p u t) ≡ true
planted_has p n u (One q) h k = rw h k
planted_has p n u (Two w g a b) h k = by_side (has p a) (has p b) h (planted_has p n u a) (planted_has p n u b)
  where
    by_side : (x y : Bool) → (x || y) ≡ true → (x ≡ true → has n u ≡ true → has n (with_subtree p u a) ≡ true)
        → (y ≡ true → has n u ≡ true → has n (with_subtree p u b) ≡ true)
        → has n (cond x (Two w g (with_subtree p u a) b) (Two w g a (with_subtree p u b))) ≡ true
    by_side true y is l r = or_left (has n (with_subtree p u a)) (has n b) (l refl k)
    by_side false y is l r = or_right (has n a) (has n (with_subtree p u b)) (r is k)

pub heir_in : (p : ℕ) (t : Shape) → has (heir p t) (without_pane p t) ≡ true
heir_in p (One q) = same_is q
heir_in p (Two w g a b) = by_case (is_one p a) (is_one p b) (has p a) (heir_in p a) (heir_in p b)
  where
    by_case : (x y z : Bool) → has (heir p a) (without_pane p a) ≡ true → has (heir p b) (without_pane p b) ≡ true
        → has (cond x (first_leaf b) (cond y (first_leaf a) (cond z (heir p a) (heir p b))))
        (cond x b (cond y a (cond z (Two w g (without_pane p a) b) (Two w g a (without_pane p b))))) ≡ true
    by_case true y z h k = first_in b
    by_case false true z h k = first_in a
    by_case false false true h k = or_left (has (heir p a) (without_pane p a)) (has (heir p a) b) h
    by_case false false false h k = or_right (has (heir p b) a) (has (heir p b) (without_pane p b)) k

-- a pane's number is 1 to 9
pub number_of : (p : ℕ) (t : Shape) → AreNumbers t → has p t ≡ true → (1 ≤ p) × (p ≤ 9)
number_of p (One q) h is = let e : q ≡ p = eqb-true q p is in (omega (arith, h.0, e), omega (arith, h.1, e))
number_of p (Two w g a b) h is = by_side (has p a) (has p b) is (number_of p a h.0) (number_of p b h.1)
  where
    by_side : (x y : Bool) → (x || y) ≡ true → (x ≡ true → (1 ≤ p) × (p ≤ 9)) → (y ≡ true → (1 ≤ p) × (p ≤ 9)) → (1 ≤ p) × (p ≤ 9)
    by_side true y is l r = l refl
    by_side false y is l r = r is

pub leaves_placed : (t : Shape) (r : Rect) → map (λ x. x.0) (rects_of t r) ≡ leaves t
leaves_placed (One p) r = refl
leaves_placed (Two Right g a b) r =
    let n = first_length Right g a b r in rw (
      map-append,
      leaves_placed a (front Right n r),
      leaves_placed b
          (part Right (n + 1) (r.cols - n - 1) r),
    ) refl
leaves_placed (Two Down g a b) r =
    let n = first_length Down g a b r in rw (
      map-append,
      leaves_placed a (front Down n r),
      leaves_placed b
          (part Down (n + 1) (r.rows - n - 1) r),
    ) refl

pub length_placed : (t : Shape) (r : Rect) → length (rects_of t r) ≡ length (leaves t)
length_placed t r = sym (length-map (rects_of t r) (λ x. x.0)) ∙ ap length (leaves_placed t r)

abbrev among : ℕ → List ℕ → Bool
among p [] = false
among p (x ∷ xs) = (x == p) || among p xs

among-append : (p : ℕ) (xs ys : List ℕ) → among p (xs ++ ys) ≡ (among p xs || among p ys)
among-append p [] ys = refl
among-append p (x ∷ xs) ys = ap (λ b. (x == p) || b) (among-append p xs ys) ∙ sym (or_assoc (x == p) (among p xs) (among p ys))

has_among : (p : ℕ) (t : Shape) → has p t ≡ among p (leaves t)
has_among p (One q) = sym (or-false (q == p))
has_among p (Two w g a b) = rw (among-append, has_among p a, has_among p b) refl

after_in : (first p : ℕ) (xs : List ℕ) → (after first p xs ≡ first) ⊎ (among (after first p xs) xs ≡ true)
after_in first p [] = inl refl
after_in first p (x ∷ []) = inl refl
after_in first p (x ∷ y ∷ ys) = by_case (x == p) (after_in first p (y ∷ ys))
  where
    by_case : (v : Bool) → (after first p (y ∷ ys) ≡ first) ⊎ (among (after first p (y ∷ ys)) (y ∷ ys) ≡ true)
        → (cond v y (after first p (y ∷ ys)) ≡ first) ⊎ (among (cond v y (after first p (y ∷ ys))) (x ∷ y ∷ ys) ≡ true)
    by_case true h = inr (or_right (x == y) (among y (y ∷ ys)) (or_left (y == y) (among y ys) (same_is y)))
    by_case false (inl h) = inl h
    by_case false (inr h) = inr (or_right (x == after first p (y ∷ ys)) (among (after first p (y ∷ ys)) (y ∷ ys)) h)

pub next_in : (p : ℕ) (t : Shape) → has (after (first_leaf t) p (leaves t)) t ≡ true
next_in p t =
    elim (after_in (first_leaf t) p (leaves t)) [
      | inl h ↦ ap (λ q. has q t) h ∙ first_in t
      | inr h ↦ has_among (after (first_leaf t) p (leaves t)) t ∙ h
    ]

pub plan_close : (s : Plan) (u t : Shape) (p : ℕ) → u ≡ s.tree → t ≡ without_pane s.focus u → p ≡ heir s.focus s.tree → IsPlan s
    → IsPlan (record { rows = s.rows; cols = s.cols; tree = t; focus = p; views = s.views })
plan_close s u t p eu et ep h =
    let e : t ≡ without_pane s.focus s.tree = et ∙ ap (without_pane s.focus) eu in
    let least = closed_least s.focus s.tree in
    rw (e, ep)
    (record {
      size = h.size;
      fits = (omega (arith, least.0, h.fits.0), omega (arith, least.1, h.fits.1));
      modest = closed_modest s.focus s.tree h.modest;
      numbers = closed_numbers s.focus s.tree h.numbers;
      distinct = λ k. omega (arith, times_closed k s.focus s.tree, h.distinct k);
      focus = heir_in s.focus s.tree;
      views = h.views;
    })

pub plan_focus : (s : Plan) (t : Shape) (p : ℕ) → t ≡ s.tree → has p s.tree ≡ true → IsPlan s
    → IsPlan (record { rows = s.rows; cols = s.cols; tree = t; focus = p; views = s.views })
plan_focus s t p e is h = rw e (record { size = h.size; fits = h.fits; modest = h.modest; numbers = h.numbers; distinct = h.distinct; focus = is; views = h.views })

pub plan_split : (s : Plan) (w : Way) (f u t : Shape) (n : ℕ) (vs : List ℕ) → f ≡ Two w (pos 0) (One s.focus) (One n) → u ≡ s.tree
    → t ≡ with_subtree s.focus f u
    → 1 ≤ n → n ≤ 9 → n ≡ free s.tree → length (leaves s.tree) < 9 → length vs ≡ 10
    → is_roomy w (spot s.focus s.tree (area s.rows s.cols)) ≡ true → IsPlan s
    → IsPlan (record { rows = s.rows; cols = s.cols; tree = t; focus = n; views = vs })
plan_split s w f u t n vs ef eu et low high en few length_is roomy h =
    let x = spot s.focus s.tree (area s.rows s.cols) in
    let least = spot_least s.focus s.tree (area s.rows s.cols) h.fits in
    let e : t ≡ with_subtree s.focus (Two w (pos 0) (One s.focus) (One n)) s.tree = et ∙ ap (with_subtree s.focus f) eu
    ∙ ap (λ k. with_subtree s.focus k s.tree) ef in
    let own = number_of s.focus s.tree h.numbers h.focus in
    rw e
    (record {
      size = h.size;
      fits = fits_planted s.focus (Two w (pos 0) (One s.focus) (One n)) s.tree (area s.rows s.cols) h.fits h.focus (halves_fit w roomy);
      modest = planted_modest s.focus (Two w (pos 0) (One s.focus) (One n)) s.tree ((omega arith, omega arith), tt, tt) h.modest;
      numbers = planted_numbers s.focus (Two w (pos 0) (One s.focus) (One n)) s.tree (own, (low, high)) h.numbers;
      distinct =
          distinct_planted s.focus n (Two w (pos 0) (One s.focus) (One n)) s.tree (λ k. refl) h.focus
          (ap (λ p. has p s.tree) en ∙ free_is_free s.tree few) h.distinct;
      focus = planted_has s.focus n (Two w (pos 0) (One s.focus) (One n)) s.tree h.focus (or_right (s.focus == n) (n == n) (same_is n));
      views = length_is;
    })
  where
    halves_fit : (w : Way) → is_roomy w (spot s.focus s.tree (area s.rows s.cols)) ≡ true
        → Fits (Two w (pos 0) (One s.focus) (One n)) (spot s.focus s.tree (area s.rows s.cols))
    halves_fit Right k = let least = spot_least s.focus s.tree (area s.rows s.cols) h.fits in (omega (arith, least.0), leb-true _ _ k)
    halves_fit Down k = let least = spot_least s.focus s.tree (area s.rows s.cols) h.fits in (leb-true _ _ k, omega (arith, least.1))

pub next_pane : (t : Shape) (r : Rect) (xs : List (ℕ × Rect)) (first p q : ℕ) → xs ≡ rects_of t r → first ≡ first_leaf t
    → q ≡ after first p (map (λ x. x.0) xs)
    → q ≡ after (first_leaf t) p (leaves t)
next_pane t r xs first p q exs ef eq = eq ∙ (λ i. after (ef i) p ((ap (map (λ x. x.0)) exs ∙ leaves_placed t r) i))

nat_le_no : (a b : ℕ) → b < a → nat_le a b ≡ false
nat_le_no a b h = elim (leb_tells a b) [ inl k ↦ absurd (omega (arith, k.1, h)) | inr k ↦ k.0 ]

pub split_full : (w : Way) (s : Plan) → 9 ≤ length (leaves s.tree) → split w s ≡ Refused PanesFull
split_full w s h = rw (le-leb 9 (length (leaves s.tree)) h) refl

pub split_small : (w : Way) (s : Plan) → length (leaves s.tree) < 9 → is_roomy w (spot s.focus s.tree (area s.rows s.cols)) ≡ false
    → split w s ≡ Refused TooSmall
split_small w s h small = rw (nat_le_no 9 (length (leaves s.tree)) h, small) refl

pub split_done : (w : Way) (s : Plan) (f u t : Shape) (n : ℕ) (vs : List ℕ) → length (leaves s.tree) < 9
    → is_roomy w (spot s.focus s.tree (area s.rows s.cols)) ≡ true
    → f ≡ Two w (pos 0) (One s.focus) (One n) → u ≡ s.tree → t ≡ with_subtree s.focus f u → n ≡ free s.tree → vs ≡ slice_set s.views n 0
    → split w s ≡ Laid (record { rows = s.rows; cols = s.cols; tree = t; focus = n; views = vs })
split_done w s f u t n vs h roomy ef eu et en ev =
    let e : t ≡ with_subtree s.focus (Two w (pos 0) (One s.focus) (One n)) s.tree = et ∙ ap (with_subtree s.focus f) eu
    ∙ ap (λ k. with_subtree s.focus k s.tree) ef
    in rw (nat_le_no 9 (length (leaves s.tree)) h, roomy, e, ev, en) refl

-- the length of the list of rectangles
pub counted : (t : Shape) (r : Rect) (xs : List (ℕ × Rect)) (n : ℕ) → n ≡ length xs → xs ≡ rects_of t r → n ≡ length (leaves t)
counted t r xs n en ex = en ∙ ap length ex ∙ length_placed t r

-- a pane that has room is split, if there are fewer than nine
pub split_laid : (w : Way) (a s : Plan) (xs : List (ℕ × Rect)) (r : Rect) (has : Bool) → a ≡ s → xs ≡ rects_of s.tree (area s.rows s.cols) → length xs < 9
    → r ≡ area a.rows a.cols → has ≡ is_roomy w (spot a.focus a.tree r) → has ≡ true → IsLaid (split w s)
split_laid w a s xs r has same is few er room there =
    let e = counted s.tree (area s.rows s.cols) xs (length xs) refl is in
    let count = ap (λ (p : Plan). length (leaves p.tree)) same in
    let roomy : is_roomy w (spot a.focus a.tree (area a.rows a.cols)) ≡ true =
    ap (λ k. is_roomy w (spot a.focus a.tree k)) (sym er) ∙ sym room ∙ there in
    subst (λ (p : Plan). IsLaid (split w p)) same (rw (nat_le_no 9 (length (leaves a.tree)) (omega (arith, e, count, few)), roomy) tt)

pub after_short : (first p : ℕ) (xs : List (ℕ × Rect)) → length xs < 2 → first ≡ after first p (map (λ x. x.0) xs)
after_short first p [] h = refl
after_short first p (x ∷ []) h = refl
after_short first p (x ∷ y ∷ ys) h = absurd (omega (arith, h))

pub scroll_done : (d : ℤ) (s : Plan) (t : Shape) (i v : ℕ) (vs : List ℕ) → t ≡ s.tree → i ≡ s.focus
    → v ≡ view_in_range (pos (slice_index s.views i) +ℤ d) → vs ≡ slice_set s.views i v
    → scroll d s ≡ Laid (record { rows = s.rows; cols = s.cols; tree = t; focus = s.focus; views = vs })
scroll_done d s t i v vs et ei ev es = rw (et, es, ev, ei) refl

is_there : (o : Option Shape) (b : Bool) (v : Shape) → is_some o ≡ true → o ≡ (if b then Some v else None) → o ≡ Some v
is_there o true v h e = e
is_there o false v h e = absurd (false≢true (ap is_some (sym e) ∙ h))

-- if a pane may grow it does, in a copy of the tree too
pub does_grow : (s : Plan) (d : ℤ) (u v : Shape) (r : Rect) (may does : Bool) → u ≡ s.tree → is_some (after_growth s.focus d s.tree r) ≡ may → may ≡ true
    → after_growth s.focus d u r ≡ (if does then Some v else None) → after_growth s.focus d u r ≡ Some v
does_grow s d u v r may does eu is can e = is_there (after_growth s.focus d u r) does v (ap (λ t. is_some (after_growth s.focus d t r)) eu ∙ is ∙ can) e

pub plan_grow : (s : Plan) (d : ℤ) (u v : Shape) (r : Rect) → u ≡ s.tree → r ≡ area s.rows s.cols → after_growth s.focus d u r ≡ Some v → IsPlan s
    → IsPlan (record { rows = s.rows; cols = s.cols; tree = v; focus = s.focus; views = s.views })
plan_grow s d u v r eu er e h =
    let some : after_growth s.focus d s.tree (area s.rows s.cols) ≡ Some v = (λ i. after_growth s.focus d (sym eu i) (sym er i)) ∙ e in
    let k : HasGrown s.tree v = subst (IfGrown s.tree) some (grown_keeps s.focus d s.tree (area s.rows s.cols) h.fits
    (omega (arith, h.size.1)) (omega (arith, h.size.3)) h.modest) in
    record {
      size = h.size;
      fits = (omega (arith, k.rows, h.fits.0), omega (arith, k.cols, h.fits.1));
      modest = k.modest;
      numbers = k.numbers h.numbers;
      distinct = λ p. omega (arith, k.times p, h.distinct p);
      focus = k.has s.focus ∙ h.focus;
      views = h.views;
    }
