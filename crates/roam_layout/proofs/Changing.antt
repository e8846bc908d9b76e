-- An act closes at most one pane, and makes at most one.
use Rattle.std.proofs.Common.{◌≡◌, ℕ, pos, ◌+◌, ◌≤◌, Bool, true, false, ◌||◌, cond, eqb, inl, inr, List, [], ◌∷◌, length, Option, Some, None, refl, sym, subst, ap, ◌∙◌, arith, length-append}
use Rattle.std.specs.Prelude.{is_some, nat_le}
use Rattle.std.specs.List.{filter_map}
use Rattle.std.proofs.lemmas.Bool.{eqb-true, eq-eqb, ne_eqb, cond_both, false≢true, or_left, or_right, cases_Bool}
use Rattle.std.proofs.lemmas.List.Elements.{filter_map-append}
use Rattle.roam_acts.specs.declared.acts.Act.{Act}
use Rattle.roam_acts.specs.declared.acts.Act.TheVariants.{Key, SplitRight, SplitDown, Close, Focus, Next, Grow, Size, View}
use Rattle.roam_cells.specs.declared.faults.Fault.TheVariants.{BadSize, TooSmall, NoPane, PanesFull, LastPane}
use Rattle.roam_layout.specs.Trees.{Shape, One, Two, has, is_one, times, with_subtree, with_split, without_pane, free, leaves}
use Rattle.roam_layout.specs.Rects.{rects_of, first_part, second_part, rect_in, spot, after_growth, fits_in, is_roomy}
use Rattle.roam_layout.specs.Changes.{unless_there, size_unless_there, panes_closed, panes_made}
use Rattle.roam_layout.specs.Layouts.{Plan, Outcome, Laid, Refused, IsPlan, outcome_of, split, with_tree, is_session_size, area, panes}
use Rattle.roam_layout.proofs.Counting.{times_planted, times_closed, times_none, times_some}
use Rattle.roam_layout.proofs.Listed.{lists, lists_placed}
use Rattle.roam_layout.proofs.Growing.{IfGrown, grown_keeps}
use Rattle.roam_layout.specs.declared.rects.Way.{Way}
use Rattle.roam_layout.specs.declared.rects.Way.TheVariants.{Right, Down}
use Rattle.roam_layout.specs.declared.rects.Rect.{Rect}
use Rattle.roam_layout.specs.declared.changes.PaneSize.{PaneSize}

-- how many panes of a tree another hasn't
abbrev missing : Shape → Shape → ℕ
missing u (One p) = cond (has p u) 0 1
missing u (Two w g a b) = missing u a + missing u b

-- ---- the lists of Changes are as long

is_there : (p : ℕ) (xs : List (ℕ × Rect)) → is_some (rect_in p xs) ≡ lists p xs
is_there p [] = refl
is_there p (x ∷ xs) = by_case (eqb x.0 p) (is_there p xs)
  where
    by_case : (v : Bool) → is_some (rect_in p xs) ≡ lists p xs → is_some (cond v (Some x.1) (rect_in p xs)) ≡ (v || lists p xs)
    by_case true rest = refl
    by_case false rest = rest

abbrev closed_in : Shape → Rect → ℕ × Rect → Option ℕ
closed_in u y = λ x. unless_there x.0 (rect_in x.0 (rects_of u y))

abbrev made_in : Shape → Rect → ℕ × Rect → Option PaneSize
made_in u y = λ x. size_unless_there x (rect_in x.0 (rects_of u y))

pub length-closed : (u : Shape) (y : Rect) (t : Shape) (x : Rect) → length (filter_map (closed_in u y) (rects_of t x)) ≡ missing u t
length-closed u y (One p) x = by_case (rect_in p (rects_of u y)) (is_there p (rects_of u y) ∙ lists_placed p u y)
  where
    by_case : (o : Option Rect) → is_some o ≡ has p u → length (filter_map (λ (e : ℕ × Rect). unless_there e.0 o)
        ((p, x) ∷ [])) ≡ cond (has p u) 0 1
    by_case None e = ap (λ v. cond v 0 1) e
    by_case (Some r) e = ap (λ v. cond v 0 1) e
length-closed u y (Two w g a b) x =
    let one = filter_map-append (closed_in u y) (rects_of a (first_part w g a b x)) (rects_of b (second_part w g a b x)) in
    ap (λ (l : List ℕ). length l) one
    ∙ length-append (filter_map (closed_in u y) (rects_of a (first_part w g a b x)))
    (filter_map (closed_in u y) (rects_of b (second_part w g a b x)))
    ∙ (λ i. length-closed u y a (first_part w g a b x) i + length-closed u y b (second_part w g a b x) i)

pub length-made : (u : Shape) (y : Rect) (t : Shape) (x : Rect) → length (filter_map (made_in u y) (rects_of t x)) ≡ missing u t
length-made u y (One p) x = by_case (rect_in p (rects_of u y)) (is_there p (rects_of u y) ∙ lists_placed p u y)
  where
    by_case : (o : Option Rect) → is_some o ≡ has p u → length (filter_map (λ (e : ℕ × Rect). size_unless_there e o)
        ((p, x) ∷ [])) ≡ cond (has p u) 0 1
    by_case None e = ap (λ v. cond v 0 1) e
    by_case (Some r) e = ap (λ v. cond v 0 1) e
length-made u y (Two w g a b) x =
    let one = filter_map-append (made_in u y) (rects_of a (first_part w g a b x)) (rects_of b (second_part w g a b x)) in
    ap (λ (l : List PaneSize). length l) one
    ∙ length-append (filter_map (made_in u y) (rects_of a (first_part w g a b x)))
    (filter_map (made_in u y) (rects_of b (second_part w g a b x)))
    ∙ (λ i. length-made u y a (first_part w g a b x) i + length-made u y b (second_part w g a b x) i)

-- ---- panes of trees

has_some : (k : ℕ) (t : Shape) → 1 ≤ times k t → has k t ≡ true
has_some k t h = elim (cases_Bool (has k t)) [ inl e ↦ e | inr e ↦ absurd (omega (arith, times_none k t e, h)) ]

none_missing : (u t : Shape) → ((k : ℕ) → has k t ≡ true → has k u ≡ true) → missing u t ≡ 0
none_missing u (One q) all = ap (λ v. cond v 0 1) (all q (eq-eqb q q refl))
none_missing u (Two w g a b) all =
    let one = none_missing u a (λ k h. all k (or_left (has k a) (has k b) h)) in
    let two = none_missing u b (λ k h. all k (or_right (has k a) (has k b) h)) in
    omega (arith, one, two)

planted_missing : (T o : Shape) (p : ℕ) (t : Shape) → ((k : ℕ) → has k t ≡ true → has k T ≡ true) → missing T (with_subtree p o t) ≤ missing T o
planted_missing T o p (One q) all =
    let none = none_missing T (One q) all in
    cond_both (eqb q p) o (One q) (λ (s : Shape). missing T s ≤ missing T o) (λ _. omega arith) (λ _. omega (arith, none))
planted_missing T o p (Two w g a b) all =
    let in_a : (k : ℕ) → has k a ≡ true → has k T ≡ true = λ k h. all k (or_left (has k a) (has k b) h) in
    let in_b : (k : ℕ) → has k b ≡ true → has k T ≡ true = λ k h. all k (or_right (has k a) (has k b) h) in
    let a_none = none_missing T a in_a in
    let b_none = none_missing T b in_b in
    let one = planted_missing T o p a in_a in
    let two = planted_missing T o p b in_b in
    cond_both (has p a) (Two w g (with_subtree p o a) b) (Two w g a (with_subtree p o b)) (λ (s : Shape). missing T s ≤ missing T o)
    (λ _. omega (arith, one, b_none)) (λ _. omega (arith, two, a_none))

one_times : (k p : ℕ) (t : Shape) → is_one p t ≡ true → times k t ≡ times k (One p)
one_times k p (One q) e = ap (λ n. times k (One n)) (eqb-true q p e)
one_times k p (Two w g a b) e = cc

-- closing takes no other pane away
times_kept : (k p : ℕ) (t : Shape) → times k t ≤ times k (without_pane p t) + times k (One p)
times_kept k p (One q) = omega arith
times_kept k p (Two w g a b) =
    let is : Shape → Type 0 = λ (s : Shape). times k a + times k b ≤ times k s + times k (One p) in
    cond_both (is_one p a) b (cond (is_one p b) a (cond (has p a) (Two w g (without_pane p a) b) (Two w g a (without_pane p b)))) is
    (λ e. omega (arith, one_times k p a e))
    (λ _. cond_both (is_one p b) a (cond (has p a) (Two w g (without_pane p a) b) (Two w g a (without_pane p b))) is
    (λ e. omega (arith, one_times k p b e))
    (λ _. cond_both (has p a) (Two w g (without_pane p a) b) (Two w g a (without_pane p b)) is (λ _. omega (arith, times_kept k p a))
    (λ _. omega (arith, times_kept k p b))))

closed_missing : (T : Shape) (p : ℕ) (t : Shape) → ((k : ℕ) → has k t ≡ true → has k T ≡ true) → missing (without_pane p T) t ≤ times p t
closed_missing T p (One q) all = by_case (eqb q p) refl
  where
    by_case : (v : Bool) → eqb q p ≡ v → cond (has q (without_pane p T)) 0 1 ≤ cond v 1 0
    by_case true e = cond_both (has q (without_pane p T)) 0 1 (λ n. n ≤ 1) (λ _. omega arith) (λ _. omega arith)
    by_case false e =
        let other : eqb p q ≡ false = ne_eqb p q (λ s. cc (eq-eqb q p (sym s), e)) in
        let none : times q (One p) ≡ 0 = ap (λ v. cond v 1 0) other in
        let there = times_some q T (all q (eq-eqb q q refl)) in
        let still = has_some q (without_pane p T) (omega (arith, there, none, times_kept q p T)) in
        cond_both (has q (without_pane p T)) 0 1 (λ n. n ≤ 0) (λ _. omega arith) (λ f. absurd (false≢true (sym f ∙ still)))
closed_missing T p (Two w g a b) all =
    let one = closed_missing T p a (λ k h. all k (or_left (has k a) (has k b) h)) in
    let two = closed_missing T p b (λ k h. all k (or_right (has k a) (has k b) h)) in
    omega (arith, one, two)

-- ---- acts

pub record AtMostOne (t u : Shape) : Type 0 where
  pub closed : missing u t ≤ 1
  pub made : missing t u ≤ 1

abbrev Fine : Plan → Outcome → Type 0
Fine s (Laid t) = AtMostOne s.tree t.tree
Fine s (Refused e) = Unit {0}

same_fine : (t : Shape) → AtMostOne t t
same_fine t = let none = none_missing t t (λ k h. h) in record { closed = omega (arith, none); made = omega (arith, none) }

split_fine : (w : Way) (s : Plan) → IsPlan s → AtMostOne s.tree (with_split w s.focus (free s.tree) s.tree)
split_fine w s plan =
    let t = s.tree in
    let p = s.focus in
    let n = free t in
    let o = Two w (pos 0) (One p) (One n) in
    let none = none_missing (with_subtree p o t) t (λ k h.
    has_some k (with_subtree p o t) (omega (arith, times_planted k p o t plan.focus, times_some k t h))) in
    let old : missing t (One p) ≡ 0 = ap (λ v. cond v 0 1) plan.focus in
    let new : missing t (One n) ≤ 1 = cond_both (has n t) 0 1 (λ m. m ≤ 1) (λ _. omega arith) (λ _. omega arith) in
    record { closed = omega (arith, none); made = omega (arith, planted_missing t o p t (λ k h. h), old, new) }

close_fine : (s : Plan) → IsPlan s → AtMostOne s.tree (without_pane s.focus s.tree)
close_fine s plan =
    let none = none_missing s.tree (without_pane s.focus s.tree) (λ k h.
    has_some k s.tree (omega (arith, times_some k (without_pane s.focus s.tree) h, times_closed k s.focus s.tree))) in
    record {
      closed = omega (arith, closed_missing s.tree s.focus s.tree (λ k h. h), plan.distinct s.focus);
      made = omega (arith, none);
    }

tree_fine : (s : Plan) (o : Option Shape) → IfGrown s.tree o → Fine s (with_tree s o)
tree_fine s None h = tt
tree_fine s (Some u) h =
    let lost = none_missing u s.tree (λ k e. h.has k ∙ e) in
    let gained = none_missing s.tree u (λ k e. sym (h.has k) ∙ e) in
    record { closed = omega (arith, lost); made = omega (arith, gained) }

way_fine : (w : Way) (s : Plan) → IsPlan s → Fine s (split w s)
way_fine w s plan =
    cond_both (nat_le 9 (length (leaves s.tree))) (Refused PanesFull)
    (cond (is_roomy w (spot s.focus s.tree (area s.rows s.cols))) (Laid _) (Refused TooSmall)) (Fine s) (λ _. tt)
    (λ _. cond_both (is_roomy w (spot s.focus s.tree (area s.rows s.cols))) (Laid _) (Refused TooSmall) (Fine s)
    (λ _. split_fine w s plan) (λ _. tt))

fine : (s : Plan) (act : Act) → IsPlan s → Fine s (outcome_of s act)
fine s (Key k) plan = same_fine s.tree
fine s SplitRight plan = way_fine Right s plan
fine s SplitDown plan = way_fine Down s plan
fine s Close plan = cond_both (is_one s.focus s.tree) (Refused LastPane) (Laid _) (Fine s) (λ _. tt) (λ _. close_fine s plan)
fine s (Focus p) plan = cond_both (has p s.tree) (Laid _) (Refused NoPane) (Fine s) (λ _. same_fine s.tree) (λ _. tt)
fine s Next plan = same_fine s.tree
fine s (Grow d) plan =
    cond_both (is_one s.focus s.tree) (Refused LastPane) (with_tree s (after_growth s.focus d s.tree (area s.rows s.cols))) (Fine s) (λ _. tt)
    (λ _. tree_fine s (after_growth s.focus d s.tree (area s.rows s.cols))
    (grown_keeps s.focus d s.tree (area s.rows s.cols) plan.fits (omega (arith, plan.size.1)) (omega (arith, plan.size.3)) plan.modest))
fine s (Size r c) plan =
    cond_both (is_session_size r c) (cond (fits_in s.tree (area r c)) (Laid _) (Refused TooSmall)) (Refused BadSize) (Fine s)
    (λ _. cond_both (fits_in s.tree (area r c)) (Laid _) (Refused TooSmall) (Fine s) (λ _. same_fine s.tree) (λ _. tt)) (λ _. tt)
fine s (View d) plan = same_fine s.tree

pub at_most_one : (s t : Plan) (act : Act) → IsPlan s → outcome_of s act ≡ Laid t
    → (length (panes_closed (panes s) (panes t)) ≤ 1) × (length (panes_made (panes s) (panes t)) ≤ 1)
at_most_one s t act plan e =
    let all : AtMostOne s.tree t.tree = subst (λ (o : Outcome). Fine s o) e (fine s act plan) in
    let x = area s.rows s.cols in
    let y = area t.rows t.cols in
    (omega (arith, length-closed t.tree y s.tree x, all.closed), omega (arith, length-made s.tree x t.tree y, all.made))
