-- The pictures of a layout's panes: their sizes, and whose they are.
use Rattle.std.proofs.Common.{◌≡◌, ℕ, suc, ◌<◌, Bool, true, false, ◌||◌, cond, eqb, List, [], ◌∷◌, map, length, get_or, Option, Some, None, is_some, refl, sym, ap, ◌∙◌, subst, arith}
use Rattle.std.specs.Prelude.{slice_index}
use Rattle.std.proofs.lemmas.List.{get_or-map, length-map}
use Rattle.std.proofs.lemmas.List.Elements.{All-map}
use Rattle.roam_screens.specs.Screenshot.{Screenshot, IsScreenshot, blank_screenshot}
use Rattle.roam_term.specs.Stands.{TermView}
use Rattle.roam_term.proofs.Picturing.{picture_screen}
use Rattle.roam_layout.specs.Trees.{has}
use Rattle.roam_layout.specs.Rects.{rect_in}
use Rattle.roam_layout.specs.Layouts.{Plan, IsPlan, area, panes}
use Rattle.roam_layout.specs.Changes.{size_of}
use Rattle.roam_layout.specs.Faces.{picture_size, picture_at, picture_in, ArePictures, Show}
use Rattle.roam_layout.specs.declared.rects.Rect.{Rect}
use Rattle.roam_layout.proofs.Listed.{lists, lists_placed, listed}
use Rattle.roam_session.specs.Stands.{IsPlaced, ArePlaced, IsQuietAt, shown_at, shown_by, term_at}
use Rattle.roam_session.specs.Pictures.{AreScreens, AreThere, shots_of}
use Rattle.roam_session.proofs.Quiet.{shows_now}
use Rattle.roam_session.proofs.Rectangles.{found_by_number}

-- ---- the panes of a layout

listed_some : (p : ℕ) (r : Rect) (xs : List (ℕ × Rect)) → rect_in p xs ≡ Some r → lists p xs ≡ true
listed_some p r [] e = cc
listed_some p r (x ∷ xs) e = by_case (listed_some p r xs) (eqb x.0 p) e
  where
    by_case : (rect_in p xs ≡ Some r → lists p xs ≡ true) → (v : Bool) → cond v (Some x.1) (rect_in p xs) ≡ Some r
        → (v || lists p xs) ≡ true
    by_case rest true at = refl
    by_case rest false at = rest at

pub pane_there : (s : Plan) → IsPlan s → (k : ℕ) (d : ℕ × Rect) → k < length (panes s) → has (get_or (panes s) k d).0 s.tree ≡ true
pane_there s plan k d h =
    let x = get_or (panes s) k d in
    sym (lists_placed x.0 s.tree (area s.rows s.cols)) ∙ listed_some x.0 x.1 (panes s) (found_by_number s plan k d h)

-- a number in a list is found
found_some : (p : ℕ) (xs : List (ℕ × Rect)) → lists p xs ≡ true → is_some (rect_in p xs) ≡ true
found_some p [] e = cc
found_some p (x ∷ xs) e = by_case (found_some p xs) (eqb x.0 p) e
  where
    by_case : (lists p xs ≡ true → is_some (rect_in p xs) ≡ true) → (v : Bool) → (v || lists p xs) ≡ true
        → is_some (cond v (Some x.1) (rect_in p xs)) ≡ true
    by_case rest true at = refl
    by_case rest false at = rest at

there_at : (r : Option Rect) (o : Option TermView) → is_some r ≡ true → IsPlaced r o → is_some o ≡ true
there_at None o e placed = cc
there_at (Some r) None e placed = absurd placed
there_at (Some r) (Some t) e placed = refl

pub are_there : (s : Plan) (terms : List (Option TermView)) → ArePlaced s terms → AreThere s terms
are_there s terms placed p there =
    there_at (rect_in p (panes s)) (term_at terms p) (found_some p (panes s) (lists_placed p s.tree (area s.rows s.cols) ∙ there)) (placed p)

-- ---- one pane

sizes_of : (o : Option TermView) (r : Rect) (view : ℕ) → IsPlaced (Some r) o
    → ((shown_at view o).rows ≡ r.rows) × ((shown_at view o).cols ≡ r.cols)
sizes_of None r view placed = absurd placed
sizes_of (Some t) r view placed = placed

screen_of : (o : Option TermView) (r : Rect) (view : ℕ) → IsPlaced (Some r) o → IsQuietAt o → IsScreenshot (shown_at view o)
screen_of None r view placed quiet = absurd placed
screen_of (Some t) r view placed quiet =
    subst IsScreenshot (sym (shows_now t quiet.rows quiet.cols quiet.lines quiet.log view quiet.stands))
    (picture_screen quiet.rows quiet.cols quiet.lines quiet.log view quiet.size quiet.sizes).shown

-- ---- all panes

maps_same : (ps : List (ℕ × Rect)) (ss : List (ℕ × Screenshot)) → length ss ≡ length ps
    → ((k : ℕ) (d : ℕ × Rect) (e : ℕ × Screenshot) → k < length ps → picture_size (get_or ss k e) ≡ size_of (get_or ps k d))
    → map picture_size ss ≡ map size_of ps
maps_same [] [] count each = refl
maps_same [] (y ∷ ss) count each = absurd (omega (arith, count))
maps_same (x ∷ ps) [] count each = absurd (omega (arith, count))
maps_same (x ∷ ps) (y ∷ ss) count each =
    let rest = maps_same ps ss (omega (arith, count)) (λ k d e h. each (suc k) d e (omega (arith, h))) in
    let first = each 0 x y (omega arith) in
    λ i. first i ∷ rest i

module _ (s : Plan) (terms : List (Option TermView)) where
  abbrev pair : ℕ × Rect → ℕ × Screenshot
  pair x = (x.0, shown_by s terms x.0)

  pub shots_count : length (shots_of s terms) ≡ length (panes s)
  shots_count = length-map (panes s) pair

  pub shot_at : (k : ℕ) (d : ℕ × Rect) → k < length (panes s) → picture_at (shots_of s terms) k ≡ shown_by s terms (get_or (panes s) k d).0
  shot_at k d h = ap (λ (y : ℕ × Screenshot). y.1) (get_or-map pair (panes s) k d (0, blank_screenshot 2 4) h)

  pub shots_show : Show (shown_by s terms) (shots_of s terms)
  shots_show = All-map (λ (y : ℕ × Screenshot). y.1 ≡ shown_by s terms y.0) pair (panes s) (λ k d h. refl)

  lists_pairs : (p : ℕ) (xs : List (ℕ × Rect)) → lists p (map pair xs) ≡ lists p xs
  lists_pairs p [] = refl
  lists_pairs p (x ∷ xs) = ap (λ v. eqb x.0 p || v) (lists_pairs p xs)

  none_listed : (p : ℕ) (xs : List (ℕ × Screenshot)) → lists p xs ≡ false → picture_in xs p ≡ blank_screenshot 2 4
  none_listed p [] e = refl
  none_listed p (y ∷ ys) e = by_case (none_listed p ys) (eqb y.0 p) e
    where
      by_case : (lists p ys ≡ false → picture_in ys p ≡ blank_screenshot 2 4) → (v : Bool) → (v || lists p ys) ≡ false
          → cond v y.1 (picture_in ys p) ≡ blank_screenshot 2 4
      by_case rest true at = cc
      by_case rest false at = rest at

  lists_has : (p : ℕ) → lists p (shots_of s terms) ≡ has p s.tree
  lists_has p = lists_pairs p (panes s) ∙ lists_placed p s.tree (area s.rows s.cols)

  -- the picture of a pane that is there, and of one that is not
  pub shot_of : (p : ℕ) → has p s.tree ≡ true → picture_in (shots_of s terms) p ≡ shown_by s terms p
  shot_of p there = listed (shown_by s terms) p (shots_of s terms) shots_show (lists_has p ∙ there)

  pub no_shot_of : (p : ℕ) → has p s.tree ≡ false → picture_in (shots_of s terms) p ≡ blank_screenshot 2 4
  no_shot_of p none = none_listed p (shots_of s terms) (lists_has p ∙ none)

  module _ (plan : IsPlan s) (placed : ArePlaced s terms) where
    placed_here : (k : ℕ) (d : ℕ × Rect) → k < length (panes s)
        → IsPlaced (Some (get_or (panes s) k d).1) (term_at terms (get_or (panes s) k d).0)
    placed_here k d h =
        let x = get_or (panes s) k d in
        subst (λ (r : Option Rect). IsPlaced r (term_at terms x.0)) (found_by_number s plan k d h) (placed x.0)

    pub are_pictures : ArePictures (panes s) (shots_of s terms)
    are_pictures =
        maps_same (panes s) (shots_of s terms) shots_count (λ k d e h.
        let x = get_or (panes s) k d in
        let sizes = sizes_of (term_at terms x.0) x.1 (slice_index s.views x.0) (placed_here k d h) in
        ap picture_size (get_or-map pair (panes s) k d e h) ∙ (λ i. record { pane = x.0; rows = sizes.0 i; cols = sizes.1 i }))

    pub are_screens : ((k : ℕ) → IsQuietAt (term_at terms k)) → AreScreens s terms
    are_screens quiet =
        All-map (λ (y : ℕ × Screenshot). IsScreenshot y.1) pair (panes s) (λ k d h.
        let x = get_or (panes s) k d in
        screen_of (term_at terms x.0) x.1 (slice_index s.views x.0) (placed_here k d h) (quiet x.0))
