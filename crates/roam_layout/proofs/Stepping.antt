-- Steps of the loop that adds a row's segments.
use Rattle.std.proofs.Common.{◌≡◌, ℕ, ◌+◌, ◌<◌, ◌≤◌, List, [], ◌∷◌, ◌++◌, drop, length, get_or, refl, sym, ap, ◌∙◌, append_assoc}
use Rattle.std.proofs.lemmas.List.{drop_more, drop_all, drop-drop, append-nil}
use Rattle.std.proofs.lemmas.List.Elements.{All-head, All-tail}
use Rattle.roam_cells.specs.Glyph.{Glyph}
use Rattle.roam_screens.specs.Screenshot.{Screenshot}
use Rattle.roam_layout.specs.Changes.{size_of}
use Rattle.roam_layout.specs.Faces.{pane_segment, border_segment, first_segment, segments, picture_size, ArePictures, Show}
use Rattle.roam_layout.proofs.Segments.{segments_by}
use Rattle.roam_layout.specs.declared.rects.Way.{Way}
use Rattle.roam_layout.specs.declared.rects.Rect.{Rect}

pub segments_are : (r : ℕ) (picture : ℕ → Screenshot) (ps : List (ℕ × Rect)) (es : List (Way × Rect)) (ss : List (ℕ × Screenshot))
    → ArePictures ps ss
    → Show picture ss → segments r ps es ss ≡ segments_by r picture ps es
segments_are r picture [] es ss e show = refl
segments_are r picture (x ∷ ps) es [] e show = cc
segments_are r picture (x ∷ ps) es (y ∷ ss) e show =
    let head : picture_size y ≡ size_of x = cc in
    let rest : ArePictures ps ss = cc in
    let number : y.0 ≡ x.0 = ap (λ s. s.pane) head in
    let same : y.1 ≡ picture x.0 = All-head (λ (z : ℕ × Screenshot). z.1 ≡ picture z.0) y ss show ∙ ap picture number in
    let more = segments_are r picture ps (drop 1 es) ss rest (All-tail (λ (z : ℕ × Screenshot). z.1 ≡ picture z.0) y ss show) in
    rw (same, more) refl

pub segment_there : (r : ℕ) (es : List (Way × Rect)) (k : ℕ) (d : Way × Rect) → k < length es
    → first_segment r (drop k es) ≡ border_segment r (get_or es k d)
segment_there r es k d h = ap (first_segment r) (drop_more es k d h)

pub segment_none : (r : ℕ) (es : List (Way × Rect)) (k : ℕ) → length es ≤ k → first_segment r (drop k es) ≡ []
segment_none r es k h = ap (first_segment r) (drop_all k es h)

pub segments_step : (r : ℕ) (ps : List (ℕ × Rect)) (es : List (Way × Rect)) (ss : List (ℕ × Screenshot)) (k : ℕ) (d : ℕ × Rect)
    (e : ℕ × Screenshot)
    → k < length ps → k < length ss
    → segments r (drop k ps) (drop k es) (drop k ss)
    ≡ pane_segment r (get_or ps k d).1 (get_or ss k e).1 ++ (first_segment r (drop k es) ++ segments r (drop (k + 1) ps) (drop (k + 1) es)
    (drop (k + 1) ss))
segments_step r ps es ss k d e h j =
    (λ i. segments r (drop_more ps k d h i) (drop k es) (drop_more ss k e j i))
    ∙ ap (λ l. pane_segment r (get_or ps k d).1 (get_or ss k e).1 ++ (first_segment r (drop k es) ++ segments r (drop (k + 1) ps) l
    (drop (k + 1) ss)))
    (drop-drop 1 k es)

-- the segments so far, a pane's segment and a border's
pub segments_more : (was mid now pane edge rest old all : List Glyph) → old ≡ pane ++ (edge ++ rest) → mid ≡ was ++ pane → now ≡ mid ++ edge
    → was ++ old ≡ all → now ++ rest ≡ all
segments_more was mid now pane edge rest old all eo em en ea =
    ap (λ l. l ++ rest) (en ∙ ap (λ l. l ++ edge) em) ∙ append_assoc (was ++ pane) edge rest ∙ append_assoc was pane (edge ++ rest)
    ∙ ap (λ l. was ++ l) (sym eo) ∙ ea

-- one step of a row's segments: a pane and the border after it, and the last pane
module _ (r : ℕ) (ps : List (ℕ × Rect)) (es : List (Way × Rect)) (ss : List (ℕ × Screenshot)) (k : ℕ) (d : ℕ × Rect)
    (e : ℕ × Screenshot) (was mid now all : List Glyph) (h : k < length ps) (j : k < length ss) where
  pub pane_and_border : (f : Way × Rect) → k < length es → mid ≡ was ++ pane_segment r (get_or ps k d).1 (get_or ss k e).1
      → now ≡ mid ++ border_segment r (get_or es k f) → was ++ segments r (drop k ps) (drop k es) (drop k ss) ≡ all
      → now ++ segments r (drop (k + 1) ps) (drop (k + 1) es) (drop (k + 1) ss) ≡ all
  pane_and_border f l em en ea =
      let rest = segments r (drop (k + 1) ps) (drop (k + 1) es) (drop (k + 1) ss) in
      let pane = pane_segment r (get_or ps k d).1 (get_or ss k e).1 in
      let edge = border_segment r (get_or es k f) in
      segments_more was mid now pane edge rest (segments r (drop k ps) (drop k es) (drop k ss)) all
      (segments_step r ps es ss k d e h j ∙ ap (λ (l : List Glyph). pane ++ (l ++ rest)) (segment_there r es k f l)) em en ea

  pub last_pane : length es ≤ k → mid ≡ was ++ pane_segment r (get_or ps k d).1 (get_or ss k e).1 → now ≡ mid
      → was ++ segments r (drop k ps) (drop k es) (drop k ss) ≡ all → now ++ segments r (drop (k + 1) ps) (drop (k + 1) es)
      (drop (k + 1) ss) ≡ all
  last_pane l em en ea =
      let rest = segments r (drop (k + 1) ps) (drop (k + 1) es) (drop (k + 1) ss) in
      let pane = pane_segment r (get_or ps k d).1 (get_or ss k e).1 in
      segments_more was mid now pane [] rest (segments r (drop k ps) (drop k es) (drop k ss)) all
      (segments_step r ps es ss k d e h j ∙ ap (λ (l : List Glyph). pane ++ (l ++ rest)) (segment_none r es k l)) em
      (en ∙ sym (append-nil mid)) ea
