-- The segments of a row, put side by side, are the face's row.
use Rattle.std.proofs.Common.{◌≡◌, ℕ, ◌+◌, ◌-◌, ◌*◌, ◌<◌, ◌≤◌, true, false, cond, inl, inr, List, [], ◌∷◌, ◌++◌, drop, replicate, length, get_or, Some, None, refl, sym, ap, ◌∙◌, arith, append_assoc}
use Rattle.std.proofs.lemmas.Bool.{cases_lt}
use Rattle.std.proofs.lemmas.List.{append-nil}
use Rattle.std.proofs.lemmas.List.Edits.{get_or-between, length-between}
use Rattle.roam_cells.specs.Glyph.{Glyph, blank}
use Rattle.roam_cells.specs.Place.{row_of}
use Rattle.roam_screens.specs.Screenshot.{Screenshot, IsScreenshot}
use Rattle.roam_cells.proofs.Places.{row_from}
use Rattle.roam_layout.specs.Trees.{Shape, One, Two}
use Rattle.roam_layout.specs.Rects.{rects_of, borders, within, first_length, first_part, border_part, second_part, front, part, Fits}
use Rattle.roam_layout.specs.Faces.{first_with_place, pane_cell, sign, pane_segment, border_segment, first_segment}
use Rattle.roam_layout.proofs.Covering.{across_in, down_in}
use Rattle.roam_layout.proofs.Places.{Shows, shows_same, shows_beside, shows_equal, shows_one, tree_cell, first_cell, border_sign, second_cell, not_row, not_col, both, within_in, within_below, within_above, within_range, within_none}
use Rattle.roam_layout.specs.declared.rects.Way.{Way}
use Rattle.roam_layout.specs.declared.rects.Way.TheVariants.{Right, Down}
use Rattle.roam_layout.specs.declared.rects.Rect.{Rect}

-- ---- pictures in their rectangles

-- a picture has a rectangle's size
pub record IsPictured (picture : ℕ → Screenshot) (p : ℕ) (x : Rect) : Type 0 where
  pub rows : (picture p).rows ≡ x.rows
  pub cols : (picture p).cols ≡ x.cols
  pub shot : IsScreenshot (picture p)

abbrev pub ArePictured : (ℕ → Screenshot) → List (ℕ × Rect) → Type 0
ArePictured picture [] = Unit {0}
ArePictured picture (x ∷ xs) = IsPictured picture x.0 x.1 × ArePictured picture xs

pub pictured_parts : (picture : ℕ → Screenshot) (xs ys : List (ℕ × Rect)) → ArePictured picture (xs ++ ys)
    → ArePictured picture xs × ArePictured picture ys
pictured_parts picture [] ys h = (tt, h)
pictured_parts picture (x ∷ xs) ys h = let rest = pictured_parts picture xs ys h.1 in ((h.0, rest.0), rest.1)

-- ---- the segments by the tree

abbrev pub strip : ℕ → (ℕ → Screenshot) → Shape → Rect → List Glyph
strip r picture (One p) x = pane_segment r x (picture p)
strip r picture (Two w g a b) x =
    strip r picture a (first_part w g a b x)
    ++ (border_segment r (w, border_part w g a b x) ++ strip r picture b (second_part w g a b x))

-- the segments of panes whose pictures are given by number
abbrev pub segments_by : ℕ → (ℕ → Screenshot) → List (ℕ × Rect) → List (Way × Rect) → List Glyph
segments_by r picture [] es = []
segments_by r picture (x ∷ xs) es = pane_segment r x.1 (picture x.0) ++ (first_segment r es ++ segments_by r picture xs (drop 1 es))

module _ (r : ℕ) (picture : ℕ → Screenshot) where
  -- in tree order panes and borders take turns
  woven : (t : Shape) (x : Rect) (ps : List (ℕ × Rect)) (e : Way × Rect) (es : List (Way × Rect))
      → segments_by r picture (rects_of t x ++ ps) (borders t x ++ e ∷ es) ≡ strip r picture t x ++
      (border_segment r e ++ segments_by r picture ps es)
  woven (One p) x ps e es = refl
  woven (Two w g a b) x ps e es =
      let xa = first_part w g a b x in
      let xb = second_part w g a b x in
      let edge : Way × Rect = (w, border_part w g a b x) in
      let rest = border_segment r e ++ segments_by r picture ps es in
      (λ i. segments_by r picture (append_assoc (rects_of a xa) (rects_of b xb) ps i)
      (append_assoc (borders a xa) (edge ∷ borders b xb) (e ∷ es) i))
      ∙ woven a xa (rects_of b xb ++ ps) edge (borders b xb ++ e ∷ es)
      ∙ ap (λ l. strip r picture a xa ++ (border_segment r edge ++ l)) (woven b xb ps e es)
      ∙ ap (λ l. strip r picture a xa ++ l) (sym (append_assoc (border_segment r edge) (strip r picture b xb) rest))
      ∙ sym (append_assoc (strip r picture a xa) (border_segment r edge ++ strip r picture b xb) rest)

  pub woven_last : (t : Shape) (x : Rect) → segments_by r picture (rects_of t x) (borders t x) ≡ strip r picture t x
  woven_last (One p) x = append-nil (pane_segment r x (picture p))
  woven_last (Two w g a b) x =
      let xa = first_part w g a b x in
      let xb = second_part w g a b x in
      let edge : Way × Rect = (w, border_part w g a b x) in
      woven a xa (rects_of b xb) edge (borders b xb) ∙ ap (λ l. strip r picture a xa ++ (border_segment r edge ++ l)) (woven_last b xb)

-- ---- the cells of the segments

within_less : (first n k m r : ℕ) → k + m ≤ n → within first n r ≡ false → within (first + k) m r ≡ false
within_less first n k m r le e =
    elim (cases_lt r (first + k)) [
      | inl below ↦ within_below (first + k) m r below
      | inr above ↦ elim (cases_lt r (first + k + m)) [
        | inl in' ↦ absurd (within_none first n r e (omega (arith, above)) (omega (arith, in', le)))
        | inr past ↦ within_above (first + k) m r past
      ]
    ]

-- if the whole has no row, no part has one
strip_none : (r : ℕ) (picture : ℕ → Screenshot) (t : Shape) (x : Rect) → Fits t x → within x.row x.rows r ≡ false → strip r picture t x ≡ []
strip_none r picture (One p) x fits e = ap (λ v. cond v (row_of (picture p).cols (picture p).cells (r - x.row)) []) e
strip_none r picture (Two Right g a b) x fits e =
    let n = first_length Right g a b x in
    let bounds = across_in g a b x fits in
    let left = strip_none r picture a (front Right n x) (omega (arith, fits.0), bounds.0) e in
    let right = strip_none r picture b (part Right (n + 1) (x.cols - n - 1) x) (omega (arith, fits.0), omega (arith, bounds.1)) e in
    λ i. left i ++ (cond (e i) (replicate 1 (sign Right)) [] ++ right i)
strip_none r picture (Two Down g a b) x fits e =
    let n = first_length Down g a b x in
    let bounds = down_in g a b x fits in
    let upper = strip_none r picture a (front Down n x) (bounds.0, omega (arith, fits.1))
    (ap (λ k. within k n r) (omega arith) ∙ within_less x.row x.rows 0 n r (omega (arith, bounds.1)) e) in
    let lower = strip_none r picture b (part Down (n + 1) (x.rows - n - 1) x) (omega (arith, bounds.1), omega (arith, fits.1))
    (within_less x.row x.rows (n + 1) (x.rows - n - 1) r (omega (arith, bounds.1)) e) in
    let edge = within_less x.row x.rows n 1 r (omega (arith, bounds.1)) e in
    λ i. upper i ++ (cond (edge i) (replicate x.cols (sign Down)) [] ++ lower i)

-- a pane shows its picture
pane_shows : (r : ℕ) (picture : ℕ → Screenshot) (p : ℕ) (x : Rect) → IsPictured picture p x → within x.row x.rows r ≡ true
    → Shows (pane_segment r x (picture p)) x.col x.cols (tree_cell picture (One p) x r)
pane_shows r picture p x is e =
    let shot = picture p in
    let i = r - x.row in
    let low = within_range x.row x.rows r e in
    let next = row_from shot.cols (i + 1) shot.rows 0 (omega (arith, low.0, low.1, is.rows)) in
    let inner : (i + 1) * shot.cols ≤ length shot.cells = omega (arith, next, is.shot.count) in
    let one : (i + 1) * shot.cols ≡ i * shot.cols + shot.cols = omega arith in
    shows_equal (pane_segment r x shot) (row_of shot.cols shot.cells i) x.col x.cols (tree_cell picture (One p) x r)
    (ap (λ v. cond v (row_of shot.cols shot.cells i) []) e)
    (record {
      size = length-between shot.cells (i * shot.cols) ((i + 1) * shot.cols) inner ∙ omega (arith, one, is.cols);
      at = λ k h.
          let here = both r (x.col + k) x e (within_in x.col x.cols (x.col + k) (omega arith) (omega (arith, h))) in
          let col : x.col + k - x.col ≡ k = omega arith in
          get_or-between shot.cells (i * shot.cols) ((i + 1) * shot.cols) k blank (omega (arith, one, h, is.cols))
          ∙ ap (λ j. get_or shot.cells (i * shot.cols + j) blank) (sym col)
          ∙ ap (λ v. pane_cell picture r (x.col + k) (cond v (Some (p, x)) None) None) (sym here);
    })

-- two trees beside one another with a border's column between them
module _ (r : ℕ) (picture : ℕ → Screenshot) (a b : Shape) (x : Rect) (n : ℕ) (fa : Fits a (front Right n x))
    (fb : Fits b (part Right (n + 1) (x.cols - n - 1) x)) (le : n + 1 ≤ x.cols) (e : within x.row x.rows r ≡ true) (f : ℕ → Glyph) where
  abbrev left : Rect
  left = front Right n x

  abbrev edge : Rect
  edge = part Right n 1 x

  abbrev right : Rect
  right = part Right (n + 1) (x.cols - n - 1) x

  across_shows : (xs ys : List Glyph)
      → ((c : ℕ) → f c ≡ pane_cell picture r c (first_with_place r c (rects_of a left ++ rects_of b right))
      (first_with_place r c (borders a left ++ (Right, edge) ∷ borders b right)))
      → Shows xs x.col n (tree_cell picture a left r) → Shows ys (x.col + (n + 1)) (x.cols - n - 1) (tree_cell picture b right r)
      → Shows (xs ++ (border_segment r (Right, edge) ++ ys)) x.col x.cols f
  across_shows xs ys is s t =
      let first = shows_same xs x.col n (tree_cell picture a left r) f s (λ c low high.
      sym (is c ∙ first_cell picture Right a b left edge right fa fb r c
      (not_col r c edge (within_below (x.col + n) 1 c high))
      (not_col r c right (within_below (x.col + (n + 1)) (x.cols - n - 1) c (omega (arith, high)))))) in
      let middle = shows_equal (border_segment r (Right, edge)) (replicate 1 (sign Right)) (x.col + n) 1 f
      (ap (λ v. cond v (replicate 1 (sign Right)) []) e)
      (shows_same (replicate 1 (sign Right)) (x.col + n) 1 (λ c. sign Right) f (shows_one (x.col + n) 1 (sign Right)) (λ c low high.
      sym (is c ∙ border_sign picture Right a b left edge right fa fb r c
      (not_col r c left (within_above x.col n c low))
      (both r c edge e (within_in (x.col + n) 1 c low high))
      (not_col r c right (within_below (x.col + (n + 1)) (x.cols - n - 1) c (omega (arith, high))))))) in
      let second = shows_same ys (x.col + (n + 1)) (x.cols - n - 1) (tree_cell picture b right r) f t (λ c low high.
      sym (is c ∙ second_cell picture Right a b left edge right fa fb r c
      (not_col r c left (within_above x.col n c (omega (arith, low))))
      (not_col r c edge (within_above (x.col + n) 1 c (omega (arith, low)))))) in
      shows_beside xs (border_segment r (Right, edge) ++ ys) x.col (x.col + n) n (1 + (x.cols - n - 1)) x.cols f refl
      (omega (arith, le)) first
      (shows_beside (border_segment r (Right, edge)) ys (x.col + n) (x.col + (n + 1)) 1 (x.cols - n - 1) (1 + (x.cols - n - 1)) f
      (omega arith) refl
      middle second)

-- two trees below one another with a border's row between them
module _ (r : ℕ) (picture : ℕ → Screenshot) (a b : Shape) (x : Rect) (n : ℕ) (fa : Fits a (front Down n x))
    (fb : Fits b (part Down (n + 1) (x.rows - n - 1) x)) (le : n + 1 ≤ x.rows) (f : ℕ → Glyph) where
  abbrev upper : Rect
  upper = front Down n x

  abbrev level : Rect
  level = part Down n 1 x

  abbrev lower : Rect
  lower = part Down (n + 1) (x.rows - n - 1) x

  abbrev IsBoth : Type 0
  IsBoth = (c : ℕ) → f c ≡ pane_cell picture r c (first_with_place r c (rects_of a upper ++ rects_of b lower))
      (first_with_place r c (borders a upper ++ (Down, level) ∷ borders b lower))

  no_level : within (x.row + n) 1 r ≡ false → border_segment r (Down, level) ≡ []
  no_level e = ap (λ v. cond v (replicate x.cols (sign Down)) []) e

  upper_shows : (xs ys : List Glyph) → IsBoth → ys ≡ [] → r < x.row + n → Shows xs x.col x.cols (tree_cell picture a upper r)
      → Shows (xs ++ (border_segment r (Down, level) ++ ys)) x.col x.cols f
  upper_shows xs ys is none high s =
      let not_level = within_below (x.row + n) 1 r high in
      shows_equal (xs ++ (border_segment r (Down, level) ++ ys)) xs x.col x.cols f
      ((λ i. xs ++ (no_level not_level i ++ none i)) ∙ append-nil xs)
      (shows_same xs x.col x.cols (tree_cell picture a upper r) f s (λ c p q.
      sym (is c ∙ first_cell picture Down a b upper level lower fa fb r c (not_row r c level not_level)
      (not_row r c lower (within_below (x.row + (n + 1)) (x.rows - n - 1) r (omega (arith, high)))))))

  level_shows : (xs ys : List Glyph) → IsBoth → xs ≡ [] → ys ≡ [] → r ≡ x.row + n
      → Shows (xs ++ (border_segment r (Down, level) ++ ys)) x.col x.cols f
  level_shows xs ys is none more e =
      let on = within_in (x.row + n) 1 r (omega (arith, e)) (omega (arith, e)) in
      shows_equal (xs ++ (border_segment r (Down, level) ++ ys)) (replicate x.cols (sign Down)) x.col x.cols f
      ((λ i. none i ++ (cond (on i) (replicate x.cols (sign Down)) [] ++ more i)) ∙ append-nil (replicate x.cols (sign Down)))
      (shows_same (replicate x.cols (sign Down)) x.col x.cols (λ c. sign Down) f (shows_one x.col x.cols (sign Down)) (λ c p q.
      sym (is c ∙ border_sign picture Down a b upper level lower fa fb r c (not_row r c upper (within_above x.row n r (omega (arith, e))))
      (both r c level on (within_in x.col x.cols c p q))
      (not_row r c lower (within_below (x.row + (n + 1)) (x.rows - n - 1) r (omega (arith, e)))))))

  lower_shows : (xs ys : List Glyph) → IsBoth → xs ≡ [] → x.row + n + 1 ≤ r → Shows ys x.col x.cols (tree_cell picture b lower r)
      → Shows (xs ++ (border_segment r (Down, level) ++ ys)) x.col x.cols f
  lower_shows xs ys is none low s =
      let not_level = within_above (x.row + n) 1 r low in
      shows_equal (xs ++ (border_segment r (Down, level) ++ ys)) ys x.col x.cols f
      (λ i. none i ++ (no_level not_level i ++ ys))
      (shows_same ys x.col x.cols (tree_cell picture b lower r) f s (λ c p q.
      sym (is c ∙ second_cell picture Down a b upper level lower fa fb r c (not_row r c upper (within_above x.row n r (omega (arith, low))))
      (not_row r c level not_level))))

-- a row's segments show the same as the tree there
pub strip_shows : (r : ℕ) (picture : ℕ → Screenshot) (t : Shape) (x : Rect) → Fits t x → ArePictured picture (rects_of t x)
    → within x.row x.rows r ≡ true → Shows (strip r picture t x) x.col x.cols (tree_cell picture t x r)
strip_shows r picture (One p) x fits pictured e = pane_shows r picture p x pictured.0 e
strip_shows r picture (Two Right g a b) x fits pictured e =
    let n = first_length Right g a b x in
    let bounds = across_in g a b x fits in
    let fa : Fits a (front Right n x) = (omega (arith, fits.0), bounds.0) in
    let fb : Fits b (part Right (n + 1) (x.cols - n - 1) x) = (omega (arith, fits.0), omega (arith, bounds.1)) in
    let parts = pictured_parts picture (rects_of a (front Right n x)) (rects_of b (part Right (n + 1) (x.cols - n - 1) x)) pictured in
    across_shows r picture a b x n fa fb (omega (arith, bounds.1)) e (tree_cell picture (Two Right g a b) x r) _ _ (λ c. refl)
    (strip_shows r picture a (front Right n x) fa parts.0 e)
    (strip_shows r picture b (part Right (n + 1) (x.cols - n - 1) x) fb parts.1 e)
strip_shows r picture (Two Down g a b) x fits pictured e =
    let n = first_length Down g a b x in
    let bounds = down_in g a b x fits in
    let fa : Fits a (front Down n x) = (bounds.0, omega (arith, fits.1)) in
    let fb : Fits b (part Down (n + 1) (x.rows - n - 1) x) = (omega (arith, bounds.1), omega (arith, fits.1)) in
    let parts = pictured_parts picture (rects_of a (front Down n x)) (rects_of b (part Down (n + 1) (x.rows - n - 1) x)) pictured in
    let range = within_range x.row x.rows r e in
    let le : n + 1 ≤ x.rows = omega (arith, bounds.1) in
    let f = tree_cell picture (Two Down g a b) x r in
    let above : x.row + n ≤ r → strip r picture a (front Down n x) ≡ [] = λ h.
    strip_none r picture a (front Down n x) fa (within_above x.row n r h) in
    let below : r < x.row + (n + 1) → strip r picture b (part Down (n + 1) (x.rows - n - 1) x) ≡ [] = λ h.
    strip_none r picture b (part Down (n + 1) (x.rows - n - 1) x) fb (within_below (x.row + (n + 1)) (x.rows - n - 1) r h) in
    elim (cases_lt r (x.row + n)) [
      | inl high ↦ upper_shows r picture a b x n fa fb le f _ _ (λ c. refl) (below (omega (arith, high))) high
          (strip_shows r picture a (front Down n x) fa parts.0 (within_in x.row n r range.0 high))
      | inr from ↦ elim (cases_lt r (x.row + n + 1)) [
        | inl same ↦ level_shows r picture a b x n fa fb le f _ _ (λ c. refl) (above from) (below (omega (arith, same)))
            (omega (arith, from, same))
        | inr low ↦ lower_shows r picture a b x n fa fb le f _ _ (λ c. refl) (above from) low
            (strip_shows r picture b (part Down (n + 1) (x.rows - n - 1) x) fb parts.1
            (within_in (x.row + (n + 1)) (x.rows - n - 1) r (omega (arith, low)) (omega (arith, range.1, le))))
      ]
    ]
