-- The rows of the face, and that they are well-formed.
use Rattle.std.proofs.Common.{◌≡◌, ℕ, ◌+◌, ◌-◌, ◌*◌, ◌/◌, ◌%◌, ◌<◌, ◌≤◌, false, cond, eqb, List, [], ◌++◌, map, replicate, length, get_or, refl, sym, subst, ap, ◌∙◌, arith, length-append, add-one}
use Rattle.std.specs.Prelude.{slice_index}
use Rattle.std.specs.List.{range_with_len, All}
use Rattle.std.proofs.lemmas.Bool.{eq-eqb, ne_eqb, cond_both}
use Rattle.std.proofs.lemmas.List.{get_or-map, length-map, length-take-le, length-replicate}
use Rattle.std.proofs.lemmas.List.FromFn.{length-map-range_with_len, get_or-map-range_with_len}
use Rattle.roam_cells.specs.Glyph.{Glyph, blank, is_wide, is_right_half, right_of}
use Rattle.roam_cells.specs.Place.{cell_at, glyph_at, table, IsWholeLine, IsWholeRow, AreWhole, AreUnguarded, row_of}
use Rattle.roam_screens.specs.Screenshot.{Screenshot, IsScreenshot}
use Rattle.roam_cells.proofs.Places.{get_or-table, length-table, place_of}
use Rattle.roam_layout.specs.Trees.{Shape, One, Two}
use Rattle.roam_layout.specs.Rects.{rects_of, borders, within, first_part, border_part, second_part}
use Rattle.roam_layout.specs.Layouts.{Plan, IsPlan, area, panes, edges}
use Rattle.roam_layout.specs.Status.{status, status_row, IsPrintable}
use Rattle.roam_layout.specs.Faces.{character, sign, reverse_style, face_at, face_row, face, border_segment, segments, ArePictures, Show}
use Rattle.roam_layout.proofs.Places.{shows_same, shows_row, tree_cell, within_in, within_range}
use Rattle.roam_layout.proofs.Segments.{ArePictured, pictured_parts, strip, strip_shows, woven_last}
use Rattle.roam_layout.proofs.Beside.{IsSound, sound_nil, sound_beside, sound_signs, sound_row, sound_text}
use Rattle.roam_layout.specs.declared.rects.Way.{Way}
use Rattle.roam_layout.specs.declared.rects.Rect.{Rect}
use Rattle.roam_layout.proofs.Listed.{pictured_from}
use Rattle.roam_layout.proofs.Stepping.{segments_are}

-- ---- rows

segment_sound : (r : ℕ) (e : Way × Rect) → IsSound (border_segment r e)
segment_sound r e = cond_both (within e.1.row e.1.rows r) (replicate e.1.cols (sign e.0)) [] (λ (l : List Glyph). IsSound l)
    (λ _. sound_signs e.1.cols e.0) (λ _. sound_nil)

strip_sound : (r : ℕ) (picture : ℕ → Screenshot) (t : Shape) (x : Rect) → ArePictured picture (rects_of t x) → IsSound (strip r picture t x)
strip_sound r picture (One p) x are =
    let shot = picture p in
    cond_both (within x.row x.rows r) (row_of shot.cols shot.cells (r - x.row)) [] (λ (l : List Glyph). IsSound l)
    (λ e. let range = within_range x.row x.rows r e in
    sound_row shot are.0.shot (r - x.row) (omega (arith, range.0, range.1, are.0.rows)))
    (λ _. sound_nil)
strip_sound r picture (Two w g a b) x are =
    let parts = pictured_parts picture (rects_of a (first_part w g a b x)) (rects_of b (second_part w g a b x)) are in
    let edge : Way × Rect = (w, border_part w g a b x) in
    let rest = strip r picture b (second_part w g a b x) in
    sound_beside (strip r picture a (first_part w g a b x)) (border_segment r edge ++ rest)
    (strip_sound r picture a (first_part w g a b x) parts.0)
    (sound_beside (border_segment r edge) rest (segment_sound r edge) (strip_sound r picture b (second_part w g a b x) parts.1))

module _ (s : Plan) (picture : ℕ → Screenshot) (plan : IsPlan s) (are : ArePictured picture (panes s)) where
  not_last : (r : ℕ) → r < s.rows → eqb r s.rows ≡ false
  not_last r h = ne_eqb r s.rows (λ e. omega (arith, e, h))

  -- above the last row the segments are the row
  pub area_row : (r : ℕ) → 1 ≤ r → r < s.rows → strip r picture s.tree (area s.rows s.cols) ≡ face_row s picture r
  area_row r low high =
      shows_row (strip r picture s.tree (area s.rows s.cols)) s.cols (face_at s picture r)
      (shows_same (strip r picture s.tree (area s.rows s.cols)) 1 s.cols (tree_cell picture s.tree (area s.rows s.cols) r)
      (face_at s picture r)
      (strip_shows r picture s.tree (area s.rows s.cols) plan.fits are (within_in 1 (s.rows - 1) r low (omega (arith, high))))
      (λ c p q. ap (λ v. cond v (character (slice_index (status_row s) (c - 1)) reverse_style)
      (tree_cell picture s.tree (area s.rows s.cols) r c))
      (sym (not_last r high))))

  pub area_sound : (r : ℕ) → 1 ≤ r → r < s.rows → IsSound (face_row s picture r)
  area_sound r low high =
      subst (λ (l : List Glyph). IsSound l) (area_row r low high) (strip_sound r picture s.tree (area s.rows s.cols) are)

pub length-status_row : (s : Plan) → length (status_row s) ≡ s.cols
length-status_row s =
    length-take-le s.cols (status s ++ replicate s.cols 32)
    (omega (arith, length-append (status s) (replicate s.cols 32), length-replicate {A = ℕ} s.cols 32))

-- the last row is the status text
pub last_row : (s : Plan) (picture : ℕ → Screenshot) → map (λ b. character b reverse_style) (status_row s) ≡ face_row s picture s.rows
last_row s picture =
    shows_row (map (λ b. character b reverse_style) (status_row s)) s.cols (face_at s picture s.rows) (record {
      size = length-map (status_row s) (λ b. character b reverse_style) ∙ length-status_row s;
      at = λ k h.
          let one : 1 + k - 1 ≡ k = omega arith in
          get_or-map (λ b. character b reverse_style) (status_row s) k 0 blank (omega (arith, h, length-status_row s))
          ∙ ap (λ j. character (slice_index (status_row s) j) reverse_style) (sym one)
          ∙ ap (λ v. cond v (character (slice_index (status_row s) (1 + k - 1)) reverse_style)
          (tree_cell picture s.tree (area s.rows s.cols) s.rows (1 + k)))
          (sym (eq-eqb s.rows s.rows refl));
    })

whole_same : (cols : ℕ) (f g : ℕ → Glyph) → ((c : ℕ) → c < cols → f c ≡ g c) → IsWholeLine cols f → IsWholeLine cols g
whole_same cols f g same whole c h =
    let was = whole c h in
    record {
      wide = λ w.
          let next = was.wide (ap is_wide (same c h) ∙ w) in
          (next.0, sym (same (c + 1) next.0) ∙ next.1 ∙ ap right_of (same c h));
      half = λ w.
          let before = was.half (ap is_right_half (same c h) ∙ w) in
          (before.0, ap is_wide (sym (same (c - 1) (omega (arith, h)))) ∙ before.1);
    }

-- ---- the whole face

-- a row of the face has whole characters, none guarded
pub text_sound : (s : Plan) (picture : ℕ → Screenshot) (r : ℕ) → r ≡ s.rows → All IsPrintable (status_row s)
    → IsSound (face_row s picture r)
text_sound s picture r e printable =
    subst (λ (l : List Glyph). IsSound l) (last_row s picture ∙ ap (face_row s picture) (sym e)) (sound_text (status_row s) printable)

pub free_sound : (row : List Glyph) → IsSound row → AreUnguarded row
free_sound row sound k h = sound.unguarded k blank h

module _ (s : Plan) (picture : ℕ → Screenshot) (rows_whole : (r : ℕ) → r < s.rows → IsWholeRow (face_row s picture (r + 1)))
    (rows_free : (r : ℕ) → r < s.rows → AreUnguarded (face_row s picture (r + 1))) where
  abbrev at : ℕ → ℕ → Glyph
  at r c = face_at s picture (r + 1) (c + 1)

  row_at : (r c : ℕ) → c < s.cols → glyph_at (face_row s picture (r + 1)) c ≡ at r c
  row_at r c h = get_or-map-range_with_len (at r) 0 s.cols c c blank h (omega arith)

  pub face_count : length (face s picture).cells ≡ s.rows * s.cols
  face_count = length-table s.rows s.cols at

  pub face_whole : AreWhole s.rows s.cols (face s picture).cells
  face_whole r h =
      let size : length (face_row s picture (r + 1)) ≡ s.cols = length-map-range_with_len (at r) 0 s.cols in
      whole_same s.cols (glyph_at (face_row s picture (r + 1))) (cell_at s.cols (face s picture).cells r)
      (λ c q. row_at r c q ∙ sym (get_or-table s.rows s.cols at r c blank h q))
      (subst (λ n. IsWholeLine n (glyph_at (face_row s picture (r + 1)))) size (rows_whole r h))

  pub face_unguarded : AreUnguarded (face s picture).cells
  face_unguarded k h =
      let p = place_of s.rows s.cols k (omega (arith, h, face_count)) in
      let r = k / s.cols in
      let c = k % s.cols in
      let size : length (face_row s picture (r + 1)) ≡ s.cols = length-map-range_with_len (at r) 0 s.cols in
      ap (λ (g : Glyph). g.guarded) (ap (λ j. get_or (face s picture).cells j blank) (sym p.2)
      ∙ get_or-table s.rows s.cols at r c blank p.0 p.1 ∙ sym (row_at r c p.1))
      ∙ rows_free r p.0 c (omega (arith, size, p.1))

-- ---- rows as they are added

-- the last row of the session
pub row_text : (s : Plan) (picture : ℕ → Screenshot) (r : ℕ) (text : List ℕ) (old new : List Glyph) → r ≡ s.rows → text ≡ status_row s
    → new ≡ old ++ map (λ b. character b reverse_style) text → new ≡ old ++ face_row s picture r
row_text s picture r text old new e et en =
    en ∙ ap (λ l. old ++ map (λ b. character b reverse_style) l) et ∙ ap (λ l. old ++ l)
    (last_row s picture ∙ ap (face_row s picture) (sym e))

-- a row above it
module _ (s : Plan) (picture : ℕ → Screenshot) (r : ℕ) (ss : List (ℕ × Screenshot)) (plan : IsPlan s)
    (same : ArePictures (panes s) ss) (show : Show picture ss) (are : All (λ (x : ℕ × Screenshot). IsScreenshot x.1) ss) (low : 1 ≤ r)
    (high : r < s.rows) where
  pub row_segments : (rects : List (ℕ × Rect)) (borders : List (Way × Rect)) (old new : List Glyph) → rects ≡ panes s → borders ≡ edges s
      → new ≡ old ++ segments r rects borders ss → new ≡ old ++ face_row s picture r
  row_segments rects borders old new er eb en =
      en ∙ (λ i. old ++ segments r (er i) (eb i) ss)
      ∙ ap (λ l. old ++ l) (segments_are r picture (panes s) (edges s) ss same show ∙ woven_last r picture s.tree (area s.rows s.cols)
      ∙ area_row s picture plan (pictured_from picture (panes s) ss same show are) r low high)

  pub row_sound : IsSound (face_row s picture r)
  row_sound = area_sound s picture plan (pictured_from picture (panes s) ss same show are) r low high

pub table_none : (cols : ℕ) (f : ℕ → ℕ → Glyph) → table 0 cols f ≡ []
unfolding table
table_none cols f = refl

pub table_more : (rows cols : ℕ) (f : ℕ → ℕ → Glyph) → table (rows + 1) cols f ≡ table rows cols f ++ map (f rows) (range_with_len 0 cols)
unfolding table
table_more rows cols f = rw (add-one rows) refl
