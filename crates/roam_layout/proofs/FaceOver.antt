-- A face made of its rows.
use Rattle.std.proofs.Common.{◌≡◌, ℕ, ◌+◌, ◌*◌, ◌<◌, length, sym, ap, ◌∙◌, arith, Bool}
use Rattle.std.proofs.lemmas.List.{ext_get_or}
use Rattle.std.proofs.lemmas.List.FromFn.{length-map-range_with_len, get_or-map-range_with_len}
use Rattle.roam_cells.specs.Glyph.{Glyph, blank}
use Rattle.roam_screens.specs.Lines.{with_cursor}
use Rattle.roam_cells.specs.Place.{row_of}
use Rattle.roam_screens.specs.Screenshot.{Screenshot}
use Rattle.roam_screens.proofs.Lined.{row_at, length-row, all_rows}
use Rattle.roam_cells.proofs.Places.{get_or-table, length-table}
use Rattle.roam_layout.specs.Faces.{face, face_at, face_row}
use Rattle.roam_layout.specs.Layouts.{Plan}

pub length-face_row : (s : Plan) (picture : ℕ → Screenshot) (r : ℕ) → length (face_row s picture r) ≡ s.cols
length-face_row s picture r = length-map-range_with_len (λ c. face_at s picture r (c + 1)) 0 s.cols

module _ (s : Plan) (picture : ℕ → Screenshot) where
  abbrev at : ℕ → ℕ → Glyph
  at r c = face_at s picture (r + 1) (c + 1)

  -- a row of the face
  pub face_rows : (r : ℕ) → r < s.rows → row_of s.cols (face s picture).cells r ≡ face_row s picture (r + 1)
  face_rows r p =
      let cells = (face s picture).cells in
      let long = length-row s.rows s.cols cells r (length-table s.rows s.cols at) p in
      ext_get_or blank (row_of s.cols cells r) (face_row s picture (r + 1)) (long ∙ sym (length-face_row s picture (r + 1))) (λ c h.
      let q : c < s.cols = omega (arith, h, long) in
      row_at s.cols cells r c q ∙ get_or-table s.rows s.cols at r c blank p q
      ∙ sym (get_or-map-range_with_len (at r) 0 s.cols c c blank q (omega arith)))

  -- a screen of its rows and its cursor is the face
  pub over_is : (k m : Screenshot) (row col : ℕ) (visible : Bool) → m ≡ record k { cells = m.cells } → k.rows ≡ s.rows → k.cols ≡ s.cols
      → length m.cells ≡ m.rows * m.cols → ((r : ℕ) → r < s.rows → row_of s.cols m.cells r ≡ face_row s picture (r + 1))
      → row ≡ (face s picture).cursor_row → col ≡ (face s picture).cursor_col → visible ≡ (face s picture).visible
      → with_cursor row col visible m ≡ face s picture
  over_is k m row col visible same rows cols count each row_is col_is visible_is =
      let high : m.rows ≡ s.rows = ap (λ (x : Screenshot). x.rows) same ∙ rows in
      let wide : m.cols ≡ s.cols = ap (λ (x : Screenshot). x.cols) same ∙ cols in
      let all : m.cells ≡ (face s picture).cells =
      all_rows s.rows s.cols m.cells (face s picture).cells (count ∙ (λ i. high i * wide i)) (length-table s.rows s.cols at)
      (λ r p. each r p ∙ sym (face_rows r p)) in
      λ i. record { rows = high i; cols = wide i; cells = all i; cursor_row = row_is i; cursor_col = col_is i; visible = visible_is i }
