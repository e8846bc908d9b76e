-- Rows of the face that stay.
use Rattle.std.proofs.Common.{◌≡◌, ℕ, ◌+◌, ◌-◌, ◌*◌, ◌<◌, true, false, cond, eqb, List, map, get_or, Option, Some, None, refl, sym, ap, ◌∙◌, arith}
use Rattle.std.specs.Prelude.{slice_index}
use Rattle.std.specs.List.{range_with_len}
use Rattle.std.proofs.lemmas.List.Edits.{get_or-between}
use Rattle.roam_cells.specs.Glyph.{Glyph, blank}
use Rattle.roam_cells.specs.Place.{cell_at, row_of}
use Rattle.roam_screens.specs.Screenshot.{Screenshot}
use Rattle.roam_layout.specs.Layouts.{Plan, panes, edges}
use Rattle.roam_layout.specs.Status.{status_row}
use Rattle.roam_layout.specs.Faces.{character, reverse_style, first_with_place, cell_in, pane_cell, face_at, face_row}
use Rattle.roam_layout.specs.declared.rects.Rect.{Rect}
use Rattle.roam_layout.specs.declared.rects.Way.{Way}
use Rattle.roam_term.specs.Unmarked.{IsSameRow}

same_cell : (r c : ℕ) (p q : ℕ → Screenshot) (o : Option (ℕ × Rect)) (border : Option (Way × Rect))
    → ((x : ℕ × Rect) → o ≡ Some x → cell_in x.1 (q x.0) r c ≡ cell_in x.1 (p x.0) r c)
    → pane_cell q r c o border ≡ pane_cell p r c o border
same_cell r c p q None border each = refl
same_cell r c p q (Some x) border each = each x refl

-- above the last row a place shows a pane or a border
above : (s : Plan) (p : ℕ → Screenshot) (r c : ℕ) → eqb r s.rows ≡ false
    → face_at s p r c ≡ pane_cell p r c (first_with_place r c (panes s)) (first_with_place r c (edges s))
above s p r c e =
    ap (λ b. cond b (character (slice_index (status_row s) (c - 1)) reverse_style) (pane_cell p r c (first_with_place r c (panes s)) (first_with_place r c (edges s)))) e

module _ (s t : Plan) (p q : ℕ → Screenshot) (r : ℕ) (rows : t.rows ≡ s.rows) (cols : t.cols ≡ s.cols) (low : eqb r s.rows ≡ false)
    (same_panes : (c : ℕ) → first_with_place r c (panes t) ≡ first_with_place r c (panes s))
    (same_edges : (c : ℕ) → first_with_place r c (edges t) ≡ first_with_place r c (edges s))
    (same : (c : ℕ) (x : ℕ × Rect) → first_with_place r c (panes s) ≡ Some x → cell_in x.1 (q x.0) r c ≡ cell_in x.1 (p x.0) r c) where
  at_same : (c : ℕ) → face_at t q r c ≡ face_at s p r c
  at_same c =
      above t q r c (ap (eqb r) rows ∙ low)
      ∙ ap (λ o. pane_cell q r c o (first_with_place r c (edges t))) (same_panes c)
      ∙ ap (pane_cell q r c (first_with_place r c (panes s))) (same_edges c)
      ∙ same_cell r c p q (first_with_place r c (panes s)) (first_with_place r c (edges s)) (same c)
      ∙ sym (above s p r c low)

  pub row_same : face_row t q r ≡ face_row s p r
  row_same =
      ap (λ n. map (λ c. face_at t q r (c + 1)) (range_with_len 0 n)) cols
      ∙ (λ i. map (λ c. at_same (c + 1) i) (range_with_len 0 s.cols))

-- a row of two pictures that is the same, place by place
pub cell_of_row : (k j : ℕ) (p q : Screenshot) → IsSameRow k p q → j < p.cols → cell_at q.cols q.cells k j ≡ cell_at p.cols p.cells k j
cell_of_row k j p q is h =
    let at : (x : Screenshot) → x.cols ≡ p.cols → get_or (row_of x.cols x.cells k) j blank ≡ cell_at x.cols x.cells k j =
    λ x e. get_or-between x.cells (k * x.cols) ((k + 1) * x.cols) j blank (omega (arith, e, h)) in
    sym (at q is.cols) ∙ ap (λ (l : List Glyph). get_or l j blank) is.row ∙ at p refl

-- the status row shows no picture
pub status_same : (s : Plan) (p q : ℕ → Screenshot) (r : ℕ) → eqb r s.rows ≡ true → face_row s q r ≡ face_row s p r
status_same s p q r e = (λ i. map (λ c. at (c + 1) i) (range_with_len 0 s.cols))
  where
    at : (c : ℕ) → face_at s q r c ≡ face_at s p r c
    at c =
        let text = character (slice_index (status_row s) (c - 1)) reverse_style in
        ap (λ b. cond b text (pane_cell q r c (first_with_place r c (panes s)) (first_with_place r c (edges s)))) e
        ∙ sym (ap (λ b. cond b text (pane_cell p r c (first_with_place r c (panes s)) (first_with_place r c (edges s)))) e)
