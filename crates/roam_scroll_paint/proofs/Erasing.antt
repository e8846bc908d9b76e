-- The end of a row is erased: all other places keep the right cells.
use Rattle.std.proofs.Common.{◌≡◌, ◌≤◌, ◌<◌, ℕ, ◌+◌, ◌-◌, Bool, true, false, ◌&&◌, ltb, inl, inr, List, Option, None, refl, sym, ap, ◌∙◌, arith}
use Rattle.std.proofs.lemmas.Bool.{false≢true, cases_lt}
use Rattle.std.proofs.lemmas.Grind.{common_steps}
use Rattle.roam_cells.specs.Glyph.{Glyph, is_wide, is_right_half, blank}
use Rattle.roam_cells.specs.Place.{cell_at}
use Rattle.roam_cells.specs.declared.styles.Style.{Style}
use Rattle.roam_cells.proofs.Places.{get_or-table}
use Rattle.roam_grid.specs.Erasing.{erased_in_line}
use Rattle.roam_rows.specs.Erasing.{erasure_source}
use Rattle.roam_rows.specs.Places.{Source, From, Fresh, are_joined, in_row, mapped_cells, moved_at}
use Rattle.roam_rows.proofs.Mending.{mended_same, mended-blank}
use Rattle.roam_rows.proofs.Vertical.{shown_by, next_joined, before_joined}
use Rattle.roam_term.specs.Terminal.{changed_by}
use Rattle.roam_term.proofs.Steps.{Constants, at_work}
use Rattle.roam_paint.specs.Painting.{Places}
use Rattle.roam_scroll_paint.specs.Rows.{erase_line}
use Rattle.roam_scroll_paint.proofs.Wholes.{IsWhole}

-- EL
pub erases_line : (k : Constants) (cells : List Glyph) (row col : ℕ) (pending : Bool) (g : Style) (visible : Bool) (printed : Option ℕ)
    → changed_by erase_line (at_work k cells row col pending g visible printed)
    ≡ at_work k (mapped_cells k.rows k.cols cells (in_row row (erasure_source col k.cols))) row col false g visible None
unfolding changed_by erased_in_line
erases_line k cells row col pending g visible printed = refl

module _ (rows cols wide : ℕ) (new : Places) (whole : IsWhole wide new) (fits : wide ≤ cols) (cells : List Glyph) (r end : ℕ) where
  abbrev source : ℕ → ℕ → Source
  source = in_row r (erasure_source end cols)

  from_other : (i c : ℕ) → (i ≡ r → ⊥) → source i c ≡ From i c
  from_other i c n = grind (arith, common_steps)

  from_left : (c : ℕ) → c < end → source r c ≡ From r c
  from_left c h = grind (arith, common_steps)

  from_right : (c : ℕ) → end ≤ c → c < cols → source r c ≡ Fresh blank
  from_right c h k = grind (arith, common_steps)

  -- a place that takes itself, and whose other half does
  stays : (i j : ℕ) (next : Source) → i < rows → j < cols → source i j ≡ From i j → source i (j + 1) ≡ next → source i (j - 1) ≡ From i (j - 1)
      → cell_at cols cells i j ≡ new i j → (is_wide (new i j) ≡ true → next ≡ From i (j + 1))
      → cell_at cols (mapped_cells rows cols cells source) i j ≡ new i j
  stays i j next p q here after before shows wide =
      get_or-table rows cols (moved_at cols cells source) i j blank p q
      ∙ shown_by cols cells source i j (From i j) next (From i (j - 1)) here after before
      ∙ mended_same (cell_at cols cells i j) _ _
      (λ w.
      let v : is_wide (new i j) ≡ true = ap is_wide (sym shows) ∙ w in
      let h = (whole.wide i j v).0 in
      ap (λ x. ltb (j + 1) cols && are_joined (From i j) x) (wide v) ∙ next_joined cols i j (omega (arith, h, fits)))
      (λ w. before_joined i j ((whole.half i j (ap is_right_half (sym shows) ∙ w)).0))
      ∙ shows

  pub keeps_other_row : (i j : ℕ) → i < rows → j < cols → (i ≡ r → ⊥) → cell_at cols cells i j ≡ new i j
      → cell_at cols (mapped_cells rows cols cells source) i j ≡ new i j
  keeps_other_row i j p q n shows = stays i j (From i (j + 1)) p q (from_other i j n) (from_other i (j + 1) n) (from_other i (j - 1) n) shows (λ w. refl)

  module _ (r_in : r < rows) (end_blank : new r end ≡ blank) where
    pub keeps_left : (j : ℕ) → j < end → j < cols → cell_at cols cells r j ≡ new r j
        → cell_at cols (mapped_cells rows cols cells source) r j ≡ new r j
    keeps_left j h q shows =
        stays r j (source r (j + 1)) r_in q (from_left j h) refl (from_left (j - 1) (omega (arith, h))) shows
        (λ w. elim (cases_lt (j + 1) end) [
          | inl k ↦ from_left (j + 1) k
          | inr k ↦
              let e : j + 1 ≡ end = omega (arith, h, k) in
              let half : is_right_half (new r end) ≡ true = ap (λ c. is_right_half (new r c)) (sym e) ∙ ap is_right_half ((whole.wide r j w).1) in
              absurd (false≢true (sym (ap is_right_half end_blank) ∙ half))
        ])

  pub blanks_right : (j : ℕ) → r < rows → end ≤ j → j < cols → cell_at cols (mapped_cells rows cols cells source) r j ≡ blank
  blanks_right j p h q =
      get_or-table rows cols (moved_at cols cells source) r j blank p q
      ∙ shown_by cols cells source r j (Fresh blank) (source r (j + 1)) (source r (j - 1)) (from_right j h q) refl refl
      ∙ mended-blank (ltb (j + 1) cols && are_joined (Fresh blank) (source r (j + 1))) (ltb 0 j && are_joined (source r (j - 1)) (Fresh blank))
