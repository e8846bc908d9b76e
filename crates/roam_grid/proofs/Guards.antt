-- Part of the screen that becomes blank but for guarded cells: part of a row, and then the rows below or above it.
use Rattle.std.proofs.Common.{◌≡◌, ℕ, ◌+◌, ◌*◌, ◌<◌, ◌≤◌, ◌⊎◌, inl, inr, Bool, true, false, not, ◌&&◌, cond, ltb, leb, List, refl, sym, ap, ◌∙◌, arith}
use Rattle.std.proofs.lemmas.Bool.{cases_lt, cases_eq}
use Rattle.std.proofs.lemmas.List.Edits.{get_or-between}
use Rattle.std.proofs.lemmas.Grind.{common_steps}
use Rattle.roam_cells.specs.Glyph.{Glyph, blank}
use Rattle.roam_cells.specs.Place.{cell_at, AreWhole, row_of}
use Rattle.roam_cells.proofs.Places.{table_is, get_or-table, length-table}
use Rattle.roam_rows.specs.Row.{RowSource}
use Rattle.roam_rows.specs.Places.{Source, From, Fresh, mapped_cells, moved_at, at_row, in_row}
use Rattle.roam_rows.specs.Rows.{Rows, AreRows, mapped_rows, with_row}
use Rattle.roam_rows.specs.Erasing.{unguarded_blanked, rows_unguarded_blanked}
use Rattle.roam_rows.proofs.Scrolls.{rows_are}
use Rattle.roam_rows.proofs.Vertical.{row_stays}
use Rattle.roam_rows.proofs.Lifting.{in_here, in_other}
use Rattle.roam_rows.proofs.Pages.{erased_there}
use Rattle.roam_grid.specs.Erasing.{line_from, line_to, page_from, page_to, is_in_page, page_unguarded_blanked}
use Rattle.roam_cells.specs.declared.extents.Extent.{Extent}
use Rattle.roam_grid.proofs.Pages.{moved_same, row_agrees, outside, inside}

and_of : (a b d e : Bool) → (a && b) ≡ d → (a && b && e) ≡ (d && e)
and_of true true d e h = ap (λ x. x && e) h
and_of true false d e h = ap (λ x. x && e) h
and_of false b d e h = ap (λ x. x && e) h

at_or : (R d : ℕ) (b : Bool) → at_row R (cond b (RowSource.Fresh blank) (RowSource.Column d)) ≡ cond b (Fresh blank) (From R d)
at_or R d true = refl
at_or R d false = refl

pub in_rows : (from to r : ℕ) (g : Bool) → from ≤ r → r < to → (leb from r && ltb r to && g) ≡ g
in_rows from to r true p q = grind (arith, common_steps)
in_rows from to r false p q = grind (arith, common_steps)

out_rows : (from to r : ℕ) (g : Bool) → (r < from) ⊎ (to ≤ r) → (leb from r && ltb r to && g) ≡ false
out_rows from to r true (inl p) = grind (arith, common_steps)
out_rows from to r false (inl p) = grind (arith, common_steps)
out_rows from to r true (inr p) = grind (arith, common_steps)
out_rows from to r false (inr p) = grind (arith, common_steps)

twice : (x : Glyph) (g : Bool) → x.guarded ≡ g → cond (cond g x blank).guarded (cond g x blank) blank ≡ cond g x blank
twice x true e = ap (λ b. cond b x blank) e
twice x false e = refl

module _ (extent : Extent) (rows cols row col : ℕ) (cells mid : List Glyph) (whole : AreWhole rows cols cells) (mid_whole : AreWhole rows cols mid) (row_in : row < rows) where
  abbrev one : ℕ → RowSource
  one = unguarded_blanked (row_of cols cells row) (line_from extent col) (line_to extent cols col)

  abbrev two : ℕ → ℕ → Source
  two = rows_unguarded_blanked cols mid (page_from extent row) (page_to extent rows row)

  abbrev source : ℕ → ℕ → Source
  source = page_unguarded_blanked extent cols cells row col

  abbrev guard : ℕ → ℕ → Bool
  guard r d = (cell_at cols cells r d).guarded

  pub in_line : (d : ℕ) → d < cols → in_row row one row d ≡ cond (is_in_page extent row col row d && not (guard row d)) (Fresh blank) (From row d)
  in_line d q =
      in_here row d one
      ∙ ap (λ (x : Glyph). at_row row (cond (leb (line_from extent col) d && ltb d (line_to extent cols col) && not x.guarded) (RowSource.Fresh blank) (RowSource.Column d)))
      (get_or-between cells (row * cols) ((row + 1) * cols) d blank (omega arith))
      ∙ at_or row d (leb (line_from extent col) d && ltb d (line_to extent cols col) && not (guard row d))
      ∙ ap (λ b. cond b (Fresh blank) (From row d))
      (and_of (leb (line_from extent col) d) (ltb d (line_to extent cols col)) (is_in_page extent row col row d) (not (guard row d)) (row_agrees extent cols row col d q))

  agrees : (r d : ℕ) → r < rows → d < cols → (r < page_from extent row) ⊎ (page_to extent rows row ≤ r) → in_row row one r d ≡ source r d
  agrees r d p q out =
      elim (cases_eq r row) [
        | inl e ↦ ap (λ j. in_row row one j d) e ∙ in_line d q ∙ sym (ap (λ j. source j d) e)
        | inr ne ↦ in_other row r d one ne ∙ sym (ap (λ b. cond (b && not (guard r d)) (Fresh blank) (From r d)) (outside extent rows row col r d p ne out))
      ]

  module _ (mid_is : mid ≡ mapped_cells rows cols cells (in_row row one)) where
    mid_at : (r c : ℕ) → r < rows → c < cols → cell_at cols mid r c ≡ moved_at cols cells (in_row row one) r c
    mid_at r c p q = ap (λ l. cell_at cols l r c) mid_is ∙ get_or-table rows cols (moved_at cols cells (in_row row one)) r c blank p q

    rest : (r c : ℕ) → r < rows → c < cols → (r < page_from extent row) ⊎ (page_to extent rows row ≤ r) → moved_at cols mid two r c ≡ moved_at cols cells source r c
    rest r c p q out =
        row_stays rows cols mid mid_whole two r c r p q
        (λ d. ap (λ b. cond b (Fresh blank) (From r d)) (out_rows (page_from extent row) (page_to extent rows row) r (not (cell_at cols mid r d).guarded) out))
        ∙ mid_at r c p q ∙ moved_same cols cells (in_row row one) source r c q (λ d h. agrees r d p h out)

    kept : (r c : ℕ) → r < rows → c < cols → page_from extent row ≤ r → r < page_to extent rows row
        → cond (cell_at cols mid r c).guarded (cell_at cols mid r c) blank ≡ cond (guard r c) (cell_at cols cells r c) blank
    kept r c p q low high =
        elim (cases_eq r row) [
          | inl e ↦
              let here : cell_at cols mid row c ≡ cond (guard row c) (cell_at cols cells row c) blank =
              mid_at row c row_in q
              ∙ erased_there rows cols cells whole (in_row row one) row row_in
              (λ d h. in_line d h ∙ ap (λ b. cond (b && not (guard row d)) (Fresh blank) (From row d)) (inside extent rows row col row d (omega (arith, e, low)) (omega (arith, e, high)))) c q in
              ap (λ j. cond (cell_at cols mid j c).guarded (cell_at cols mid j c) blank) e
              ∙ ap (λ (x : Glyph). cond x.guarded x blank) here ∙ twice (cell_at cols cells row c) (guard row c) refl
              ∙ sym (ap (λ j. cond (guard j c) (cell_at cols cells j c) blank) e)
          | inr ne ↦
              ap (λ (x : Glyph). cond x.guarded x blank)
              (mid_at r c p q ∙ row_stays rows cols cells whole (in_row row one) r c r p q (λ d. in_other row r d one ne))
        ]

    pub page_is_selective : mapped_cells rows cols mid two ≡ mapped_cells rows cols cells source
    page_is_selective =
        table_is rows cols (moved_at cols cells source) (mapped_cells rows cols mid two) (length-table rows cols _) (λ r c p q.
        get_or-table rows cols (moved_at cols mid two) r c blank p q
        ∙ elim (cases_lt r (page_from extent row)) [
          | inl above ↦ rest r c p q (inl above)
          | inr low ↦ elim (cases_lt r (page_to extent rows row)) [
            | inl high ↦
                erased_there rows cols mid mid_whole two r p
                (λ d h. ap (λ b. cond b (Fresh blank) (From r d)) (in_rows (page_from extent row) (page_to extent rows row) r (not (cell_at cols mid r d).guarded) low high)) c q
                ∙ kept r c p q low high
                ∙ sym (erased_there rows cols cells whole source r p
                (λ d h. ap (λ b. cond (b && not (guard r d)) (Fresh blank) (From r d)) (inside extent rows row col r d low high)) c q)
            | inr below ↦ rest r c p q (inr below)
          ]
        ])

pub page_erased_selectively : (extent : Extent) (row col from to top bottom : ℕ) (v m w : Rows) → AreRows v → AreRows m → row < v.rows
    → from ≡ line_from extent col → to ≡ line_to extent v.cols col → top ≡ page_from extent row → bottom ≡ page_to extent v.rows row
    → m ≡ with_row row (unguarded_blanked (row_of v.cols v.cells row) from to) v → w ≡ mapped_rows (rows_unguarded_blanked m.cols m.cells top bottom) m
    → w ≡ mapped_rows (page_unguarded_blanked extent v.cols v.cells row col) v
page_erased_selectively extent row col from to top bottom v m w h k row_in from_is to_is top_is bottom_is m_is w_is =
    let old = row_of v.cols v.cells row in
    let rows_is : m.rows ≡ v.rows = ap (λ (x : Rows). x.rows) m_is in
    let cols_is : m.cols ≡ v.cols = ap (λ (x : Rows). x.cols) m_is in
    let first_is : m.first ≡ v.first = ap (λ (x : Rows). x.first) m_is in
    let mid_is : m.cells ≡ mapped_cells v.rows v.cols v.cells (in_row row (unguarded_blanked old (line_from extent col) (line_to extent v.cols col))) =
    ap (λ (x : Rows). x.cells) m_is ∙ ap (λ j. mapped_cells v.rows v.cols v.cells (in_row row (unguarded_blanked old j to))) from_is
    ∙ ap (λ j. mapped_cells v.rows v.cols v.cells (in_row row (unguarded_blanked old (line_from extent col) j))) to_is in
    rows_are w v.rows v.cols v.first (mapped_cells v.rows v.cols v.cells (page_unguarded_blanked extent v.cols v.cells row col))
    (ap (λ (x : Rows). x.rows) w_is ∙ rows_is) (ap (λ (x : Rows). x.cols) w_is ∙ cols_is) (ap (λ (x : Rows). x.first) w_is ∙ first_is)
    (ap (λ (x : Rows). x.cells) w_is ∙ ap (λ j. mapped_cells j m.cols m.cells (rows_unguarded_blanked m.cols m.cells top bottom)) rows_is
    ∙ ap (λ j. mapped_cells v.rows j m.cells (rows_unguarded_blanked j m.cells top bottom)) cols_is
    ∙ ap (λ j. mapped_cells v.rows v.cols m.cells (rows_unguarded_blanked v.cols m.cells j bottom)) top_is
    ∙ ap (λ j. mapped_cells v.rows v.cols m.cells (rows_unguarded_blanked v.cols m.cells (page_from extent row) j)) bottom_is
    ∙ page_is_selective extent v.rows v.cols row col v.cells m.cells h.whole (rw (rows_is, cols_is) at k.whole) row_in mid_is)
