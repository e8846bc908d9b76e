-- Part of the screen that becomes blank: part of a row, and then the rows below or above it.
use Rattle.std.proofs.Common.{◌≡◌, ◌≢◌, ℕ, ◌+◌, ◌-◌, ◌*◌, ◌<◌, ◌≤◌, ◌⊎◌, inl, inr, Bool, true, false, ◌&&◌, cond, ltb, leb, List, replicate, refl, sym, ap, ◌∙◌, arith}
use Rattle.std.proofs.lemmas.Bool.{cases_lt, cases_eq}
use Rattle.std.proofs.lemmas.List.{length-replicate, get_or-replicate}
use Rattle.std.proofs.lemmas.Grind.{common_steps}
use Rattle.roam_cells.specs.Glyph.{Glyph, blank}
use Rattle.roam_cells.specs.Place.{cell_at, AreWhole}
use Rattle.roam_cells.proofs.Places.{table_is, get_or-table, length-table, place_below}
use Rattle.roam_rows.specs.Row.{RowSource, mended_glyph}
use Rattle.roam_rows.specs.Places.{Source, From, Fresh, glyph_of_source, are_joined, mapped_cells, moved_at, at_row, in_row}
use Rattle.roam_rows.specs.Erasing.{erasure_source, rows_blanked}
use Rattle.roam_grid.specs.Erasing.{line_from, line_to, page_from, page_to, is_in_page, page_blanked}
use Rattle.roam_cells.specs.declared.extents.Extent.{Extent}
use Rattle.roam_cells.specs.declared.extents.Extent.TheVariants.{ToEnd, ToStart, All}
use Rattle.roam_rows.specs.Rows.{Rows, AreRows, mapped_rows, with_row}
use Rattle.roam_rows.proofs.Scrolls.{rows_are}
use Rattle.roam_rows.proofs.Vertical.{row_blank, row_stays}
use Rattle.roam_rows.proofs.Lifting.{in_here, in_other}

-- maps that agree on a row show the same there
pub moved_same : (cols : ℕ) (cells : List Glyph) (source other : ℕ → ℕ → Source) (r c : ℕ) → c < cols → ((d : ℕ) → d < cols → source r d ≡ other r d)
    → moved_at cols cells source r c ≡ moved_at cols cells other r c
moved_same cols cells source other r c q h =
    ap (λ x. mended_glyph (glyph_of_source cols cells x) (ltb (c + 1) cols && are_joined x (source r (c + 1))) (ltb 0 c && are_joined (source r (c - 1)) x)) (h c q)
    ∙ ap (λ x. mended_glyph (glyph_of_source cols cells (other r c)) (ltb (c + 1) cols && are_joined (other r c) (source r (c + 1))) (ltb 0 c && are_joined x (other r c))) (h (c - 1) (omega arith))
    ∙ ap (λ b. mended_glyph (glyph_of_source cols cells (other r c)) b (ltb 0 c && are_joined (other r (c - 1)) (other r c))) (elim (cases_lt (c + 1) cols) [
      | inl in_row ↦ ap (λ x. ltb (c + 1) cols && are_joined (other r c) x) (h (c + 1) in_row)
      | inr past ↦ let e : ltb (c + 1) cols ≡ false = grind (arith, common_steps) in
          ap (λ b. b && are_joined (other r c) (source r (c + 1))) e ∙ sym (ap (λ b. b && are_joined (other r c) (other r (c + 1))) e)
    ])

at_or : (R d : ℕ) (b : Bool) → at_row R (cond b (RowSource.Fresh blank) (RowSource.Column d)) ≡ cond b (Fresh blank) (From R d)
at_or R d true = refl
at_or R d false = refl

pub row_agrees : (extent : Extent) (cols row col d : ℕ) → d < cols → (leb (line_from extent col) d && ltb d (line_to extent cols col)) ≡ is_in_page extent row col row d
row_agrees ToEnd cols row col d q = grind (arith, common_steps)
row_agrees ToStart cols row col d q = grind (arith, common_steps)
row_agrees All cols row col d q = grind (arith, common_steps)

pub outside : (extent : Extent) (rows row col r d : ℕ) → r < rows → r ≢ row → (r < page_from extent row) ⊎ (page_to extent rows row ≤ r) → is_in_page extent row col r d ≡ false
outside ToEnd rows row col r d p ne out = grind (arith, common_steps)
outside ToStart rows row col r d p ne out = grind (arith, common_steps)
outside All rows row col r d p ne out = absurd (elim out [ inl a ↦ omega arith | inr a ↦ omega arith ])

pub inside : (extent : Extent) (rows row col r d : ℕ) → page_from extent row ≤ r → r < page_to extent rows row → is_in_page extent row col r d ≡ true
inside ToEnd rows row col r d p q = grind (arith, common_steps)
inside ToStart rows row col r d p q = grind (arith, common_steps)
inside All rows row col r d p q = refl

agrees : (extent : Extent) (rows cols row col r d : ℕ) → r < rows → d < cols → (r < page_from extent row) ⊎ (page_to extent rows row ≤ r)
    → in_row row (erasure_source (line_from extent col) (line_to extent cols col)) r d ≡ page_blanked extent row col r d
agrees extent rows cols row col r d p q out =
    let one = erasure_source (line_from extent col) (line_to extent cols col) in
    elim (cases_eq r row) [
      | inl e ↦
          ap (λ j. in_row row one j d) e ∙ in_here row d one ∙ at_or row d (leb (line_from extent col) d && ltb d (line_to extent cols col))
          ∙ ap (λ b. cond b (Fresh blank) (From row d)) (row_agrees extent cols row col d q) ∙ sym (ap (λ j. page_blanked extent row col j d) e)
      | inr ne ↦ in_other row r d one ne ∙ sym (ap (λ b. cond b (Fresh blank) (From r d)) (outside extent rows row col r d p ne out))
    ]

from_test : (from to r c : ℕ) → from ≤ r → r < to → rows_blanked from to r c ≡ Fresh blank
from_test from to r c p q = let e : (leb from r && ltb r to) ≡ true = grind (arith, common_steps) in ap (λ b. cond b (Fresh blank) (From r c)) e

out_test : (from to r c : ℕ) → (r < from) ⊎ (to ≤ r) → rows_blanked from to r c ≡ From r c
out_test from to r c (inl p) = let e : (leb from r && ltb r to) ≡ false = grind (arith, common_steps) in ap (λ b. cond b (Fresh blank) (From r c)) e
out_test from to r c (inr p) = let e : (leb from r && ltb r to) ≡ false = grind (arith, common_steps) in ap (λ b. cond b (Fresh blank) (From r c)) e

-- part of a row, and then the rows that an extent names
pub page_is : (extent : Extent) (rows cols row col : ℕ) (cells mid : List Glyph) → AreWhole rows cols mid
    → mid ≡ mapped_cells rows cols cells (in_row row (erasure_source (line_from extent col) (line_to extent cols col)))
    → mapped_cells rows cols mid (rows_blanked (page_from extent row) (page_to extent rows row)) ≡ mapped_cells rows cols cells (page_blanked extent row col)
page_is extent rows cols row col cells mid whole mid_is =
    let from = page_from extent row in
    let to = page_to extent rows row in
    let one = in_row row (erasure_source (line_from extent col) (line_to extent cols col)) in
    let two = rows_blanked from to in
    let source = page_blanked extent row col in
    let rest : (r c : ℕ) → r < rows → c < cols → (r < from) ⊎ (to ≤ r) → moved_at cols mid two r c ≡ moved_at cols cells source r c =
    λ r c p q out. row_stays rows cols mid whole two r c r p q (λ d. out_test from to r d out)
    ∙ ap (λ l. cell_at cols l r c) mid_is ∙ get_or-table rows cols (moved_at cols cells one) r c blank p q
    ∙ moved_same cols cells one source r c q (λ d h. agrees extent rows cols row col r d p h out) in
    table_is rows cols (moved_at cols cells source) (mapped_cells rows cols mid two) (length-table rows cols _) (λ r c p q.
    get_or-table rows cols (moved_at cols mid two) r c blank p q
    ∙ elim (cases_lt r from) [
      | inl above ↦ rest r c p q (inl above)
      | inr low ↦ elim (cases_lt r to) [
        | inl high ↦
            row_blank cols mid two r c (λ d. from_test from to r d low high)
            ∙ sym (row_blank cols cells source r c (λ d. ap (λ b. cond b (Fresh blank) (From r d)) (inside extent rows row col r d low high)))
        | inr below ↦ rest r c p q (inr below)
      ]
    ])

-- all rows blanked
pub all_blank_is : (rows cols : ℕ) (cells : List Glyph) → mapped_cells rows cols cells (rows_blanked 0 rows) ≡ replicate (rows * cols) blank
all_blank_is rows cols cells =
    sym (table_is rows cols (moved_at cols cells (rows_blanked 0 rows)) (replicate (rows * cols) blank) (length-replicate (rows * cols) blank) (λ r c p q.
    get_or-replicate (rows * cols) (r * cols + c) blank blank (place_below rows cols r c p q)
    ∙ sym (row_blank cols cells (rows_blanked 0 rows) r c (λ d. from_test 0 rows r d (omega arith) p))))

pub rows_all_blank : (v w : Rows) → w ≡ mapped_rows (rows_blanked 0 v.rows) v → w ≡ record v { cells = replicate (v.rows * v.cols) blank }
rows_all_blank v w e = e ∙ ap (λ (xs : List Glyph). record v { cells = xs }) (all_blank_is v.rows v.cols v.cells)

pub page_erased : (extent : Extent) (row col from to top bottom : ℕ) (v m w : Rows) → AreRows m
    → from ≡ line_from extent col → to ≡ line_to extent v.cols col → top ≡ page_from extent row → bottom ≡ page_to extent v.rows row
    → m ≡ with_row row (erasure_source from to) v → w ≡ mapped_rows (rows_blanked top bottom) m → w ≡ mapped_rows (page_blanked extent row col) v
page_erased extent row col from to top bottom v m w h from_is to_is top_is bottom_is m_is w_is =
    let rows_is : m.rows ≡ v.rows = ap (λ (x : Rows). x.rows) m_is in
    let cols_is : m.cols ≡ v.cols = ap (λ (x : Rows). x.cols) m_is in
    let first_is : m.first ≡ v.first = ap (λ (x : Rows). x.first) m_is in
    let mid_is : m.cells ≡ mapped_cells v.rows v.cols v.cells (in_row row (erasure_source (line_from extent col) (line_to extent v.cols col))) =
    ap (λ (x : Rows). x.cells) m_is ∙ ap (λ k. mapped_cells v.rows v.cols v.cells (in_row row (erasure_source k to))) from_is
    ∙ ap (λ k. mapped_cells v.rows v.cols v.cells (in_row row (erasure_source (line_from extent col) k))) to_is in
    rows_are w v.rows v.cols v.first (mapped_cells v.rows v.cols v.cells (page_blanked extent row col))
    (ap (λ (x : Rows). x.rows) w_is ∙ rows_is) (ap (λ (x : Rows). x.cols) w_is ∙ cols_is) (ap (λ (x : Rows). x.first) w_is ∙ first_is)
    (ap (λ (x : Rows). x.cells) w_is ∙ ap (λ k. mapped_cells k m.cols m.cells (rows_blanked top bottom)) rows_is
    ∙ ap (λ k. mapped_cells v.rows k m.cells (rows_blanked top bottom)) cols_is
    ∙ ap (λ k. mapped_cells v.rows v.cols m.cells (rows_blanked k bottom)) top_is
    ∙ ap (λ k. mapped_cells v.rows v.cols m.cells (rows_blanked (page_from extent row) k)) bottom_is
    ∙ page_is extent v.rows v.cols row col v.cells m.cells (rw (rows_is, cols_is) at h.whole) mid_is)
