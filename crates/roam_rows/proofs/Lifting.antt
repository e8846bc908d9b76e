-- A map of one row's columns is a map of the screen's places, put back in the buffer.
use Rattle.std.proofs.Common.{◌≡◌, ◌≢◌, ℕ, ◌+◌, ◌-◌, ◌*◌, ◌<◌, ◌≤◌, Bool, true, false, ◌&&◌, cond, eqb, ltb, inl, inr, List, take, drop, length, get_or, refl, sym, ap, ◌∙◌, arith, length-take, length-drop}
use Rattle.std.proofs.lemmas.Bool.{cases_eq}
use Rattle.std.proofs.lemmas.List.{get_or-drop, get_or-take, places}
use Rattle.std.proofs.lemmas.Grind.{common_steps}
use borrow.Rule.Slice.PartMut.{put_mid}
use Rattle.roam_cells.specs.Glyph.{Glyph, is_wide, is_right_half, right_of, blank}
use Rattle.roam_cells.specs.Place.{cell_at, AreWhole, glyph_at, IsWholeRow}
use Rattle.roam_cells.proofs.Places.{table_is, row_from, get_or-table}
use Rattle.roam_rows.specs.Row.{RowSource, Column, Fresh, row_taken, are_neighbours, mended_glyph, row_moved, row_moved_at, IsInRow}
use Rattle.roam_rows.specs.Places.{From, glyph_of_source, are_joined, mapped_cells, moved_at, at_row, in_row}
use Rattle.roam_rows.specs.Turned.{IsTurned, in_order, brought_back}
use Rattle.roam_rows.proofs.Columns.{row_at}
use Rattle.roam_rows.proofs.Vertical.{row_stays, shown, shown_by}
use Rattle.roam_rows.proofs.Turning.{turned_at, length-in_order, others_stay, back_below}

pub same : (R : ℕ) → eqb R R ≡ true
same R = grind (arith, common_steps)

pub other : (r R : ℕ) → r ≢ R → eqb r R ≡ false
other r R ne = grind (arith, common_steps)

pub in_row_or : (cols c : ℕ) (x : Glyph) (a : Bool) → c < cols → IsInRow cols (cond a (Fresh x) (Column c))
in_row_or cols c x true h = tt
in_row_or cols c x false h = h

pub in_row_else : (cols c : ℕ) (x y : Glyph) (a b : Bool) → c < cols → IsInRow cols (cond a (Fresh x) (cond b (Fresh y) (Column c)))
in_row_else cols c x y true b h = tt
in_row_else cols c x y false true h = tt
in_row_else cols c x y false false h = h

pub in_here : (R c : ℕ) (one : ℕ → RowSource) → in_row R one R c ≡ at_row R (one c)
in_here R c one = ap (λ b. cond b (at_row R (one c)) (From R c)) (same R)

pub in_other : (R r c : ℕ) (one : ℕ → RowSource) → r ≢ R → in_row R one r c ≡ From r c
in_other R r c one ne = ap (λ b. cond b (at_row R (one c)) (From r c)) (other r R ne)

joined_at : (R : ℕ) (x y : RowSource) → are_neighbours x y ≡ are_joined (at_row R x) (at_row R y)
joined_at R (Column c) (Column d) = sym (ap (λ b. b && eqb d (c + 1)) (same R))
joined_at R (Column c) (Fresh y) = refl
joined_at R (Fresh x) (Column d) = refl
joined_at R (Fresh x) (Fresh y) = refl

module _ (rows cols R : ℕ) (cells row : List Glyph) (len : length row ≡ cols) (row_is : (c : ℕ) → c < cols → glyph_at row c ≡ cell_at cols cells R c) where
  taken_at : (x : RowSource) → IsInRow cols x → row_taken row x ≡ glyph_of_source cols cells (at_row R x)
  taken_at (Column d) h = row_is d h
  taken_at (Fresh x) h = refl

  shown_at : (c : ℕ) (x y z : RowSource) → IsInRow cols x
      → mended_glyph (row_taken row x) (ltb (c + 1) (length row) && are_neighbours x y) (ltb 0 c && are_neighbours z x)
      ≡ shown cols cells c (at_row R x) (at_row R y) (at_row R z)
  shown_at c x y z h =
      ap (λ g. mended_glyph g (ltb (c + 1) (length row) && are_neighbours x y) (ltb 0 c && are_neighbours z x)) (taken_at x h)
      ∙ ap (λ n. mended_glyph (glyph_of_source cols cells (at_row R x)) (ltb (c + 1) n && are_neighbours x y) (ltb 0 c && are_neighbours z x)) len
      ∙ ap (λ b. mended_glyph (glyph_of_source cols cells (at_row R x)) (ltb (c + 1) cols && b) (ltb 0 c && are_neighbours z x)) (joined_at R x y)
      ∙ ap (λ b. mended_glyph (glyph_of_source cols cells (at_row R x)) (ltb (c + 1) cols && are_joined (at_row R x) (at_row R y)) (ltb 0 c && b)) (joined_at R z x)

  pub moved_here : (one : ℕ → RowSource) → ((c : ℕ) → c < cols → IsInRow cols (one c)) → R < rows → (c : ℕ) → c < cols
      → cell_at cols (mapped_cells rows cols cells (in_row R one)) R c ≡ glyph_at (row_moved row one) c
  moved_here one stays R_in c q =
      get_or-table rows cols (moved_at cols cells (in_row R one)) R c blank R_in q
      ∙ shown_by cols cells (in_row R one) R c (at_row R (one c)) (at_row R (one (c + 1))) (at_row R (one (c - 1))) (in_here R c one) (in_here R (c + 1) one) (in_here R (c - 1) one)
      ∙ sym (row_at (length row) (row_moved_at row one) c (omega (arith, len)) ∙ shown_at c (one c) (one (c + 1)) (one (c - 1)) (stays c q))

  pub moved_in_row : (new : List Glyph) (one : ℕ → RowSource) → ((c : ℕ) → c < cols → IsInRow cols (one c)) → AreWhole rows cols cells → length new ≡ rows * cols
      → ((c : ℕ) → c < cols → cell_at cols new R c ≡ glyph_at (row_moved row one) c)
      → ((r c : ℕ) → r < rows → c < cols → r ≢ R → cell_at cols new r c ≡ cell_at cols cells r c)
      → new ≡ mapped_cells rows cols cells (in_row R one)
  moved_in_row new one stays whole size here others =
      let source = in_row R one in
      table_is rows cols (moved_at cols cells source) new size (λ r c p q.
      elim (cases_eq r R) [
        | inl e ↦
            ap (λ j. cell_at cols new j c) e ∙ here c q ∙ row_at (length row) (row_moved_at row one) c (omega (arith, len))
            ∙ shown_at c (one c) (one (c + 1)) (one (c - 1)) (stays c q)
            ∙ sym (shown_by cols cells source R c (at_row R (one c)) (at_row R (one (c + 1))) (at_row R (one (c - 1))) (in_here R c one) (in_here R (c + 1) one) (in_here R (c - 1) one))
            ∙ sym (ap (λ j. moved_at cols cells source j c) e)
        | inr ne ↦ others r c p q ne ∙ sym (row_stays rows cols cells whole source r c r p q (λ d. in_other R r d one ne))
      ])

-- a row of whole cells is whole by itself
pub row_whole : (rows cols R : ℕ) (cells row : List Glyph) → R < rows → AreWhole rows cols cells → length row ≡ cols
    → ((c : ℕ) → c < cols → glyph_at row c ≡ cell_at cols cells R c) → IsWholeRow row
row_whole rows cols R cells row R_in whole len row_is = λ c h. record {
  wide = λ w.
      let q : c < cols = omega (arith, len) in
      let pair = (whole R R_in c q).wide (ap is_wide (sym (row_is c q)) ∙ w) in
      (omega (arith, len, pair.0), row_is (c + 1) pair.0 ∙ pair.1 ∙ ap right_of (sym (row_is c q)));
  half = λ w.
      let q : c < cols = omega (arith, len) in
      let pair = (whole R R_in c q).half (ap is_right_half (sym (row_is c q)) ∙ w) in
      (pair.0, ap is_wide (row_is (c - 1) (omega arith)) ∙ pair.1);
}

-- whole rows, one of which is put back whole, are whole
pub put_whole : (rows cols R : ℕ) (cells row new : List Glyph) → AreWhole rows cols cells → IsWholeRow row → length row ≡ cols
    → ((c : ℕ) → c < cols → cell_at cols new R c ≡ glyph_at row c)
    → ((r c : ℕ) → r < rows → c < cols → r ≢ R → cell_at cols new r c ≡ cell_at cols cells r c)
    → AreWhole rows cols new
put_whole rows cols R cells row new whole row_whole len here others = λ r p c q. record {
  wide = λ w. elim (cases_eq r R) [
    | inl e ↦
        let at : (d : ℕ) → d < cols → cell_at cols new r d ≡ glyph_at row d = λ d i. ap (λ j. cell_at cols new j d) e ∙ here d i in
        let h = (row_whole c (omega (arith, len))).wide (ap is_wide (sym (at c q)) ∙ w) in
        let next : c + 1 < cols = omega (arith, len, h.0) in
        (next, at (c + 1) next ∙ h.1 ∙ ap right_of (sym (at c q)))
    | inr ne ↦
        let h = (whole r p c q).wide (ap is_wide (sym (others r c p q ne)) ∙ w) in
        (h.0, others r (c + 1) p h.0 ne ∙ h.1 ∙ ap right_of (sym (others r c p q ne)))
  ];
  half = λ w. elim (cases_eq r R) [
    | inl e ↦
        let at : (d : ℕ) → d < cols → cell_at cols new r d ≡ glyph_at row d = λ d i. ap (λ j. cell_at cols new j d) e ∙ here d i in
        let h = (row_whole c (omega (arith, len))).half (ap is_right_half (sym (at c q)) ∙ w) in
        (h.0, ap is_wide (at (c - 1) (omega arith)) ∙ h.1)
    | inr ne ↦
        let h = (whole r p c q).half (ap is_right_half (sym (others r c p q ne)) ∙ w) in
        (h.0, ap is_wide (others r (c - 1) p (omega arith) ne) ∙ h.1)
  ];
}

-- a column of a row that is cut out of the buffer
pub part_at : (a cols c : ℕ) (xs : List Glyph) → c < cols → get_or (take cols (drop a xs)) c blank ≡ get_or xs (a + c) blank
part_at a cols c xs q = get_or-take cols (drop a xs) c blank q ∙ get_or-drop a xs c blank

pub put_here : (a m k : ℕ) (xs ys : List Glyph) → a + m ≤ length xs → length ys ≡ m → k < m → get_or (put_mid a m xs ys) (a + k) blank ≡ get_or ys k blank
put_here a m k xs ys h e p = grind (arith, places)

pub put_before : (a m k : ℕ) (xs ys : List Glyph) → a + m ≤ length xs → length ys ≡ m → k < a → get_or (put_mid a m xs ys) k blank ≡ get_or xs k blank
put_before a m k xs ys h e p = grind (arith, places)

pub put_after : (a m k : ℕ) (xs ys : List Glyph) → a + m ≤ length xs → length ys ≡ m → a + m ≤ k → get_or (put_mid a m xs ys) k blank ≡ get_or xs k blank
put_after a m k xs ys h e p = grind (arith, places)

pub length-put : (a m : ℕ) (xs ys : List Glyph) → a + m ≤ length xs → length ys ≡ m → length (put_mid a m xs ys) ≡ length xs
length-put a m xs ys h e = grind (arith, places)

-- the slice of one row of the buffer
module _ (rows cols first R a m : ℕ) (buffer : List Glyph) (turned : IsTurned rows cols first buffer) (R_in : R < rows) (a_is : a ≡ brought_back rows (first + R) * cols) (m_is : m ≡ cols) where
  pub fits : a + m ≤ length buffer
  fits = rw a_is (omega (arith, m_is, turned.size, row_from cols (brought_back rows (first + R) + 1) rows 0 (omega (arith, back_below rows first R turned.first_in R_in))))

  -- the cell before an operation
  pub row_before : (c : ℕ) → c < cols → glyph_at (take m (drop a buffer)) c ≡ cell_at cols (in_order cols first buffer) R c
  row_before c q =
      part_at a m c buffer (omega (arith, m_is)) ∙ ap (λ j. get_or buffer (j + c) blank) a_is
      ∙ sym (turned_at rows cols first buffer R c turned.size turned.first_in R_in q)

  pub length-slice : length (take m (drop a buffer)) ≡ cols
  length-slice = simp (length-take, length-drop) (omega (arith, fits, m_is))

  pub slice_whole : IsWholeRow (take m (drop a buffer))
  slice_whole = row_whole rows cols R (in_order cols first buffer) (take m (drop a buffer)) R_in turned.whole length-slice row_before

  module _ (ys : List Glyph) (len : length ys ≡ length (take m (drop a buffer))) where
    long : length ys ≡ m
    long = len ∙ length-slice ∙ sym m_is

    put_len : length (put_mid a m buffer ys) ≡ rows * cols
    put_len = length-put a m buffer ys fits long ∙ turned.size

    row_after : (c : ℕ) → c < cols → cell_at cols (in_order cols first (put_mid a m buffer ys)) R c ≡ glyph_at ys c
    row_after c q =
        turned_at rows cols first (put_mid a m buffer ys) R c put_len turned.first_in R_in q ∙ ap (λ j. get_or (put_mid a m buffer ys) (j + c) blank) (sym a_is)
        ∙ put_here a m c buffer ys fits long (omega (arith, m_is))

    rest_after : (r c : ℕ) → r < rows → c < cols → r ≢ R → cell_at cols (in_order cols first (put_mid a m buffer ys)) r c ≡ cell_at cols (in_order cols first buffer) r c
    rest_after =
        others_stay rows cols first R buffer (put_mid a m buffer ys) turned.size put_len turned.first_in R_in
        (λ k h. put_before a m k buffer ys fits long (rw a_is h))
        (λ k h. put_after a m k buffer ys fits long (omega (arith, m_is, a_is)))

    -- the screen after one
    pub lifted : (one : ℕ → RowSource) → ((c : ℕ) → c < cols → IsInRow cols (one c)) → ys ≡ row_moved (take m (drop a buffer)) one
        → in_order cols first (put_mid a m buffer ys) ≡ mapped_cells rows cols (in_order cols first buffer) (in_row R one)
    lifted one stays ys_is =
        moved_in_row rows cols R (in_order cols first buffer) (take m (drop a buffer)) length-slice row_before (in_order cols first (put_mid a m buffer ys)) one stays turned.whole
        (length-in_order cols first (put_mid a m buffer ys) ∙ put_len)
        (λ c q. row_after c q ∙ ap (λ l. glyph_at l c) ys_is) rest_after

    pub lifted_turned : IsWholeRow ys → IsTurned rows cols first (put_mid a m buffer ys)
    lifted_turned whole = record {
      limits = turned.limits;
      size = put_len;
      first_in = turned.first_in;
      whole = put_whole rows cols R (in_order cols first buffer) ys (in_order cols first (put_mid a m buffer ys)) turned.whole whole (len ∙ length-slice) row_after rest_after;
    }
