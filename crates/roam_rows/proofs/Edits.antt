-- A map of one row's columns, written back into the buffer.
use Rattle.std.proofs.Common.{◌≡◌, ◌≢◌, ℕ, ◌+◌, ◌-◌, ◌*◌, ◌<◌, ◌≤◌, ◌⊎◌, inl, inr, Bool, true, false, ◌&&◌, not, cond, leb, ltb, List, take, drop, length, get_or, set, refl, sym, ap, subst, ◌∙◌, arith}
use Rattle.std.proofs.lemmas.Bool.{false≢true}
use Rattle.std.proofs.lemmas.Grind.{common_steps}
use borrow.Rule.Slice.PartMut.{put_mid}
use Rattle.roam_cells.specs.Glyph.{Glyph, is_wide, blank}
use Rattle.roam_cells.specs.Place.{cell_at, glyph_at, IsWholeRow}
use Rattle.roam_rows.specs.Row.{RowSource, Column, Fresh, row_taken, are_neighbours, mended_glyph, row_moved, row_moved_at, IsInRow}
use Rattle.roam_rows.specs.Places.{mapped_cells, in_row}
use Rattle.roam_rows.specs.Halves.{AreParted}
use Rattle.roam_rows.specs.Turned.{IsTurned, in_order, brought_back}
use Rattle.roam_rows.specs.Rows.{Rows}
use Rattle.roam_rows.specs.Writing.{writing_source, written_run}
use Rattle.roam_rows.specs.Erasing.{erasure_source}
use Rattle.roam_rows.specs.Kept.{AreLengths}
use Rattle.roam_rows.proofs.Mending.{mended-blank}
use Rattle.roam_rows.proofs.Columns.{row_at, length-row}
use Rattle.roam_rows.proofs.Inking.{by}
use Rattle.roam_rows.proofs.Lifting.{part_at, put_here, put_before, put_after, length-put, fits, length-slice, lifted, lifted_turned}
use Rattle.roam_rows.proofs.Written.{still_lengths, past_length, row_here, rest_same}

-- a column that comes from a blank one
pub blank_from : (row : List Glyph) (one : ℕ → RowSource) (c d : ℕ) → c < length row → one c ≡ Column d → glyph_at row d ≡ blank → glyph_at (row_moved row one) c ≡ blank
blank_from row one c d q e h =
    row_at (length row) (row_moved_at row one) c q
    ∙ ap (λ x. mended_glyph (row_taken row x) (ltb (c + 1) (length row) && are_neighbours (one c) (one (c + 1))) (ltb 0 c && are_neighbours (one (c - 1)) (one c))) e
    ∙ ap (λ x. mended_glyph x (ltb (c + 1) (length row) && are_neighbours (one c) (one (c + 1))) (ltb 0 c && are_neighbours (one (c - 1)) (one c))) h
    ∙ mended-blank (ltb (c + 1) (length row) && are_neighbours (one c) (one (c + 1))) (ltb 0 c && are_neighbours (one (c - 1)) (one c))

written_past_by : (x : Glyph) (w : Bool) (col c : ℕ) → col < c → (w ≡ true → col + 1 < c) → by w x col c ≡ Column c
written_past_by x true col c p h = let q : col + 1 < c = h refl in grind (arith, common_steps)
written_past_by x false col c p h = grind (arith, common_steps)

pub written_past : (x : Glyph) (col c : ℕ) → col < c → (is_wide x ≡ true → col + 1 < c) → writing_source x col c ≡ Column c
written_past x col c p h = written_past_by x (is_wide x) col c p h

pub run_past : (gs : List Glyph) (col c : ℕ) → col + length gs ≤ c → written_run gs col c ≡ Column c
run_past gs col c p = grind (arith, common_steps)

-- a source that is a column past a number, or a new blank
abbrev pub IsBlankSource : ℕ → ℕ → RowSource → Type 0
IsBlankSource cols len (Column d) = (len ≤ d) × (d < cols)
IsBlankSource cols len (Fresh x) = x ≡ blank

blank_fresh : (row : List Glyph) (one : ℕ → RowSource) (c : ℕ) (x : Glyph) → c < length row → one c ≡ Fresh x → x ≡ blank → glyph_at (row_moved row one) c ≡ blank
blank_fresh row one c x q e h =
    row_at (length row) (row_moved_at row one) c q
    ∙ ap (λ y. mended_glyph (row_taken row y) (ltb (c + 1) (length row) && are_neighbours (one c) (one (c + 1))) (ltb 0 c && are_neighbours (one (c - 1)) (one c))) (e ∙ ap (λ y. Fresh y) h)
    ∙ mended-blank (ltb (c + 1) (length row) && are_neighbours (one c) (one (c + 1))) (ltb 0 c && are_neighbours (one (c - 1)) (one c))

pub blank_by : (row : List Glyph) (one : ℕ → RowSource) (len c : ℕ) → c < length row → ((d : ℕ) → len ≤ d → d < length row → glyph_at row d ≡ blank)
    → (x : RowSource) → one c ≡ x → IsBlankSource (length row) len x → glyph_at (row_moved row one) c ≡ blank
blank_by row one len c q rest (Column d) e h = blank_from row one c d q e (rest d h.0 h.1)
blank_by row one len c q rest (Fresh x) e h = blank_fresh row one c x q e h

-- a changed row is blank from a column on if each column from there on comes from one past the old length, or is a new blank
pub blank_past : (row : List Glyph) (one : ℕ → RowSource) (len w : ℕ) → ((d : ℕ) → len ≤ d → d < length row → glyph_at row d ≡ blank)
    → ((c : ℕ) → w ≤ c → c < length row → IsBlankSource (length row) len (one c)) → (new : List Glyph) → new ≡ row_moved row one
    → (c : ℕ) → w ≤ c → c < length row → glyph_at new c ≡ blank
blank_past row one len w rest blanks new new_is c p q = ap (λ l. glyph_at l c) new_is ∙ blank_by row one len c q rest (one c) refl (blanks c p q)

module _ (rows cols first R at a m : ℕ) (buffer : List Glyph) (lengths : List ℕ) (turned : IsTurned rows cols first buffer) (kept : AreLengths rows cols buffer lengths) (R_in : R < rows)
    (at_is : at ≡ brought_back rows (first + R)) (at_in : at < rows) (a_is : a ≡ at * cols) (m_is : m ≡ cols) where
  pub a_turned : a ≡ brought_back rows (first + R) * cols
  a_turned = a_is ∙ ap (λ j. j * cols) at_is

  -- the row is blank past the columns in use
  pub row_rest : (c : ℕ) → get_or lengths at 0 ≤ c → c < length (take m (drop a buffer)) → glyph_at (take m (drop a buffer)) c ≡ blank
  row_rest c p q =
      let low : c < cols = omega (arith, length-slice rows cols first R a m buffer turned R_in a_turned m_is) in
      part_at a m c buffer (omega arith) ∙ past_length rows cols at a c buffer lengths kept at_in a_is p low

  module _ (ys : List Glyph) (one : ℕ → RowSource) (stays : (c : ℕ) → c < cols → IsInRow cols (one c)) (ys_is : ys ≡ row_moved (take m (drop a buffer)) one) (whole : IsWholeRow ys)
      (w : ℕ) (w_in : w ≤ cols) (rest : (c : ℕ) → w ≤ c → c < cols → glyph_at ys c ≡ blank) where
    same_length : length ys ≡ length (take m (drop a buffer))
    same_length = ap length ys_is ∙ length-row (length (take m (drop a buffer))) (row_moved_at (take m (drop a buffer)) one)

    long : length ys ≡ m
    long = same_length ∙ length-slice rows cols first R a m buffer turned R_in a_turned m_is ∙ sym m_is

    pub edited : (IsTurned rows cols first (put_mid a m buffer ys)) × (AreLengths rows cols (put_mid a m buffer ys) (set lengths at w))
        × (in_order cols first (put_mid a m buffer ys) ≡ mapped_cells rows cols (in_order cols first buffer) (in_row R one))
    edited =
        let room = fits rows cols first R a m buffer turned R_in a_turned m_is in (
          lifted_turned rows cols first R a m buffer turned R_in a_turned m_is ys same_length whole,
          still_lengths rows cols first R at a buffer (put_mid a m buffer ys) lengths turned kept R_in at_is at_in a_is (length-put a m buffer ys room long)
              (λ k h. put_before a m k buffer ys room long h) (λ k h. put_after a m k buffer ys room long (omega (arith, m_is)))
              w w_in (λ c p q. put_here a m c buffer ys room long (omega (arith, m_is)) ∙ rest c p q),
          lifted rows cols first R a m buffer turned R_in a_turned m_is ys same_length one stays ys_is,
        )

  -- a row is replaced by another
  pub replaced : (ys : List Glyph) → length ys ≡ cols → IsWholeRow ys → (w : ℕ) → w ≤ cols → ((c : ℕ) → w ≤ c → c < cols → glyph_at ys c ≡ blank) → (cells : List Glyph) → cells ≡ put_mid a m buffer ys
      → (IsTurned rows cols first cells) × (AreLengths rows cols cells (set lengths at w)) × ((c : ℕ) → c < cols → cell_at cols (in_order cols first cells) R c ≡ glyph_at ys c)
      × ((r c : ℕ) → r < rows → c < cols → r ≢ R → cell_at cols (in_order cols first cells) r c ≡ cell_at cols (in_order cols first buffer) r c)
  replaced ys size whole w w_in rest cells cells_are =
      let room = fits rows cols first R a m buffer turned R_in a_turned m_is in
      let same : length ys ≡ length (take m (drop a buffer)) = size ∙ sym (length-slice rows cols first R a m buffer turned R_in a_turned m_is) in
      let long : length ys ≡ m = size ∙ sym m_is in
      let new = put_mid a m buffer ys in
      let before : (k : ℕ) → k < a → get_or new k blank ≡ get_or buffer k blank = λ k h. put_before a m k buffer ys room long h in
      let after : (k : ℕ) → a + cols ≤ k → get_or new k blank ≡ get_or buffer k blank = λ k h. put_after a m k buffer ys room long (omega (arith, m_is)) in
      let len : length new ≡ length buffer = length-put a m buffer ys room long in
      let here : (c : ℕ) → c < cols → get_or new (a + c) blank ≡ glyph_at ys c = λ c q. put_here a m c buffer ys room long (omega (arith, m_is)) in (
        subst (λ (l : List Glyph). IsTurned rows cols first l) (sym cells_are) (lifted_turned rows cols first R a m buffer turned R_in a_turned m_is ys same whole),
        subst (λ (l : List Glyph). AreLengths rows cols l (set lengths at w)) (sym cells_are)
            (still_lengths rows cols first R at a buffer new lengths turned kept R_in at_is at_in a_is len before after w w_in (λ c p q. here c q ∙ rest c p q)),
        λ c q. ap (λ (l : List Glyph). cell_at cols (in_order cols first l) R c) cells_are
            ∙ row_here rows cols first R at a buffer new lengths turned kept R_in at_is at_in a_is len before after c q ∙ here c q,
        λ r c p q ne. ap (λ (l : List Glyph). cell_at cols (in_order cols first l) r c) cells_are
            ∙ rest_same rows cols first R at a buffer new lengths turned kept R_in at_is at_in a_is len before after r c p q ne,
      )

  pub put_fits : (ys : List Glyph) → length ys ≡ cols → length (put_mid a m buffer ys) ≡ length buffer
  put_fits ys size = length-put a m buffer ys (fits rows cols first R a m buffer turned R_in a_turned m_is) (size ∙ sym m_is)

  -- a row that is put back leaves as many cells
  pub put_long : (ys : List Glyph) (one : ℕ → RowSource) → ys ≡ row_moved (take m (drop a buffer)) one → length (put_mid a m buffer ys) ≡ length buffer
  put_long ys one ys_is =
      length-put a m buffer ys (fits rows cols first R a m buffer turned R_in a_turned m_is)
      (ap length ys_is ∙ length-row (length (take m (drop a buffer))) (row_moved_at (take m (drop a buffer)) one)
      ∙ length-slice rows cols first R a m buffer turned R_in a_turned m_is ∙ sym m_is)

-- a column past the length that takes itself
pub still_column : (cols len c : ℕ) (one : ℕ → RowSource) → one c ≡ Column c → len ≤ c → c < cols → IsBlankSource cols len (one c)
still_column cols len c one e p q = subst (λ (x : RowSource). IsBlankSource cols len x) (sym e) (p, q)

blanked_by : (cols len from to c : ℕ) (b : Bool) → c < cols → (leb from c && ltb c to) ≡ b → (len ≤ c) ⊎ ((from ≤ c) × (c < to)) → IsBlankSource cols len (cond b (Fresh blank) (Column c))
blanked_by cols len from to c true q h p = refl
blanked_by cols len from to c false q h p = (elim p [ inl low ↦ low | inr inside ↦ absurd (false≢true (sym h ∙ grind (arith, common_steps))) ], q)

pub blanked_after : (cols len from to c : ℕ) → c < cols → (len ≤ c) ⊎ ((from ≤ c) × (c < to)) → IsBlankSource cols len (erasure_source from to c)
blanked_after cols len from to c q p = blanked_by cols len from to c (leb from c && ltb c to) q refl p

-- a blank column stays blank if boundaries are cut
pub parted_blank : (cut : ℕ → Bool) (old new : List Glyph) → AreParted cut old new → (c : ℕ) → c < length old → glyph_at old c ≡ blank → glyph_at new c ≡ blank
parted_blank cut old new parted c q h =
    parted.each c q ∙ ap (λ x. mended_glyph x (not (cut (c + 1))) (not (cut c))) h ∙ mended-blank (not (cut (c + 1))) (not (cut c))

-- rows by their parts
abbrev pub rows_by : ℕ → ℕ → ℕ → List Glyph → Rows
rows_by rows cols first cells = record { rows = rows; cols = cols; cells = cells; first = first }

-- a test is true or false
pub flag : (b : Bool) → (b ≡ true) ⊎ (b ≡ false)
flag true = inl refl
flag false = inr refl
