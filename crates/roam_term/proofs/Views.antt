-- The picture of a terminal: rows of the history, and below them the screen.
use Rattle.std.proofs.Common.{◌≡◌, ◌<◌, ◌≤◌, ℕ, zero, suc, ◌+◌, ◌*◌, ◌-◌, List, [], ◌∷◌, ◌++◌, take, drop, length, get_or, length-append, replicate, refl, sym, ap, ◌∙◌, append_assoc, arith, subst}
use Rattle.std.specs.Prelude.{All}
use Rattle.std.specs.List.{flat_map}
use Rattle.std.proofs.lemmas.List.{get_or_append_left, get_or-append_right, get_or-take, length-take-le, length-replicate}
use Rattle.std.proofs.lemmas.List.Edits.{get_or-between}
use Rattle.std.proofs.Math.Seq.{take-add, take-append_seam, drop-append-add}
use Rattle.roam_cells.specs.Glyph.{Glyph, blank, is_wide, is_right_half, right_of}
use Rattle.roam_cells.specs.Place.{cell_at, glyph_at, IsWholeLine, IsWholeRow, AreWhole, row_of}
use Rattle.roam_cells.proofs.Places.{place_below}
use Rattle.roam_history.specs.Histories.{IsRow}
use Rattle.roam_history.specs.Lines.{with_blanks}

-- the cells of rows, one row after another
abbrev pub flat : List (List Glyph) → List Glyph
flat rows = flat_map (λ (row : List Glyph). row) rows

each_later : (cols : ℕ) (row : List Glyph) (rows : List (List Glyph)) → All (IsRow cols) (row ∷ rows) → All (IsRow cols) rows
each_later cols row rows each = λ k d h. each (suc k) d (omega (arith, h))

-- the rows of the history come one after another
pub row_among : (cols : ℕ) (rows : List (List Glyph)) (cells : List Glyph) (r : ℕ) → All (IsRow cols) rows → r < length rows
    → row_of cols (flat rows ++ cells) r ≡ get_or rows r []
row_among cols [] cells r each low = absurd (omega (arith, low))
row_among cols (row ∷ rows) cells zero each low =
    let count : length row ≡ cols = (each 0 row (omega arith)).count in
    let size : (0 + 1) * cols - 0 * cols ≡ length row = omega (arith, count) in
    let none : 0 * cols ≡ 0 = omega arith in
    (λ i. take (size i) (drop (none i) (append_assoc row (flat rows) cells i))) ∙ take-append_seam row (flat rows ++ cells)
row_among cols (row ∷ rows) cells (suc r) each low =
    let count : length row ≡ cols = (each 0 row (omega arith)).count in
    let size : (suc r + 1) * cols - suc r * cols ≡ (r + 1) * cols - r * cols = omega arith in
    let from : suc r * cols ≡ length row + r * cols = omega (arith, count) in
    (λ i. take (size i) (drop (from i) (append_assoc row (flat rows) cells i)))
    ∙ ap (take ((r + 1) * cols - r * cols)) (drop-append-add row (flat rows ++ cells) (r * cols))
    ∙ row_among cols rows cells r (each_later cols row rows each) (omega (arith, low))

-- and the rows below them begin with their own first row
pub row_below : (cols : ℕ) (rows : List (List Glyph)) (cells : List Glyph) (r : ℕ) → All (IsRow cols) rows
    → row_of cols (flat rows ++ cells) (length rows + r) ≡ row_of cols cells r
row_below cols [] cells r each = let same : 0 + r ≡ r = omega arith in ap (row_of cols cells) same
row_below cols (row ∷ rows) cells r each =
    let count : length row ≡ cols = (each 0 row (omega arith)).count in
    let k = length rows + r in
    let size : (suc (length rows) + r + 1) * cols - (suc (length rows) + r) * cols ≡ (k + 1) * cols - k * cols = omega arith in
    let from : (suc (length rows) + r) * cols ≡ length row + k * cols = omega (arith, count) in
    (λ i. take (size i) (drop (from i) (append_assoc row (flat rows) cells i)))
    ∙ ap (take ((k + 1) * cols - k * cols)) (drop-append-add row (flat rows ++ cells) (k * cols))
    ∙ row_below cols rows cells r (each_later cols row rows each)

-- one more row
pub rows_more : (cols i : ℕ) (cells : List Glyph) → take (i * cols) cells ++ row_of cols cells i ≡ take ((i + 1) * cols) cells
rows_more cols i cells =
    let size : (i + 1) * cols - i * cols ≡ cols = omega arith in
    let next : (i + 1) * cols ≡ i * cols + cols = omega arith in
    ap (λ n. take (i * cols) cells ++ take n (drop (i * cols) cells)) size ∙ sym (ap (λ n. take n cells) next ∙ take-add (i * cols) cols cells)

-- a line depends on its own columns alone
line_same : (cols : ℕ) (f g : ℕ → Glyph) → ((c : ℕ) → c < cols → g c ≡ f c) → IsWholeLine cols f → IsWholeLine cols g
line_same cols f g same whole c q = record {
  wide = λ wide.
      let pair = (whole c q).wide (sym (ap is_wide (same c q)) ∙ wide) in
      (pair.0, same (c + 1) pair.0 ∙ pair.1 ∙ sym (ap right_of (same c q)));
  half = λ half.
      let pair = (whole c q).half (sym (ap is_right_half (same c q)) ∙ half) in
      (pair.0, ap is_wide (same (c - 1) (omega (arith, q))) ∙ pair.1);
}

-- a row above whole rows
row_above : (cols r : ℕ) (row cells : List Glyph) → IsRow cols row → AreWhole r cols cells → AreWhole (suc r) cols (row ++ cells)
row_above cols r row cells is whole zero p =
    line_same cols (glyph_at row) (cell_at cols (row ++ cells) 0)
    (λ c q. let at : 0 * cols + c ≡ c = omega arith in ap (λ k. get_or (row ++ cells) k blank) at ∙ get_or_append_left row cells blank c (omega (arith, is.count, q)))
    (subst (λ (n : ℕ). IsWholeLine n (glyph_at row)) is.count is.whole)
row_above cols r row cells is whole (suc i) p =
    line_same cols (cell_at cols cells i) (cell_at cols (row ++ cells) (suc i))
    (λ c q.
    let at : suc i * cols + c - length row ≡ i * cols + c = omega (arith, is.count) in
    get_or-append_right row cells (length row) (suc i * cols + c) blank refl (omega (arith, is.count)) ∙ ap (λ k. get_or cells k blank) at)
    (whole i (omega arith))

-- rows of the history above whole rows
rows_above : (cols r : ℕ) (rows : List (List Glyph)) (cells : List Glyph) → All (IsRow cols) rows → AreWhole r cols cells → AreWhole (length rows + r) cols (flat rows ++ cells)
rows_above cols r [] cells each whole = subst (λ (n : ℕ). AreWhole n cols cells) (omega arith) whole
rows_above cols r (row ∷ rows) cells each whole =
    let more : suc (length rows + r) ≡ length (row ∷ rows) + r = omega arith in
    subst (λ (l : List Glyph). AreWhole (length (row ∷ rows) + r) cols l) (sym (append_assoc row (flat rows) cells))
    (subst (λ (n : ℕ). AreWhole n cols (row ++ (flat rows ++ cells))) more (row_above cols (length rows + r) row (flat rows ++ cells) (each 0 row (omega arith)) (rows_above cols r rows cells (each_later cols row rows each) whole)))

-- as many whole rows as fit
module _ (cols r : ℕ) (rows : List (List Glyph)) (cells : List Glyph) (each : All (IsRow cols) rows) (size : length cells ≡ r * cols) where
  abbrev pub all : List Glyph
  all = flat rows ++ cells

  enough : r * cols ≤ length all
  enough =
      let both : length all ≡ length (flat rows) + length cells = length-append (flat rows) cells in
      let rest : length cells ≡ r * cols = size in
      omega (arith, both, rest)

  pub view_size : length (take (r * cols) all) ≡ r * cols
  view_size = length-take-le (r * cols) all enough

  pub view_whole : AreWhole r cols cells → AreWhole r cols (take (r * cols) all)
  view_whole whole = λ i p.
      line_same cols (cell_at cols all i) (cell_at cols (take (r * cols) all) i)
      (λ c q. get_or-take (r * cols) all (i * cols + c) blank (place_below r cols i c p q))
      (rows_above cols r rows cells each whole i (omega arith))

-- ---- a row of a screen

-- the columns in use of a whole row, with blanks after them
pub front_whole : (rows cols i : ℕ) (cells front : List Glyph) → AreWhole rows cols cells → i < rows → length front ≤ cols
    → row_of cols cells i ≡ with_blanks cols front → IsWholeRow (with_blanks cols front)
front_whole rows cols i cells front whole p few is =
    let len : length (with_blanks cols front) ≡ cols =
    length-append front (replicate (cols - length front) blank) ∙ omega (arith, length-replicate (cols - length front) blank) in
    subst (λ (n : ℕ). IsWholeLine n (glyph_at (with_blanks cols front))) (sym len)
    (line_same cols (cell_at cols cells i) (glyph_at (with_blanks cols front))
    (λ c q. ap (λ l. glyph_at l c) (sym is) ∙ get_or-between cells (i * cols) ((i + 1) * cols) c blank (omega arith)) (whole i p))
