-- Screens kept row by row: the cell at a place, and a change of one row.
use Rattle.std.proofs.Common.{◌≡◌, ◌≢◌, ℕ, zero, suc, ◌+◌, ◌-◌, ◌*◌, ◌/◌, ◌%◌, ◌<◌, ◌≤◌, List, [], ◌∷◌, ◌++◌, false, inl, inr, length, get_or, set, take, drop, replicate, sym, ap, ◌∙◌, subst, arith, length-append}
use Rattle.std.specs.Prelude.{EachIndex}
use Rattle.std.proofs.lemmas.Bool.{cases_eq}
use Rattle.std.proofs.lemmas.List.{same_lists, ext_get_or, get_or_push, get_or_append_left, get_or-append_right, get_or_default, get_or-take, get_or-drop, length-take, length-drop, length-set, length-replicate, get_or-replicate, get_or-set_same, get_or-set_other, drop_at, drop-drop, append_assoc, replicate-append-replicate}
use Rattle.std.proofs.Math.Nat.{mul-le-mul_right}
use Rattle.std.proofs.Math.Seq.{take-append-add}
use Rattle.roam_cells.specs.Glyph.{Glyph, IsShown, is_wide, is_right_half, right_of, blank}
use Rattle.roam_cells.specs.Place.{glyph_at, cell_at, IsWholeLine, IsWholeRow, AreUnguarded, AreShown, row_of}
use Rattle.roam_screens.specs.Screenshot.{Screenshot, IsScreenshot}
use Rattle.roam_screens.specs.Lines.{cells_in_order, AreLines, with_row}
use Rattle.roam_cells.proofs.Places.{place_below, place_of}

-- ---- one row of cells

-- a row has its cells
pub row_at : (cols : ℕ) (cells : List Glyph) (r c : ℕ) → c < cols → get_or (row_of cols cells r) c blank ≡ cell_at cols cells r c
row_at cols cells r c p =
    let n : c < (r + 1) * cols - r * cols = omega (arith, p) in
    get_or-take ((r + 1) * cols - r * cols) (drop (r * cols) cells) c blank n ∙ get_or-drop (r * cols) cells c blank

pub length-row : (rows cols : ℕ) (cells : List Glyph) (r : ℕ) → length cells ≡ rows * cols → r < rows → length (row_of cols cells r) ≡ cols
length-row rows cols cells r count p =
    let next : r + 1 ≤ rows = omega (arith, p) in
    let last : (r + 1) * cols ≤ rows * cols = mul-le-mul_right cols next in
    let n = length-take ((r + 1) * cols - r * cols) (drop (r * cols) cells) in
    let m = length-drop (r * cols) cells in
    omega (arith, n, m, count, last)

-- rows with the same cells at each column
line_like : (cols : ℕ) (f g : ℕ → Glyph) → ((c : ℕ) → c < cols → f c ≡ g c) → IsWholeLine cols f → IsWholeLine cols g
line_like cols f g e h =
    λ c p. record {
      wide = λ w. let t = (h c p).wide (ap is_wide (e c p) ∙ w) in (t.0, sym (e (c + 1) t.0) ∙ t.1 ∙ ap right_of (e c p));
      half = λ w.
          let t = (h c p).half (ap is_right_half (e c p) ∙ w) in
          (t.0, ap is_wide (sym (e (c - 1) (omega (arith, p)))) ∙ t.1);
    }

-- ---- rows joined

rest_long : (cols : ℕ) (line : List Glyph) (lines : List (List Glyph)) → EachIndex (line ∷ lines) (λ r. length (get_or (line ∷ lines) r []) ≡ cols)
    → EachIndex lines (λ r. length (get_or lines r []) ≡ cols)
rest_long cols line lines long k h = long (suc k) (omega (arith, h))

module _ (cols : ℕ) where
  joined_at : (lines : List (List Glyph)) (r c : ℕ) → EachIndex lines (λ k. length (get_or lines k []) ≡ cols) → r < length lines → c < cols
      → cell_at cols (cells_in_order lines) r c ≡ get_or (get_or lines r []) c blank
  joined_at [] r c long p q = absurd (omega (arith, p))
  joined_at (line ∷ lines) zero c long p q =
      let first : length line ≡ cols = long 0 (omega arith) in
      ap (λ k. get_or (line ++ cells_in_order lines) k blank) (omega arith) ∙ get_or_append_left line (cells_in_order lines) blank c (omega (arith, first, q))
  joined_at (line ∷ lines) (suc r) c long p q =
      let first : length line ≡ cols = long 0 (omega arith) in
      let there : cols ≤ suc r * cols + c = omega arith in
      let less : suc r * cols + c - cols ≡ r * cols + c = omega arith in
      get_or-append_right line (cells_in_order lines) cols (suc r * cols + c) blank first there
      ∙ ap (λ k. get_or (cells_in_order lines) k blank) less ∙ joined_at lines r c (rest_long cols line lines long) (omega (arith, p)) q

  length-joined : (lines : List (List Glyph)) → EachIndex lines (λ k. length (get_or lines k []) ≡ cols) → length (cells_in_order lines) ≡ length lines * cols
  length-joined [] long = omega arith
  length-joined (line ∷ lines) long =
      let first : length line ≡ cols = long 0 (omega arith) in
      omega (arith, length-append line (cells_in_order lines), first, length-joined lines (rest_long cols line lines long))

  joined_set : (lines : List (List Glyph)) (r : ℕ) (new : List Glyph) → EachIndex lines (λ k. length (get_or lines k []) ≡ cols) → r < length lines
      → cells_in_order (set lines r new) ≡ take (r * cols) (cells_in_order lines) ++ (new ++ drop ((r + 1) * cols) (cells_in_order lines))
  joined_set [] r new long p = absurd (omega (arith, p))
  joined_set (line ∷ lines) zero new long p =
      let first : length line ≡ cols = long 0 (omega arith) in
      let cells = line ++ cells_in_order lines in
      let none : 0 ≡ zero * cols = omega arith in
      let one : (zero + 1) * cols ≡ cols = omega arith in
      let rest : drop ((zero + 1) * cols) cells ≡ cells_in_order lines = ap (λ k. drop k cells) one ∙ drop_at line (cells_in_order lines) cols first in
      ap (λ t. new ++ t) (sym rest) ∙ ap (λ k. take k cells ++ (new ++ drop ((zero + 1) * cols) cells)) none
  joined_set (line ∷ lines) (suc r) new long p =
      let first : length line ≡ cols = long 0 (omega arith) in
      let cells = cells_in_order lines in
      let here : suc r * cols ≡ length line + r * cols = omega (arith, first) in
      let next : (suc r + 1) * cols ≡ cols + (r + 1) * cols = omega arith in
      let front : take (suc r * cols) (line ++ cells) ≡ line ++ take (r * cols) cells =
      ap (λ k. take k (line ++ cells)) here ∙ take-append-add line cells (r * cols) in
      let back : drop ((suc r + 1) * cols) (line ++ cells) ≡ drop ((r + 1) * cols) cells =
      ap (λ k. drop k (line ++ cells)) next ∙ sym (drop-drop ((r + 1) * cols) cols (line ++ cells))
      ∙ ap (drop ((r + 1) * cols)) (drop_at line cells cols first) in
      ap (λ t. line ++ t) (joined_set lines r new (rest_long cols line lines long) (omega (arith, p)))
      ∙ sym (append_assoc line (take (r * cols) cells) (new ++ drop ((r + 1) * cols) cells))
      ∙ (λ i. sym front i ++ (new ++ sym back i))

  -- a row of them
  pub joined_row : (rows : ℕ) (lines : List (List Glyph)) (r : ℕ) → AreLines rows cols lines → r < rows → row_of cols (cells_in_order lines) r ≡ get_or lines r []
  joined_row rows lines r are p =
      let p' : r < length lines = omega (arith, are.count, p) in
      let all : length (cells_in_order lines) ≡ rows * cols = length-joined lines are.long ∙ ap (λ n. n * cols) are.count in
      let long = length-row rows cols (cells_in_order lines) r all p in
      same_lists (row_of cols (cells_in_order lines) r) (get_or lines r []) (long ∙ sym (are.long r p')) (λ k d h.
      let q : k < cols = omega (arith, h, long) in
      get_or_default (row_of cols (cells_in_order lines) r) k d blank h ∙ row_at cols (cells_in_order lines) r k q ∙ joined_at lines r k are.long p' q
      ∙ get_or_default (get_or lines r []) k blank d (omega (arith, are.long r p', q)))

  pub joined_count : (rows : ℕ) (lines : List (List Glyph)) → AreLines rows cols lines → length (cells_in_order lines) ≡ rows * cols
  joined_count rows lines are = length-joined lines are.long ∙ ap (λ n. n * cols) are.count

  -- blank rows are a blank screen
  joined_replicate : (n : ℕ) → cells_in_order (replicate n (replicate cols blank)) ≡ replicate (n * cols) blank
  joined_replicate zero = let none : 0 ≡ zero * cols = omega arith in ap (λ k. replicate k blank) none
  joined_replicate (suc n) =
      let more : cols + n * cols ≡ suc n * cols = omega arith in
      ap (λ t. replicate cols blank ++ t) (joined_replicate n) ∙ replicate-append-replicate cols (n * cols) blank ∙ ap (λ k. replicate k blank) more

  pub blank_joined : (rows : ℕ) (lines : List (List Glyph)) → lines ≡ replicate rows (replicate cols blank) → cells_in_order lines ≡ replicate (rows * cols) blank
  blank_joined rows lines e = ap cells_in_order e ∙ joined_replicate rows

  pub blank_lines : (rows : ℕ) (lines : List (List Glyph)) → lines ≡ replicate rows (replicate cols blank) → AreLines rows cols lines
  blank_lines rows lines e =
      let count : length lines ≡ rows = ap length e ∙ length-replicate rows (replicate cols blank) in
      record {
        count = count;
        long = λ k h.
            ap (λ l. length (get_or l k [])) e
            ∙ ap length (get_or-replicate rows k (replicate cols blank) [] (omega (arith, count, h))) ∙ length-replicate cols blank;
      }

  -- ---- a property of each cell

  -- the cell of a place is in its row
  joined_place : (rows : ℕ) (lines : List (List Glyph)) (k : ℕ) → AreLines rows cols lines → k < rows * cols
      → (k / cols < rows) × (k % cols < cols) × (get_or (cells_in_order lines) k blank ≡ get_or (get_or lines (k / cols) []) (k % cols) blank)
  joined_place rows lines k are h =
      let p = place_of rows cols k h in
      (p.0, p.1, ap (λ j. get_or (cells_in_order lines) j blank) (sym p.2) ∙ joined_at lines (k / cols) (k % cols) are.long (omega (arith, are.count, p.0)) p.1)

  -- a place of a row is on the screen
  row_place : (rows : ℕ) (lines : List (List Glyph)) (r c : ℕ) → AreLines rows cols lines → r < rows → c < cols → r * cols + c < length (cells_in_order lines)
  row_place rows lines r c are p q = omega (arith, joined_count rows lines are, place_below rows cols r c p q)

-- a row of a screen: whole characters, none guarded, each what some cell shows
pub record IsLine (cols : ℕ) (line : List Glyph) : Type 0 where
  pub whole : IsWholeLine cols (glyph_at line)
  pub unguarded : (c : ℕ) → c < cols → (get_or line c blank).guarded ≡ false
  pub shown : (c : ℕ) → c < cols → IsShown (get_or line c blank)

line_is : (cols : ℕ) (line : List Glyph) → length line ≡ cols → IsWholeRow line → AreUnguarded line → AreShown line → IsLine cols line
line_is cols line long whole unguarded shown =
    record {
      whole = subst (λ (n : ℕ). IsWholeLine n (glyph_at line)) long whole;
      unguarded = λ c q. unguarded c (omega (arith, long, q));
      shown = λ c q. shown c (omega (arith, long, q));
    }

-- the rows of a screen
lines_are : (s : Screenshot) (lines : List (List Glyph)) → AreLines s.rows s.cols lines → s.cells ≡ cells_in_order lines → IsScreenshot s
    → (r : ℕ) → r < s.rows → IsLine s.cols (get_or lines r [])
lines_are s lines are e is r p =
    let at : (c : ℕ) → c < s.cols → cell_at s.cols s.cells r c ≡ glyph_at (get_or lines r []) c =
    λ c q. ap (λ (l : List Glyph). cell_at s.cols l r c) e ∙ joined_at s.cols lines r c are.long (omega (arith, are.count, p)) q in
    let there : (c : ℕ) → c < s.cols → r * s.cols + c < length s.cells =
    λ c q. omega (arith, row_place s.cols s.rows lines r c are p q, ap length e) in
    record {
      whole = line_like s.cols (cell_at s.cols s.cells r) (glyph_at (get_or lines r [])) at (is.whole r p);
      unguarded = λ c q. ap (λ (g : Glyph). g.guarded) (sym (at c q)) ∙ is.unguarded (r * s.cols + c) (there c q);
      shown = λ c q. subst IsShown (at c q) (is.shown (r * s.cols + c) (there c q));
    }

-- rows that make a screen
pub screen_is : (s : Screenshot) (lines : List (List Glyph)) → AreLines s.rows s.cols lines → IsScreenshot s
    → ((r : ℕ) → r < s.rows → IsLine s.cols (get_or lines r [])) → IsScreenshot (record s { cells = cells_in_order lines })
screen_is s lines are is each =
    let at : (r c : ℕ) → r < s.rows → c < s.cols → cell_at s.cols (cells_in_order lines) r c ≡ glyph_at (get_or lines r []) c =
    λ r c p q. joined_at s.cols lines r c are.long (omega (arith, are.count, p)) q in
    let count = joined_count s.cols s.rows lines are in
    record {
      size = is.size;
      count = count;
      cursor = is.cursor;
      whole = λ r p. line_like s.cols (glyph_at (get_or lines r [])) (cell_at s.cols (cells_in_order lines) r) (λ c q. sym (at r c p q)) (each r p).whole;
      unguarded = λ k h.
          let t = joined_place s.cols s.rows lines k are (omega (arith, count, h)) in
          ap (λ (g : Glyph). g.guarded) t.2 ∙ (each (k / s.cols) t.0).unguarded (k % s.cols) t.1;
      shown = λ k h.
          let t = joined_place s.cols s.rows lines k are (omega (arith, count, h)) in
          subst IsShown (sym t.2) ((each (k / s.cols) t.0).shown (k % s.cols) t.1);
    }

-- ---- one row changed

module _ (s : Screenshot) (lines : List (List Glyph)) (i : ℕ) (line : List Glyph) (are : AreLines s.rows s.cols lines) (p : i < s.rows) (long : length line ≡ s.cols) where
  pub set_lines : AreLines s.rows s.cols (set lines i line)
  set_lines =
      let there : i < length lines = omega (arith, are.count, p) in
      record {
        count = length-set lines i line ∙ are.count;
        long = λ k h.
            elim (cases_eq k i) [
              | inl e ↦ ap (λ j. length (get_or (set lines i line) j [])) e ∙ ap length (get_or-set_same lines i line [] there) ∙ long
              | inr d ↦ ap length (get_or-set_other lines i k line [] d) ∙ are.long k (omega (arith, length-set lines i line, h))
            ];
      }

  pub set_screen : s.cells ≡ cells_in_order lines → IsScreenshot s → IsWholeRow line → AreUnguarded line → AreShown line
      → IsScreenshot (record s { cells = cells_in_order (set lines i line) })
  set_screen e is whole unguarded shown =
      let there : i < length lines = omega (arith, are.count, p) in
      screen_is s (set lines i line) set_lines is (λ r q.
      elim (cases_eq r i) [
        | inl f ↦
            let here : get_or (set lines i line) r [] ≡ line = ap (λ j. get_or (set lines i line) j []) f ∙ get_or-set_same lines i line [] there in
            subst (λ (l : List Glyph). IsLine s.cols l) (sym here) (line_is s.cols line long whole unguarded shown)
        | inr d ↦ subst (λ (l : List Glyph). IsLine s.cols l) (sym (get_or-set_other lines i r line [] d)) (lines_are s lines are e is r q)
      ])

  pub set_is : s.cells ≡ cells_in_order lines → record s { cells = cells_in_order (set lines i line) } ≡ with_row i line s
  set_is e j =
      let there : i < length lines = omega (arith, are.count, p) in
      record s {
        cells = (joined_set s.cols lines i line are.long there
            ∙ ap (λ (l : List Glyph). take (i * s.cols) l ++ (line ++ drop ((i + 1) * s.cols) l)) (sym e)) j;
      }

  -- the row is the new one, and each other row stays
  pub set_row_here : row_of s.cols (cells_in_order (set lines i line)) i ≡ line
  set_row_here =
      joined_row s.cols s.rows (set lines i line) i set_lines p ∙ get_or-set_same lines i line [] (omega (arith, are.count, p))

  pub set_row_other : (r : ℕ) → r < s.rows → r ≢ i → row_of s.cols (cells_in_order (set lines i line)) r ≡ row_of s.cols (cells_in_order lines) r
  set_row_other r q d =
      joined_row s.cols s.rows (set lines i line) r set_lines q ∙ get_or-set_other lines i r line [] d
      ∙ sym (joined_row s.cols s.rows lines r are q)

-- ---- rows that are those of a screen

-- screens with the same rows
pub all_rows : (rows cols : ℕ) (xs ys : List Glyph) → length xs ≡ rows * cols → length ys ≡ rows * cols
    → ((r : ℕ) → r < rows → row_of cols xs r ≡ row_of cols ys r) → xs ≡ ys
all_rows rows cols xs ys m n each =
    ext_get_or blank xs ys (m ∙ sym n) (λ k h.
    let p = place_of rows cols k (omega (arith, h, m)) in
    let r = k / cols in
    let c = k % cols in
    ap (λ j. get_or xs j blank) (sym p.2) ∙ sym (row_at cols xs r c p.1) ∙ ap (λ (l : List Glyph). get_or l c blank) (each r p.0)
    ∙ row_at cols ys r c p.1 ∙ ap (λ j. get_or ys j blank) p.2)

module _ (rows cols : ℕ) (cells : List Glyph) (count : length cells ≡ rows * cols) (lines : List (List Glyph)) (as_many : length lines ≡ rows)
    (each : (r : ℕ) → r < rows → get_or lines r [] ≡ row_of cols cells r) where
  pub rows_lines : AreLines rows cols lines
  rows_lines =
      record {
        count = as_many;
        long = λ k h.
            let p : k < rows = omega (arith, as_many, h) in
            ap length (each k p) ∙ length-row rows cols cells k count p;
      }

  pub rows_joined : cells_in_order lines ≡ cells
  rows_joined =
      all_rows rows cols (cells_in_order lines) cells (joined_count cols rows lines rows_lines) count
      (λ r p. joined_row cols rows lines r rows_lines p ∙ each r p)

-- one row more
pub row_pushed : (cols : ℕ) (cells : List Glyph) (lines : List (List Glyph)) (row : ℕ) (line : List Glyph) → length lines ≡ row
    → ((r : ℕ) → r < row → get_or lines r [] ≡ row_of cols cells r) → line ≡ row_of cols cells row → (r : ℕ) → r < row + 1
    → get_or (lines ++ line ∷ []) r [] ≡ row_of cols cells r
row_pushed cols cells lines row line count each is r p =
    elim (cases_eq r row) [
      | inl e ↦ ap (λ k. get_or (lines ++ line ∷ []) k []) e ∙ get_or_push lines line [] row count ∙ is ∙ ap (row_of cols cells) (sym e)
      | inr d ↦
          let q : r < row = omega (arith, p, d) in
          get_or_append_left lines (line ∷ []) [] r (omega (arith, count, q)) ∙ each r q
    ]
