-- The buffer, from the cells in order and the first row.
use Rattle.std.proofs.Common.{◌≡◌, ℕ, ◌+◌, ◌-◌, ◌*◌, ◌<◌, ◌≤◌, inl, inr, List, take, drop, ◌++◌, length, get_or, replicate, min, sym, ap, ◌∙◌, arith, length-append, length-take, length-drop}
use Rattle.std.specs.Prelude.{slice_range}
use Rattle.std.proofs.lemmas.Bool.{cases_lt}
use Rattle.std.proofs.lemmas.List.{take-append-drop, take_at, drop_at, same_lists, get_or_default, get_or_append_left, get_or-append_right, get_or-replicate, length-replicate, get_or-take, get_or-drop}
use Rattle.std.proofs.lemmas.List.Edits.{length-between, get_or-between}
use Rattle.std.proofs.lemmas.Grind.{common_steps}
use Rattle.roam_cells.specs.Glyph.{Glyph, blank}
use Rattle.roam_cells.specs.Place.{cell_at}
use Rattle.roam_cells.proofs.Places.{get_or-table, length-table, row_from}
use Rattle.roam_rows.specs.Places.{From, mapped_cells, moved_at}
use Rattle.roam_rows.specs.Turned.{IsTurned, in_order, brought_back}
use Rattle.roam_rows.specs.Rows.{Rows, AreRows, KeepPlaces}
use Rattle.roam_rows.specs.Scrolling.{up, down, all_up, all_down, turned_up, turned_down}
use Rattle.roam_rows.specs.Kept.{AreLengths}
use Rattle.roam_rows.proofs.Turning.{turned_at, row_turned, length-in_order}
use Rattle.roam_rows.proofs.Vertical.{up_moves, down_moves, row_stays, next_in}
use Rattle.roam_rows.proofs.Written.{past_length}

-- rows that are turned on and back
pub turned_back : (rows cols a : ℕ) (xs : List Glyph) → length xs ≡ rows * cols → a ≤ rows → in_order cols (rows - a) (in_order cols a xs) ≡ xs
turned_back rows cols a xs size few =
    let f = a * cols in
    let split : rows ≡ (rows - a) + a = omega arith in
    let k_is : length (drop f xs) ≡ (rows - a) * cols = length-drop f xs ∙ omega (arith, size, ap (λ j. j * cols) split) in
    ap (λ l. l ++ take ((rows - a) * cols) (drop f xs ++ take f xs)) (drop_at (drop f xs) (take f xs) ((rows - a) * cols) k_is)
    ∙ ap (λ l. take f xs ++ l) (take_at (drop f xs) (take f xs) ((rows - a) * cols) k_is) ∙ take-append-drop f xs

pub in_order_of : (rows cols first : ℕ) (cells : List Glyph) → length cells ≡ rows * cols → first < rows → in_order cols first (in_order cols (rows - first) cells) ≡ cells
in_order_of rows cols first cells size first_in =
    let back : rows - (rows - first) ≡ first = omega arith in
    sym (ap (λ j. in_order cols j (in_order cols (rows - first) cells)) back) ∙ turned_back rows cols (rows - first) cells size (omega arith)

buffer_at : (rows cols first : ℕ) (cells : List Glyph) (r c : ℕ) → length cells ≡ rows * cols → first < rows → r < rows → c < cols
    → cell_at cols (in_order cols (rows - first) cells) (brought_back rows (first + r)) c ≡ cell_at cols cells r c
buffer_at rows cols first cells r c size first_in p q =
    sym (turned_at rows cols first (in_order cols (rows - first) cells) r c (length-in_order cols (rows - first) cells ∙ size) first_in p q)
    ∙ ap (λ l. cell_at cols l r c) (in_order_of rows cols first cells size first_in)

on_index : (rows first n r : ℕ) → first < rows → n ≤ r → r < rows → brought_back rows (turned_up rows n first + (r - n)) ≡ brought_back rows (first + r)
on_index rows first n r p q h = grind (arith, common_steps)

turned_in : (rows first n : ℕ) → first < rows → turned_up rows n first < rows
turned_in rows first n p = next_in rows first (min n rows) p (omega arith)

pub kept_by_all_up : (n : ℕ) (v : Rows) → AreRows v → KeepPlaces n v.rows v (all_up n v)
kept_by_all_up n v h r c low r_in' r_in q =
    let source = up 0 (v.rows - 1) n in
    let cells = mapped_cells v.rows v.cols v.cells source in
    let next = turned_up v.rows n v.first in
    let moves : (d : ℕ) → source (r - n) d ≡ From r d = λ d. up_moves 0 (v.rows - 1) n (r - n) d (omega arith) (omega arith) ∙ ap (λ j. From j d) (omega arith) in
    let size : length cells ≡ v.rows * v.cols = length-table v.rows v.cols (moved_at v.cols v.cells source) in
    sym (ap (λ j. cell_at v.cols (in_order v.cols (v.rows - next) cells) j c) (on_index v.rows v.first n r h.first_in low r_in))
    ∙ buffer_at v.rows v.cols next cells (r - n) c size (turned_in v.rows v.first n h.first_in) (omega arith) q
    ∙ get_or-table v.rows v.cols (moved_at v.cols v.cells source) (r - n) c blank (omega arith) q
    ∙ row_stays v.rows v.cols v.cells h.whole source (r - n) c r r_in q moves
    ∙ sym (buffer_at v.rows v.cols v.first v.cells r c h.size h.first_in r_in q)

on_index_down : (rows first n r : ℕ) → first < rows → r + n < rows → brought_back rows (turned_down rows n first + (r + n)) ≡ brought_back rows (first + r)
on_index_down rows first n r p q = grind (arith, common_steps)

pub kept_by_all_down : (n : ℕ) (v : Rows) → AreRows v → KeepPlaces 0 (v.rows - n) v (all_down n v)
kept_by_all_down n v h r c low stays r_in q =
    let source = down 0 (v.rows - 1) n in
    let cells = mapped_cells v.rows v.cols v.cells source in
    let next = turned_down v.rows n v.first in
    let moves : (d : ℕ) → source (r + n) d ≡ From r d = λ d. down_moves 0 (v.rows - 1) n (r + n) d (omega arith) (omega arith) ∙ ap (λ j. From j d) (omega arith) in
    let size : length cells ≡ v.rows * v.cols = length-table v.rows v.cols (moved_at v.cols v.cells source) in
    let next_in' : next < v.rows = next_in v.rows v.first (v.rows - min n v.rows) h.first_in (omega arith) in
    sym (ap (λ j. cell_at v.cols (in_order v.cols (v.rows - next) cells) j c) (on_index_down v.rows v.first n r h.first_in (omega arith)))
    ∙ buffer_at v.rows v.cols next cells (r + n) c size next_in' (omega arith) q
    ∙ get_or-table v.rows v.cols (moved_at v.cols v.cells source) (r + n) c blank (omega arith) q
    ∙ row_stays v.rows v.cols v.cells h.whole source (r + n) c r r_in q moves
    ∙ sym (buffer_at v.rows v.cols v.first v.cells r c h.size h.first_in r_in q)

-- the slice of one row of the buffer
pub slice_is_row : (rows cols first R at a m : ℕ) (buffer : List Glyph) → IsTurned rows cols first buffer → R < rows → at ≡ brought_back rows (first + R) → a ≡ at * cols → m ≡ cols
    → take m (drop a buffer) ≡ slice_range (in_order cols first buffer) (R * cols) ((R + 1) * cols)
slice_is_row rows cols first R at a m buffer turned R_in at_is a_is m_is =
    let size : m ≡ (at + 1) * cols - at * cols = omega arith in
    ap (λ n. take n (drop a buffer)) size ∙ ap (λ j. take ((at + 1) * cols - at * cols) (drop j buffer)) a_is
    ∙ row_turned rows cols first R at buffer turned.size turned.first_in R_in at_is

-- a row is its columns in use, and blank ones
pub front_of_row : (rows cols first i at a u : ℕ) (buffer : List Glyph) (lengths : List ℕ) → IsTurned rows cols first buffer → AreLengths rows cols buffer lengths → i < rows → at ≡ brought_back rows (first + i) → at < rows
    → a ≡ at * cols → u ≡ get_or lengths at 0 → slice_range (in_order cols first buffer) (i * cols) ((i + 1) * cols) ≡ take u (drop a buffer) ++ replicate (cols - u) blank
front_of_row rows cols first i at a u buffer lengths turned kept i_in at_is at_in a_is u_is =
    let room : a + cols ≤ length buffer = omega (arith, turned.size, a_is, row_from cols (at + 1) rows 0 (omega arith)) in
    let few : u ≤ cols = omega (arith, u_is, kept.low at at_in) in
    let row = slice_range buffer (at * cols) ((at + 1) * cols) in
    let front : length (take u (drop a buffer)) ≡ u = simp (length-take, length-drop) (omega arith) in
    let one : length row ≡ (at + 1) * cols - at * cols = length-between buffer (at * cols) ((at + 1) * cols) (omega (arith, a_is, room)) in
    let two : length (take u (drop a buffer) ++ replicate (cols - u) blank) ≡ cols =
    length-append (take u (drop a buffer)) (replicate (cols - u) blank) ∙ omega (arith, front, few, length-replicate (cols - u) blank) in
    sym (row_turned rows cols first i at buffer turned.size turned.first_in i_in at_is)
    ∙ same_lists row (take u (drop a buffer) ++ replicate (cols - u) blank) (omega (arith, one, two)) (λ k d h.
    let k_in : k < cols = omega (arith, one) in
    get_or-between buffer (at * cols) ((at + 1) * cols) k d (omega arith) ∙ ap (λ j. get_or buffer (j + k) d) (sym a_is)
    ∙ elim (cases_lt k u) [
      | inl low ↦
          sym (get_or_append_left (take u (drop a buffer)) (replicate (cols - u) blank) d k (omega (arith, front)) ∙ get_or-take u (drop a buffer) k d low ∙ get_or-drop a buffer k d)
      | inr high ↦
          get_or_default buffer (a + k) d blank (omega (arith, room)) ∙ past_length rows cols at a k buffer lengths kept at_in a_is (omega (arith, u_is)) k_in
          ∙ sym (get_or-append_right (take u (drop a buffer)) (replicate (cols - u) blank) u k d front high ∙ get_or-replicate (cols - u) (k - u) blank d (omega (arith, few)))
    ])

pub length-front : (rows cols first at a u : ℕ) (buffer : List Glyph) (lengths : List ℕ) → IsTurned rows cols first buffer → AreLengths rows cols buffer lengths → at < rows → a ≡ at * cols → u ≡ get_or lengths at 0
    → length (take u (drop a buffer)) ≡ u
length-front rows cols first at a u buffer lengths turned kept at_in a_is u_is =
    let room : a + cols ≤ length buffer = omega (arith, turned.size, a_is, row_from cols (at + 1) rows 0 (omega arith)) in
    simp (length-take, length-drop) (omega (arith, u_is, kept.low at at_in))
