-- Screens brought to a size.
use Rattle.std.proofs.Common.{◌≡◌, ℕ, suc, ◌+◌, ◌-◌, ◌*◌, ◌<◌, ◌≤◌, Bool, true, false, cond, eqb, ltb, ◌&&◌, List, [], ◌∷◌, ◌++◌, map, length, get_or, drop, refl, sym, ap, ◌∙◌, arith, inl, inr}
use Rattle.std.specs.List.{range_with_len}
use Rattle.std.proofs.Math.Nat.{mul-le-mul_right}
use Rattle.std.proofs.lemmas.List.{append-nil, append_assoc, ext_get_or, get_or-drop, get_or-take, length-drop, length-take-le}
use Rattle.std.proofs.lemmas.List.FromFn.{map-range_with_len_more}
use Rattle.std.proofs.lemmas.Bool.{cases_Bool, lt-ltb, eqb-true}
use Rattle.roam_cells.specs.Glyph.{Glyph, is_wide, space_in, blank}
use Rattle.roam_cells.specs.Place.{cell_at, table, row_of}
use Rattle.roam_screens.specs.Screenshot.{Screenshot, IsScreenshot}
use Rattle.roam_cells.proofs.Places.{length-table, get_or-table, table_is}
use Rattle.roam_update.specs.Sizes.{sized_cells, sized_at}

pub area : (rows cols : ℕ) → rows ≤ 200 → cols ≤ 500 → rows * cols ≤ 100000
area rows cols p q = let a = mul-le-mul_right cols p in omega (arith, a)

pub length_sized : (rows cols : ℕ) (s : Screenshot) → length (sized_cells rows cols s) ≡ rows * cols
length_sized rows cols s = length-table rows cols (sized_at cols s)

pub table_none : (cols : ℕ) (f : ℕ → ℕ → Glyph) → table 0 cols f ≡ []
unfolding table
table_none cols f = refl

pub table_more : (rows cols : ℕ) (f : ℕ → ℕ → Glyph) → table (rows + 1) cols f ≡ table rows cols f ++ map (f rows) (range_with_len 0 cols)
unfolding table
table_more rows cols f = let one : rows + 1 ≡ suc rows = omega arith in ap (λ (k : ℕ). table k cols f) one

-- a place whose column the screen had, without the last column if that was wide
pub kept_at : (cols : ℕ) (s : Screenshot) (r c : ℕ) → r < s.rows → c < s.cols → ((c + 1 ≡ cols) → is_wide (cell_at s.cols s.cells r c) ≡ false)
    → sized_at cols s r c ≡ cell_at s.cols s.cells r c
kept_at cols s r c p q last =
    let cell = cell_at s.cols s.cells r c in
    let cut : (eqb (c + 1) cols && is_wide cell) ≡ false =
    elim (cases_Bool (eqb (c + 1) cols)) [
      | inl e ↦ rw e (last (eqb-true (c + 1) cols e))
      | inr e ↦ rw e refl
    ] in
    ap (λ (x : Bool). cond (x && ltb c s.cols) (cond (eqb (c + 1) cols && is_wide cell) (space_in cell) cell) blank) (lt-ltb r s.rows p)
    ∙ ap (λ (x : Bool). cond x (cond (eqb (c + 1) cols && is_wide cell) (space_in cell) cell) blank) (lt-ltb c s.cols q)
    ∙ ap (λ (x : Bool). cond x (space_in cell) cell) cut

not_wide : (b : Bool) → ¬ (b ≡ true) → b ≡ false
not_wide true h = absurd (h refl)
not_wide false h = refl

-- if the width stays, a row that stays is the old row: each of its places takes its old cell
pub same_width : (s : Screenshot) (r c : ℕ) → IsScreenshot s → r < s.rows → c < s.cols → sized_at s.cols s r c ≡ cell_at s.cols s.cells r c
same_width s r c h p q =
    kept_at s.cols s r c p q (λ e. not_wide (is_wide (cell_at s.cols s.cells r c)) (λ w. let k = ((h.whole r p c q).wide w).0 in omega (arith, e, k)))

-- a screen brought to its own size has its own cells
pub sized_same : (s : Screenshot) → IsScreenshot s → sized_cells s.rows s.cols s ≡ s.cells
sized_same s h = sym (table_is s.rows s.cols (sized_at s.cols s) s.cells h.count (λ r c p q. sym (same_width s r c h p q)))

pub sized_at_same : (rows cols : ℕ) (s : Screenshot) → IsScreenshot s → s.rows ≡ rows → s.cols ≡ cols → s.cells ≡ sized_cells rows cols s
sized_at_same rows cols s h p q =
    sym (sized_same s h) ∙ ap (λ (n : ℕ). sized_cells n s.cols s) p ∙ ap (λ (n : ℕ). sized_cells rows n s) q

pub row_none : (t : List Glyph) (f : ℕ → Glyph) → t ≡ t ++ map f (range_with_len 0 0)
row_none t f = sym (append-nil t)

pub row_more : (t : List Glyph) (f : ℕ → Glyph) (n : ℕ) → (t ++ map f (range_with_len 0 n)) ++ f n ∷ [] ≡ t ++ map f (range_with_len 0 (n + 1))
row_more t f n =
    append_assoc t (map f (range_with_len 0 n)) (f n ∷ [])
    ∙ ap (λ (x : List Glyph). t ++ x) (sym (map-range_with_len_more f 0 n n (omega arith)))

pub same_count : (base s : Screenshot) → IsScreenshot base → IsScreenshot s → base.rows ≡ s.rows → base.cols ≡ s.cols → length base.cells ≡ length s.cells
same_count base s g h p q = g.count ∙ ap (λ (n : ℕ). n * base.cols) p ∙ ap (λ (n : ℕ). s.rows * n) q ∙ sym h.count

pub few_cells : (s : Screenshot) → IsScreenshot s → length s.cells ≤ 100000
few_cells s h = let n = area s.rows s.cols h.size.most_rows h.size.most_columns in omega (arith, h.count, n)

pub places_are : (s : Screenshot) (rows cols : ℕ) → IsScreenshot s → rows ≡ s.rows → cols ≡ s.cols → rows * cols ≡ length s.cells
places_are s rows cols is p q = (λ i. p i * q i) ∙ sym is.count

-- ---- one row

pub length-row_of : (rows cols r : ℕ) (cells : List Glyph) → length cells ≡ rows * cols → r < rows → length (row_of cols cells r) ≡ cols
length-row_of rows cols r cells e p =
    let whole : (r + 1) * cols ≤ rows * cols = mul-le-mul_right cols (omega (arith, p)) in
    let wide : (r + 1) * cols - r * cols ≡ cols = omega arith in
    length-take-le ((r + 1) * cols - r * cols) (drop (r * cols) cells) (omega (arith, length-drop (r * cols) cells, whole, e)) ∙ wide

pub row_cell : (cols r c : ℕ) (cells : List Glyph) → c < cols → get_or (row_of cols cells r) c blank ≡ cell_at cols cells r c
row_cell cols r c cells p =
    let wide : (r + 1) * cols - r * cols ≡ cols = omega arith in
    get_or-take ((r + 1) * cols - r * cols) (drop (r * cols) cells) c blank (omega (arith, p, wide)) ∙ get_or-drop (r * cols) cells c blank

-- if the width stays, a row below both numbers of rows is the old row itself
pub row_stays : (rows r : ℕ) (s : Screenshot) → IsScreenshot s → r < rows → r < s.rows → row_of s.cols (sized_cells rows s.cols s) r ≡ row_of s.cols s.cells r
row_stays rows r s h p q =
    let new = sized_cells rows s.cols s in
    let one = length-row_of rows s.cols r new (length_sized rows s.cols s) p in
    let two = length-row_of s.rows s.cols r s.cells h.count q in
    ext_get_or blank (row_of s.cols new r) (row_of s.cols s.cells r) (one ∙ sym two) (λ c a.
    let b : c < s.cols = omega (arith, a, one) in
    row_cell s.cols r c new b ∙ get_or-table rows s.cols (sized_at s.cols s) r c blank p b
    ∙ same_width s r c h q b ∙ sym (row_cell s.cols r c s.cells b))
