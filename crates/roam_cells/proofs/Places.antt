-- Lists as screens: the element at each place of a table, and the condition for a list to be one.
use Rattle.std.proofs.Common.{◌≡◌, ℕ, zero, suc, ◌+◌, ◌-◌, ◌*◌, ◌/◌, ◌%◌, ◌<◌, ◌≤◌, List, inl, inr, map, length, get_or, replicate, sym, ap, ◌∙◌, arith, length-append}
use Rattle.std.specs.List.{range_with_len}
use Rattle.std.proofs.lemmas.List.{places, same_lists, get_or_append_left, get_or_default, get_or-append_right}
use Rattle.std.proofs.lemmas.List.FromFn.{length-map-range_with_len, get_or-map-range_with_len}
use Rattle.std.proofs.lemmas.Nat.{mul-add-lt, row_below_turned, mod_below}
use Rattle.std.proofs.lemmas.Bool.{cases_lt}
use Rattle.std.proofs.Math.Nat.{mul-le-mul_right}
use borrow.Rule.Slice.PartMut.{put_mid}
use Rattle.roam_cells.specs.Glyph.{Glyph, blank}
use Rattle.roam_cells.specs.Place.{cell_at, table}

pub length-table : (rows cols : ℕ) (f : ℕ → ℕ → Glyph) → length (table rows cols f) ≡ rows * cols
unfolding table
length-table zero cols f = omega arith
length-table (suc rows) cols f =
    omega (arith, length-append (table rows cols f) (map (f rows) (range_with_len 0 cols)), length-table rows cols f, length-map-range_with_len (f rows) 0 cols)

-- the place of a row and a column is on the screen
pub place_below : (rows cols r c : ℕ) → r < rows → c < cols → r * cols + c < rows * cols
place_below rows cols r c p q = let h = mul-add-lt r cols c rows p q in omega (arith, h)

pub get_or-table : (rows cols : ℕ) (f : ℕ → ℕ → Glyph) (r c : ℕ) (d : Glyph) → r < rows → c < cols → get_or (table rows cols f) (r * cols + c) d ≡ f r c
unfolding table
get_or-table zero cols f r c d p q = absurd (omega arith)
get_or-table (suc rows) cols f r c d p q =
    let above = table rows cols f in
    let row = map (f rows) (range_with_len 0 cols) in
    elim (cases_lt r rows) [
      | inl h ↦
          let k : r * cols + c < length above = omega (arith, place_below rows cols r c h q, length-table rows cols f) in
          get_or_append_left above row d (r * cols + c) k ∙ get_or-table rows cols f r c d h q
      | inr h ↦
          let e : r ≡ rows = omega arith in
          let l : rows * cols ≤ r * cols + c = rw e (omega arith) in
          let i : 0 + (r * cols + c - rows * cols) ≡ c = rw e (omega arith) in
          let j : r * cols + c - rows * cols < cols = omega (arith, i) in
          get_or-append_right above row (rows * cols) (r * cols + c) d (length-table rows cols f) l
          ∙ get_or-map-range_with_len (f rows) 0 cols (r * cols + c - rows * cols) c d j i ∙ ap (λ k. f k c) (sym e)
    ]

-- an index of the screen is a row and a column
pub place_of : (rows cols k : ℕ) → k < rows * cols → (k / cols < rows) × (k % cols < cols) × (k / cols * cols + k % cols ≡ k)
place_of rows zero k h = absurd (omega arith)
place_of rows (suc n) k h =
    ((row_below_turned k (suc n) rows (suc n) h (omega arith)).1, mod_below k (suc n) (omega arith), omega arith)

-- a list that has at each place what f says is f's table
pub table_is : (rows cols : ℕ) (f : ℕ → ℕ → Glyph) (xs : List Glyph) → length xs ≡ rows * cols
    → ((r c : ℕ) → r < rows → c < cols → cell_at cols xs r c ≡ f r c) → xs ≡ table rows cols f
table_is rows cols f xs len each =
    same_lists xs (table rows cols f) (len ∙ sym (length-table rows cols f)) (λ k d h.
    let p = place_of rows cols k (omega (arith, len)) in
    let r = k / cols in
    let c = k % cols in
    get_or_default xs k d blank h ∙ ap (λ j. get_or xs j blank) (sym p.2) ∙ each r c p.0 p.1
    ∙ sym (get_or-table rows cols f r c d p.0 p.1) ∙ ap (λ j. get_or (table rows cols f) j d) p.2)

-- a row from another on begins past it
pub row_from : (cols t r c : ℕ) → t ≤ r → t * cols ≤ r * cols + c
row_from cols t r c h = let m = mul-le-mul_right cols h in omega (arith, m)

-- a part that is filled with one cell: before, in and after it
module _ (a m : ℕ) (xs : List Glyph) (y : Glyph) (k : ℕ) where
  pub filled_before : a ≤ length xs → k < a → get_or (put_mid a m xs (replicate m y)) k blank ≡ get_or xs k blank
  filled_before h p = grind (arith, places)

  pub filled_in : a + m ≤ length xs → a ≤ k → k < a + m → get_or (put_mid a m xs (replicate m y)) k blank ≡ y
  filled_in h p q = grind (arith, places)

  pub filled_after : a + m ≤ length xs → a + m ≤ k → get_or (put_mid a m xs (replicate m y)) k blank ≡ get_or xs k blank
  filled_after h p = grind (arith, places)

pub length-filled : (a m : ℕ) (xs : List Glyph) (y : Glyph) → a + m ≤ length xs → length (put_mid a m xs (replicate m y)) ≡ length xs
length-filled a m xs y h = grind (arith, places)
