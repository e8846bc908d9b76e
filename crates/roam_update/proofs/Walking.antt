-- A walk over the places of two screens, row by row.
use Rattle.std.proofs.Common.{◌≡◌, ℕ, ◌+◌, ◌-◌, ◌*◌, ◌/◌, ◌%◌, ◌<◌, ◌≤◌, List, inl, inr, ap, subst, ◌∙◌, arith}
use Rattle.std.proofs.lemmas.Bool.{cases_lt}
use Rattle.std.proofs.Math.Nat.{mul-le-mul_right, mod-add-div'}
use Rattle.std.proofs.lemmas.Nat.{mod_below}
use Rattle.roam_cells.specs.Glyph.{Glyph}
use Rattle.roam_cells.specs.Place.{glyph_at, row_of}
use Rattle.roam_update.proofs.Sizing.{row_cell}

-- a place as a row and a column
module _ (from rows cols : ℕ) (some : 0 < cols) where
  pub place_is : from / cols * cols + from % cols ≡ from
  place_is = let all = mod-add-div' from cols in omega (arith, all)

  pub col_below : from % cols < cols
  col_below = mod_below from cols some

  pub row_within : from ≤ rows * cols → from / cols ≤ rows
  row_within h =
      elim (cases_lt rows (from / cols)) [
        | inl p ↦
            let up : (rows + 1) * cols ≤ from / cols * cols = mul-le-mul_right cols (omega (arith, p)) in
            absurd (omega (arith, up, place_is, h, some))
        | inr p ↦ p
      ]

-- the places of the rows below one are places of the screen
pub row_end : (row rows cols : ℕ) → row < rows → row * cols + cols ≤ rows * cols
row_end row rows cols p =
    let up : (row + 1) * cols ≤ rows * cols = mul-le-mul_right cols (omega (arith, p)) in
    omega (arith, up)

-- a property of both screens along a row, from a column on
module _ (P : Glyph → Glyph → Type 0) (cols row : ℕ) (base cells above below : List Glyph)
    (above_is : above ≡ row_of cols base row) (below_is : below ≡ row_of cols cells row) where
  there : (c : ℕ) → c < cols → P (glyph_at above c) (glyph_at below c) → P (glyph_at base (row * cols + c)) (glyph_at cells (row * cols + c))
  there c p h =
      let one : glyph_at above c ≡ glyph_at base (row * cols + c) =
      ap (λ (l : List Glyph). glyph_at l c) above_is ∙ row_cell cols row c base p in
      let two : glyph_at below c ≡ glyph_at cells (row * cols + c) =
      ap (λ (l : List Glyph). glyph_at l c) below_is ∙ row_cell cols row c cells p in
      subst (λ (g : Glyph). P g (glyph_at cells (row * cols + c))) one (subst (λ (g : Glyph). P (glyph_at above c) g) two h)

  pub along : (from col found : ℕ) → found ≤ cols
      → ((k : ℕ) → from ≤ k → k < row * cols + col → P (glyph_at base k) (glyph_at cells k))
      → ((c : ℕ) → col ≤ c → c < found → P (glyph_at above c) (glyph_at below c))
      → (k : ℕ) → from ≤ k → k < row * cols + found → P (glyph_at base k) (glyph_at cells k)
  along from col found room front more k p q =
      elim (cases_lt k (row * cols + col)) [
        | inl h ↦ front k p h
        | inr h ↦
            let c = k - row * cols in
            let e : row * cols + c ≡ k = omega (arith, h) in
            subst (λ (j : ℕ). P (glyph_at base j) (glyph_at cells j)) e (there c (omega (arith, q, room, h)) (more c (omega (arith, h)) (omega (arith, q, h))))
      ]

  pub at_found : (found : ℕ) → found < cols → P (glyph_at above found) (glyph_at below found)
      → P (glyph_at base (row * cols + found)) (glyph_at cells (row * cols + found))
  at_found = there
