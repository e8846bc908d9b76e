-- The written lengths of rows, if one row of the buffer is overwritten.
use Rattle.std.proofs.Common.{◌≡◌, ◌≢◌, ℕ, ◌+◌, ◌*◌, ◌<◌, ◌≤◌, inl, inr, List, length, get_or, set, sym, ap, ◌∙◌, arith, length-set, get_or-set_same, get_or-set_other}
use Rattle.std.proofs.lemmas.Bool.{cases_eq}
use Rattle.std.proofs.lemmas.List.{get_or_default, same_lists}
use Rattle.roam_cells.specs.Glyph.{Glyph, blank}
use Rattle.roam_cells.specs.Place.{cell_at}
use Rattle.roam_rows.specs.Turned.{IsTurned, in_order, brought_back}
use Rattle.roam_rows.specs.Kept.{AreLengths}
use Rattle.roam_rows.proofs.Turning.{turned_at, others_stay, rows_apart}

-- one row of the buffer is written over
module _ (rows cols first R at a : ℕ) (old new : List Glyph) (lengths : List ℕ) (turned : IsTurned rows cols first old) (kept : AreLengths rows cols old lengths) (R_in : R < rows)
    (at_is : at ≡ brought_back rows (first + R)) (at_in : at < rows) (a_is : a ≡ at * cols) (len : length new ≡ length old)
    (before : (k : ℕ) → k < a → get_or new k blank ≡ get_or old k blank) (after : (k : ℕ) → a + cols ≤ k → get_or new k blank ≡ get_or old k blank) where
  pub row_here : (c : ℕ) → c < cols → cell_at cols (in_order cols first new) R c ≡ get_or new (a + c) blank
  row_here c q =
      turned_at rows cols first new R c (len ∙ turned.size) turned.first_in R_in q ∙ ap (λ j. cell_at cols new j c) (sym at_is) ∙ ap (λ j. get_or new (j + c) blank) (sym a_is)

  pub rest_same : (r c : ℕ) → r < rows → c < cols → r ≢ R → cell_at cols (in_order cols first new) r c ≡ cell_at cols (in_order cols first old) r c
  rest_same =
      others_stay rows cols first R old new turned.size (len ∙ turned.size) turned.first_in R_in
      (λ k h. let e : at * cols ≡ brought_back rows (first + R) * cols = ap (λ j. j * cols) at_is in before k (omega arith))
      (λ k h. let e : at * cols ≡ brought_back rows (first + R) * cols = ap (λ j. j * cols) at_is in after k (omega arith))

  -- the columns of that row from one on are blank
  pub still_lengths : (w : ℕ) → w ≤ cols → ((c : ℕ) → w ≤ c → c < cols → get_or new (a + c) blank ≡ blank) → AreLengths rows cols new (set lengths at w)
  still_lengths w w_in rest =
      let here : get_or (set lengths at w) at 0 ≡ w = get_or-set_same lengths at w 0 (omega (arith, kept.count)) in
      let other : (r : ℕ) → r ≢ at → get_or (set lengths at w) r 0 ≡ get_or lengths r 0 = λ r ne. get_or-set_other lengths at r w 0 ne in
      record {
        count = length-set lengths at w ∙ kept.count;
        low = λ r p. elim (cases_eq r at) [
          | inl e ↦ omega (arith, here, ap (λ j. get_or (set lengths at w) j 0) e)
          | inr ne ↦ omega (arith, other r ne, kept.low r p)
        ];
        rest = λ r c p u q. elim (cases_eq r at) [
          | inl e ↦
              ap (λ j. cell_at cols new j c) e ∙ ap (λ j. get_or new (j + c) blank) (sym a_is)
              ∙ rest c (omega (arith, here, ap (λ j. get_or (set lengths at w) j 0) e)) q
          | inr ne ↦
              elim (rows_apart cols r at c q ne) [
                | inl low ↦ before (r * cols + c) (omega arith)
                | inr high ↦ after (r * cols + c) (omega arith)
              ]
              ∙ kept.rest r c p (omega (arith, other r ne)) q
        ];
      }

-- the cells past the columns in use
pub past_length : (rows cols at a c : ℕ) (buffer : List Glyph) (lengths : List ℕ) → AreLengths rows cols buffer lengths → at < rows → a ≡ at * cols → get_or lengths at 0 ≤ c → c < cols
    → get_or buffer (a + c) blank ≡ blank
past_length rows cols at a c buffer lengths kept at_in a_is p q = ap (λ j. get_or buffer (j + c) blank) a_is ∙ kept.rest at c at_in p q

-- a number that was read from the list
pub read_length : (lengths : List ℕ) (at n : ℕ) → at < length lengths → n ≡ get_or lengths at n → n ≡ get_or lengths at 0
read_length lengths at n h e = e ∙ get_or_default lengths at n 0 h

-- setting an element to itself changes nothing
pub set_back : (lengths : List ℕ) (at : ℕ) → at < length lengths → set lengths at (get_or lengths at 0) ≡ lengths
set_back lengths at h =
    same_lists (set lengths at (get_or lengths at 0)) lengths (length-set lengths at (get_or lengths at 0)) (λ k d p.
    elim (cases_eq k at) [
      | inl e ↦
          ap (λ j. get_or (set lengths at (get_or lengths at 0)) j d) e ∙ get_or-set_same lengths at (get_or lengths at 0) d h ∙ get_or_default lengths at 0 d h ∙ ap (λ j. get_or lengths j d) (sym e)
      | inr ne ↦ get_or-set_other lengths at k (get_or lengths at 0) d ne
    ])
