-- A character that joins a cell.
use Rattle.std.proofs.Common.{◌≡◌, ◌≢◌, ℕ, ◌+◌, ◌-◌, ◌*◌, ◌<◌, max, inl, inr, true, false, List, set, length, get_or, refl, sym, ap, ◌∙◌, arith, length-set, get_or-set_same, get_or-set_other}
use Rattle.std.proofs.lemmas.Bool.{false≢true, cases_eq}
use Rattle.std.proofs.lemmas.Nat.{same_from_place}
use Rattle.roam_cells.specs.Glyph.{Glyph, is_wide, is_right_half, right_of, blank}
use Rattle.roam_cells.specs.Place.{cell_at, AreWhole}
use Rattle.roam_cells.proofs.Places.{table_is, place_below}
use Rattle.roam_rows.specs.Turned.{IsTurned, in_order, brought_back}
use Rattle.roam_rows.specs.Kept.{AreLengths}
use Rattle.roam_rows.proofs.Written.{past_length, still_lengths}
use Rattle.roam_rows.proofs.Turning.{turned_at, length-in_order, back_apart, back_below}

-- one cell is replaced
module _ (rows cols R B : ℕ) (old new : List Glyph) (y : Glyph) (R_in : R < rows) (B_in : B < cols)
    (here : cell_at cols new R B ≡ y)
    (others : (r c : ℕ) → r < rows → c < cols → (r ≡ R → c ≡ B → ⊥) → cell_at cols new r c ≡ cell_at cols old r c) where
  replaced_at : (r c : ℕ) → r ≡ R → c ≡ B → cell_at cols new r c ≡ y
  replaced_at r c p q = ap (λ j. cell_at cols new j c) p ∙ ap (cell_at cols new R) q ∙ here

  pub replaced_is : length new ≡ length old → length old ≡ rows * cols → new ≡ set old (R * cols + B) y
  replaced_is len size =
      let k = R * cols + B in
      let one : (r c : ℕ) → r < rows → c < cols → cell_at cols new r c ≡ cell_at cols (set old k y) r c =
      λ r c p q. elim (cases_eq (r * cols + c) k) [
        | inl e ↦
            let same = same_from_place r c R B cols q B_in e in
            replaced_at r c same.0 same.1 ∙ sym (get_or-set_same old k y blank (omega (arith, size, place_below rows cols R B R_in B_in))) ∙ ap (λ j. get_or (set old k y) j blank) (sym e)
        | inr ne ↦
            others r c p q (λ a b. ne (ap (λ j. j * cols + c) a ∙ ap (λ j. R * cols + j) b)) ∙ sym (get_or-set_other old k (r * cols + c) y blank ne)
      ] in
      table_is rows cols (cell_at cols (set old k y)) new (len ∙ size) one
      ∙ sym (table_is rows cols (cell_at cols (set old k y)) (set old k y) (length-set old k y ∙ size) (λ r c p q. refl))

  pub replaced_whole : AreWhole rows cols old → is_right_half (cell_at cols old R B) ≡ false
      → (is_wide y ≡ is_wide (cell_at cols old R B)) × (is_right_half y ≡ false) × (right_of y ≡ right_of (cell_at cols old R B))
      → AreWhole rows cols new
  replaced_whole whole none same = λ r p c q. record {
    wide = λ w.
        let was : (r ≡ R → c ≡ B → ⊥) → is_wide (cell_at cols old r c) ≡ true = λ ne. ap is_wide (sym (others r c p q ne)) ∙ w in
        let next : (c + 1 < cols) → is_right_half (cell_at cols old r (c + 1)) ≡ true → cell_at cols new r (c + 1) ≡ cell_at cols old r (c + 1) =
        λ i h. others r (c + 1) p i (λ a b. false≢true (sym none ∙ sym (ap (λ j. is_right_half (cell_at cols old j B)) a) ∙ sym (ap (λ j. is_right_half (cell_at cols old r j)) b) ∙ h)) in
        elim (cases_eq r R) [
          | inl a ↦ elim (cases_eq c B) [
            | inl b ↦
                let at : cell_at cols new r c ≡ y = replaced_at r c a b in
                let old_at : cell_at cols old r c ≡ cell_at cols old R B = ap (λ j. cell_at cols old j c) a ∙ ap (cell_at cols old R) b in
                let pair = (whole r p c q).wide (ap is_wide old_at ∙ sym same.0 ∙ ap is_wide (sym at) ∙ w) in
                (pair.0, next pair.0 (ap is_right_half pair.1) ∙ pair.1 ∙ ap right_of old_at ∙ sym same.2 ∙ ap right_of (sym at))
            | inr b ↦
                let pair = (whole r p c q).wide (was (λ e f. b f)) in
                (pair.0, next pair.0 (ap is_right_half pair.1) ∙ pair.1 ∙ ap right_of (sym (others r c p q (λ e f. b f))))
          ]
          | inr a ↦
              let pair = (whole r p c q).wide (was (λ e f. a e)) in
              (pair.0, next pair.0 (ap is_right_half pair.1) ∙ pair.1 ∙ ap right_of (sym (others r c p q (λ e f. a e))))
        ];
    half = λ w.
        let apart : r ≡ R → c ≡ B → ⊥ = λ a b. false≢true (sym same.1 ∙ sym (ap is_right_half (replaced_at r c a b)) ∙ w) in
        let pair = (whole r p c q).half (ap is_right_half (sym (others r c p q apart)) ∙ w) in (
          pair.0,
          elim (cases_eq r R) [
            | inl a ↦ elim (cases_eq (c - 1) B) [
              | inl b ↦ ap is_wide (replaced_at r (c - 1) a b) ∙ same.0 ∙ sym (ap is_wide (ap (λ j. cell_at cols old j (c - 1)) a ∙ ap (cell_at cols old R) b)) ∙ pair.1
              | inr b ↦ ap is_wide (others r (c - 1) p (omega arith) (λ e f. b f)) ∙ pair.1
            ]
            | inr a ↦ ap is_wide (others r (c - 1) p (omega arith) (λ e f. a e)) ∙ pair.1
          ],
        );
  }

-- one cell of the buffer is replaced
module _ (rows cols first R B k : ℕ) (buffer : List Glyph) (y : Glyph) (turned : IsTurned rows cols first buffer) (R_in : R < rows) (B_in : B < cols)
    (k_is : k ≡ brought_back rows (first + R) * cols + B) where
  abbrev new : List Glyph
  new = in_order cols first (set buffer k y)

  abbrev old : List Glyph
  old = in_order cols first buffer

  size : length (set buffer k y) ≡ rows * cols
  size = length-set buffer k y ∙ turned.size

  here : cell_at cols new R B ≡ y
  here =
      turned_at rows cols first (set buffer k y) R B size turned.first_in R_in B_in ∙ ap (λ j. get_or (set buffer k y) j blank) (sym k_is)
      ∙ get_or-set_same buffer k y blank (rw k_is (omega (arith, turned.size, place_below rows cols (brought_back rows (first + R)) B (back_below rows first R turned.first_in R_in) B_in)))

  others : (r c : ℕ) → r < rows → c < cols → (r ≡ R → c ≡ B → ⊥) → cell_at cols new r c ≡ cell_at cols old r c
  others r c p q apart =
      let at = brought_back rows (first + r) in
      let ne : at * cols + c ≢ k =
      λ e. let same = same_from_place at c (brought_back rows (first + R)) B cols q B_in (e ∙ k_is) in
      elim (cases_eq r R) [ inl a ↦ apart a same.1 | inr a ↦ back_apart rows first r R turned.first_in p R_in a same.0 ] in
      turned_at rows cols first (set buffer k y) r c size turned.first_in p q ∙ get_or-set_other buffer k (at * cols + c) y blank ne
      ∙ sym (turned_at rows cols first buffer r c turned.size turned.first_in p q)

  len : length new ≡ length old
  len = length-in_order cols first (set buffer k y) ∙ length-set buffer k y ∙ sym (length-in_order cols first buffer)

  pub joined_is : new ≡ set old (R * cols + B) y
  joined_is = replaced_is rows cols R B old new y R_in B_in here others len (length-in_order cols first buffer ∙ turned.size)

  pub joined_turned : is_right_half (cell_at cols old R B) ≡ false
      → (is_wide y ≡ is_wide (cell_at cols old R B)) × (is_right_half y ≡ false) × (right_of y ≡ right_of (cell_at cols old R B))
      → IsTurned rows cols first (set buffer k y)
  joined_turned none same = record {
    limits = turned.limits;
    size = size;
    first_in = turned.first_in;
    whole = replaced_whole rows cols R B old new y R_in B_in here others turned.whole none same;
  }

-- a row in which one cell is replaced is as long as up to that cell at least
pub joined_lengths : (rows cols first R at a B : ℕ) (buffer : List Glyph) (lengths : List ℕ) (y : Glyph) → IsTurned rows cols first buffer → AreLengths rows cols buffer lengths → R < rows
    → at ≡ brought_back rows (first + R) → at < rows → a ≡ at * cols → B < cols → AreLengths rows cols (set buffer (a + B) y) (set lengths at (max (get_or lengths at 0) (B + 1)))
joined_lengths rows cols first R at a B buffer lengths y turned kept R_in at_is at_in a_is B_in =
    still_lengths rows cols first R at a buffer (set buffer (a + B) y) lengths turned kept R_in at_is at_in a_is (length-set buffer (a + B) y)
    (λ k h. get_or-set_other buffer (a + B) k y blank (λ e. absurd (omega arith))) (λ k h. get_or-set_other buffer (a + B) k y blank (λ e. absurd (omega arith)))
    (max (get_or lengths at 0) (B + 1)) (omega (arith, kept.low at at_in))
    (λ c p q. get_or-set_other buffer (a + B) (a + c) y blank (λ e. absurd (omega arith)) ∙ past_length rows cols at a c buffer lengths kept at_in a_is (omega arith) q)
