-- One row of cells by its columns: the result of a map of them, and the condition for whole characters.
use Rattle.std.proofs.Common.{◌≡◌, ℕ, ◌+◌, ◌-◌, ◌<◌, Bool, true, false, not, ◌&&◌, ltb, List, length, map, refl, sym, ap, ◌∙◌, arith, inl, inr}
use Rattle.std.specs.List.{range_with_len}
use Rattle.std.proofs.lemmas.Bool.{false≢true, cases_lt}
use Rattle.std.proofs.lemmas.List.{same_lists, get_or_default}
use Rattle.std.proofs.lemmas.List.FromFn.{length-map-range_with_len, get_or-map-range_with_len}
use Rattle.std.proofs.lemmas.Grind.{common_steps}
use Rattle.roam_cells.specs.Glyph.{Glyph, is_wide, is_right_half, right_of, blank}
use Rattle.roam_cells.specs.Place.{glyph_at, IsWholeRow}
use Rattle.roam_rows.specs.Row.{RowSource, Column, Fresh, row_taken, are_neighbours, mended_glyph, row_moved, row_moved_at}
use Rattle.roam_rows.specs.Halves.{AreParted}
use Rattle.roam_rows.proofs.Mending.{mended_same, mended_agree, still_wide, still_half, wide_not_half, and_left, and_right, ltb-means, means-ltb, both}

pub length-row : (n : ℕ) (f : ℕ → Glyph) → length (map f (range_with_len 0 n)) ≡ n
length-row n f = length-map-range_with_len f 0 n

pub row_at : (n : ℕ) (f : ℕ → Glyph) (c : ℕ) → c < n → glyph_at (map f (range_with_len 0 n)) c ≡ f c
row_at n f c h = get_or-map-range_with_len f 0 n c c blank h (omega arith)

-- a list that has in each column what f says
pub row_is : (n : ℕ) (f : ℕ → Glyph) (xs : List Glyph) → length xs ≡ n → ((c : ℕ) → c < n → glyph_at xs c ≡ f c) → xs ≡ map f (range_with_len 0 n)
row_is n f xs len each =
    same_lists xs (map f (range_with_len 0 n)) (len ∙ sym (length-row n f)) (λ k d h.
    get_or_default xs k d blank h ∙ each k (omega (arith, len)) ∙ sym (get_or-map-range_with_len f 0 n k k d (omega (arith, len)) (omega arith)))

-- cells that come in pairs, and are repaired if a pair is parted, are whole
module _ (n : ℕ) (T : ℕ → Glyph) (J : ℕ → Bool) (new : List Glyph) (len : length new ≡ n) where
  pub whole_row_of : ((c : ℕ) → c < n → glyph_at new c ≡ mended_glyph (T c) (ltb (c + 1) n && J c) (ltb 0 c && J (c - 1)))
      → ((c : ℕ) → c + 1 < n → J c ≡ true → is_wide (T c) ≡ true → T (c + 1) ≡ right_of (T c))
      → ((c : ℕ) → c + 1 < n → J c ≡ true → is_right_half (T (c + 1)) ≡ true → is_wide (T c) ≡ true)
      → IsWholeRow new
  whole_row_of each wide_pair half_pair = λ c q'. record {
    wide = λ w.
        let q : c < n = omega (arith, len) in
        let still = still_wide (T c) (ltb (c + 1) n && J c) (ltb 0 c && J (c - 1)) (sym (ap is_wide (each c q)) ∙ w) in
        let same : glyph_at new c ≡ T c = each c q ∙ still.0 in
        let was : is_wide (T c) ≡ true = ap is_wide (sym same) ∙ w in
        let right = still.1 was in
        let inside : c + 1 < n = ltb-means (c + 1) n (and_left (ltb (c + 1) n) (J c) right) in
        let joined : J c ≡ true = and_right (ltb (c + 1) n) (J c) right in
        let half : T (c + 1) ≡ right_of (T c) = wide_pair c inside joined was in
        let back : (ltb 0 (c + 1) && J (c + 1 - 1)) ≡ true = both _ _ (means-ltb 0 (c + 1) (omega arith)) (ap J (omega arith) ∙ joined) in
        let kept : mended_glyph (T (c + 1)) (ltb (c + 1 + 1) n && J (c + 1)) (ltb 0 (c + 1) && J (c + 1 - 1)) ≡ T (c + 1) =
        mended_same (T (c + 1)) _ _ (λ h. absurd (false≢true (sym (ap is_wide half) ∙ h))) (λ h. back) in
        (omega (arith, len), each (c + 1) inside ∙ kept ∙ half ∙ ap right_of (sym same));
    half = λ w.
        let q : c < n = omega (arith, len) in
        let still = still_half (T c) (ltb (c + 1) n && J c) (ltb 0 c && J (c - 1)) (sym (ap is_right_half (each c q)) ∙ w) in
        let same : glyph_at new c ≡ T c = each c q ∙ still.0 in
        let was : is_right_half (T c) ≡ true = ap is_right_half (sym same) ∙ w in
        let left = still.2 was in
        let pos : 0 < c = ltb-means 0 c (and_left (ltb 0 c) (J (c - 1)) left) in
        let joined : J (c - 1) ≡ true = and_right (ltb 0 c) (J (c - 1)) left in
        let e : c - 1 + 1 ≡ c = omega arith in
        let whole : is_wide (T (c - 1)) ≡ true = half_pair (c - 1) (omega arith) joined (ap (λ k. is_right_half (T k)) e ∙ was) in
        let next : (ltb (c - 1 + 1) n && J (c - 1)) ≡ true = both _ _ (means-ltb (c - 1 + 1) n (omega arith)) joined in
        let kept : mended_glyph (T (c - 1)) (ltb (c - 1 + 1) n && J (c - 1)) (ltb 0 (c - 1) && J (c - 1 - 1)) ≡ T (c - 1) =
        mended_same (T (c - 1)) _ _ (λ h. next) (λ h. absurd (false≢true (sym (wide_not_half (T (c - 1)) whole) ∙ h))) in
        (pos, ap is_wide (each (c - 1) (omega arith) ∙ kept) ∙ whole);
  }

is_next : (c d : ℕ) → d ≡ c + 1 → are_neighbours (Column c) (Column d) ≡ true
is_next c d h = grind (arith, common_steps)

-- a map that takes each column from itself changes nothing
pub row_unmoved : (row : List Glyph) (one : ℕ → RowSource) → IsWholeRow row → ((c : ℕ) → c < length row → one c ≡ Column c) → row ≡ row_moved row one
row_unmoved row one whole same =
    row_is (length row) (row_moved_at row one) row refl (λ c q.
    sym (
    ap (λ x. mended_glyph (row_taken row x) (ltb (c + 1) (length row) && are_neighbours x (one (c + 1))) (ltb 0 c && are_neighbours (one (c - 1)) x)) (same c q)
    ∙ mended_same (glyph_at row c) (ltb (c + 1) (length row) && are_neighbours (Column c) (one (c + 1))) (ltb 0 c && are_neighbours (one (c - 1)) (Column c))
    (λ w. let inside : c + 1 < length row = ((whole c q).wide w).0 in
    both _ _ (means-ltb (c + 1) (length row) inside) (ap (are_neighbours (Column c)) (same (c + 1) inside) ∙ is_next c (c + 1) refl))
    (λ h. let pos : 0 < c = ((whole c q).half h).0 in
    both _ _ (means-ltb 0 c pos) (ap (λ x. are_neighbours x (Column c)) (same (c - 1) (omega arith)) ∙ is_next (c - 1) c (omega arith)))))

-- the requirement of a wide cell and a right half in a column: a boundary of the old row is cut if the halves part
abbrev pub Agrees : ℕ → (ℕ → Bool) → ℕ → RowSource → RowSource → RowSource → Type 0
Agrees n cut c (Column d) next before =
    (d < n) × (d + 1 < n → not (cut (d + 1)) ≡ (ltb (c + 1) n && are_neighbours (Column d) next))
    × (0 < d → not (cut d) ≡ (ltb 0 c && are_neighbours before (Column d)))
Agrees n cut c (Fresh x) next before =
    (is_wide x ≡ true → (ltb (c + 1) n && are_neighbours (Fresh x) next) ≡ true) × (is_right_half x ≡ true → (ltb 0 c && are_neighbours before (Fresh x)) ≡ true)

-- the cell of a column, by its source and those beside it
abbrev pub row_shown : List Glyph → ℕ → RowSource → RowSource → RowSource → Glyph
row_shown row c here next before = mended_glyph (row_taken row here) (ltb (c + 1) (length row) && are_neighbours here next) (ltb 0 c && are_neighbours before here)

-- the same, only for a column with a half
abbrev pub AgreesAt : List Glyph → (ℕ → Bool) → ℕ → RowSource → RowSource → RowSource → Type 0
AgreesAt row cut c (Column d) next before =
    (d < length row)
    × (is_wide (glyph_at row d) ≡ true → d + 1 < length row → not (cut (d + 1)) ≡ (ltb (c + 1) (length row) && are_neighbours (Column d) next))
    × (is_right_half (glyph_at row d) ≡ true → 0 < d → not (cut d) ≡ (ltb 0 c && are_neighbours before (Column d)))
AgreesAt row cut c (Fresh x) next before =
    (is_wide x ≡ true → (ltb (c + 1) (length row) && are_neighbours (Fresh x) next) ≡ true) × (is_right_half x ≡ true → (ltb 0 c && are_neighbours before (Fresh x)) ≡ true)

pub agrees_there : (row : List Glyph) (cut : ℕ → Bool) (c : ℕ) (here next before : RowSource) → Agrees (length row) cut c here next before → AgreesAt row cut c here next before
agrees_there row cut c (Column d) next before h = (h.0, (λ w. h.1), (λ w. h.2))
agrees_there row cut c (Fresh x) next before h = h

-- the plain move of a row that was parted at the right boundaries is the map
module _ (cut : ℕ → Bool) (row P : List Glyph) (whole : IsWholeRow row) (parted : AreParted cut row P) where
  pub in_column : (c : ℕ) (here next before : RowSource) → AgreesAt row cut c here next before → row_taken P here ≡ row_shown row c here next before
  in_column c (Column d) next before h =
      parted.each d h.0
      ∙ mended_agree (glyph_at row d) (not (cut (d + 1))) (not (cut d)) (ltb (c + 1) (length row) && are_neighbours (Column d) next) (ltb 0 c && are_neighbours before (Column d))
      (λ w. h.1 w (((whole d h.0).wide w).0)) (λ w. h.2 w (((whole d h.0).half w).0))
  in_column c (Fresh x) next before h = sym (mended_same x (ltb (c + 1) (length row) && are_neighbours (Fresh x) next) (ltb 0 c && are_neighbours before (Fresh x)) h.0 h.1)

  pub row_moved_by : (one : ℕ → RowSource) (Y : List Glyph) → length Y ≡ length row
      → ((c : ℕ) → c < length row → glyph_at Y c ≡ row_taken P (one c))
      → ((c : ℕ) → c < length row → AgreesAt row cut c (one c) (one (c + 1)) (one (c - 1)))
      → Y ≡ row_moved row one
  row_moved_by one Y len each agrees =
      row_is (length row) (row_moved_at row one) Y len (λ c q. each c q ∙ in_column c (one c) (one (c + 1)) (one (c - 1)) (agrees c q))

  pub row_moved_is : (one : ℕ → RowSource) (Y : List Glyph) → length Y ≡ length row
      → ((c : ℕ) → c < length row → glyph_at Y c ≡ row_taken P (one c))
      → ((c : ℕ) → c < length row → Agrees (length row) cut c (one c) (one (c + 1)) (one (c - 1)))
      → Y ≡ row_moved row one
  row_moved_is one Y len each agrees = row_moved_by one Y len each (λ c q. agrees_there row cut c (one c) (one (c + 1)) (one (c - 1)) (agrees c q))

-- two sources beside each other that keep characters whole
abbrev pub Fits : ℕ → RowSource → RowSource → Type 0
Fits n (Column d) (Column d') = (d < n) × (d' < n)
Fits n (Column d) (Fresh y) = Unit {0}
Fits n (Fresh x) (Column d') = Unit {0}
Fits n (Fresh x) (Fresh y) = is_wide x ≡ true → is_right_half y ≡ true → y ≡ right_of x

-- a source that is a column of the row, or a cell that isn't wide
abbrev pub IsPlain : ℕ → RowSource → Type 0
IsPlain n (Column d) = d < n
IsPlain n (Fresh x) = is_wide x ≡ false

fits_plain : (n : ℕ) (x y : RowSource) → IsPlain n x → IsPlain n y → Fits n x y
fits_plain n (Column d) (Column d') p q = (p, q)
fits_plain n (Column d) (Fresh y) p q = tt
fits_plain n (Fresh x) (Column d') p q = tt
fits_plain n (Fresh x) (Fresh y) p q = λ w h. absurd (false≢true (sym p ∙ w))

next_means : (d d' : ℕ) → are_neighbours (Column d) (Column d') ≡ true → d' ≡ d + 1
next_means d d' h = grind (arith, common_steps)

module _ (row : List Glyph) (whole : IsWholeRow row) where
  wide_pair : (here next : RowSource) → Fits (length row) here next → are_neighbours here next ≡ true → is_wide (row_taken row here) ≡ true
      → row_taken row next ≡ right_of (row_taken row here)
  wide_pair (Column d) (Column d') f j w = ap (glyph_at row) (next_means d d' j) ∙ ((whole d f.0).wide w).1
  wide_pair (Column d) (Fresh y) f j w = absurd (false≢true j)
  wide_pair (Fresh x) (Column d') f j w = absurd (false≢true j)
  wide_pair (Fresh x) (Fresh y) f j w = f w (and_right (is_wide x) (is_right_half y) j)

  half_pair : (here next : RowSource) → Fits (length row) here next → are_neighbours here next ≡ true → is_right_half (row_taken row next) ≡ true
      → is_wide (row_taken row here) ≡ true
  half_pair (Column d) (Column d') f j w =
      let back : d' - 1 ≡ d = omega (arith, next_means d d' j) in
      ap (λ k. is_wide (glyph_at row k)) (sym back) ∙ ((whole d' f.1).half w).1
  half_pair (Column d) (Fresh y) f j w = absurd (false≢true j)
  half_pair (Fresh x) (Column d') f j w = absurd (false≢true j)
  half_pair (Fresh x) (Fresh y) f j w = and_left (is_wide x) (is_right_half y) j

  pub row_moved_whole : (one : ℕ → RowSource) → ((c : ℕ) → c + 1 < length row → Fits (length row) (one c) (one (c + 1))) → IsWholeRow (row_moved row one)
  row_moved_whole one fits =
      let T : ℕ → Glyph = λ c. row_taken row (one c) in
      let J : ℕ → Bool = λ c. are_neighbours (one c) (one (c + 1)) in
      let same : (c : ℕ) → (ltb 0 c && are_neighbours (one (c - 1)) (one c)) ≡ (ltb 0 c && J (c - 1)) =
      λ c. elim (cases_lt 0 c) [
        | inl pos ↦ let e : c ≡ c - 1 + 1 = omega arith in ap (λ k. ltb 0 c && are_neighbours (one (c - 1)) (one k)) e
        | inr none ↦ let e : ltb 0 c ≡ false = grind (arith, common_steps) in
            ap (λ b. b && are_neighbours (one (c - 1)) (one c)) e ∙ sym (ap (λ b. b && J (c - 1)) e)
      ] in
      whole_row_of (length row) T J (row_moved row one) (length-row (length row) (row_moved_at row one))
      (λ c q. row_at (length row) (row_moved_at row one) c q ∙ ap (λ b. mended_glyph (T c) (ltb (c + 1) (length row) && J c) b) (same c))
      (λ c q j w. wide_pair (one c) (one (c + 1)) (fits c q) j w)
      (λ c q j w. half_pair (one c) (one (c + 1)) (fits c q) j w)

pub plain_whole : (row : List Glyph) (one : ℕ → RowSource) → IsWholeRow row → ((c : ℕ) → c < length row → IsPlain (length row) (one c)) → IsWholeRow (row_moved row one)
plain_whole row one whole plain =
    row_moved_whole row whole one (λ c q. fits_plain (length row) (one c) (one (c + 1)) (plain c (omega arith)) (plain (c + 1) q))

pub parted_whole : (cut : ℕ → Bool) (old new : List Glyph) → IsWholeRow old → AreParted cut old new → IsWholeRow new
parted_whole cut old new whole parted =
    let n = length old in
    whole_row_of n (glyph_at old) (λ c. not (cut (c + 1))) new parted.len
    (λ c q. parted.each c q ∙ mended_agree (glyph_at old c) (not (cut (c + 1))) (not (cut c)) (ltb (c + 1) n && not (cut (c + 1))) (ltb 0 c && not (cut (c - 1 + 1)))
    (λ w. sym (ap (λ t. t && not (cut (c + 1))) (means-ltb (c + 1) n (((whole c q).wide w).0))))
    (λ w. let pos : 0 < c = ((whole c q).half w).0 in
    let e : c ≡ c - 1 + 1 = omega arith in
    ap (λ k. not (cut k)) e ∙ sym (ap (λ t. t && not (cut (c - 1 + 1))) (means-ltb 0 c pos))))
    (λ c q j w. ((whole c (omega arith)).wide w).1)
    (λ c q j w. let back : c + 1 - 1 ≡ c = omega arith in ap (λ k. is_wide (glyph_at old k)) (sym back) ∙ ((whole (c + 1) q).half w).1)
