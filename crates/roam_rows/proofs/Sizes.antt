-- Rows of another size.
use Rattle.std.proofs.Common.{◌≡◌, ◌≢◌, ℕ, ◌+◌, ◌-◌, ◌*◌, ◌<◌, ◌≤◌, inl, inr, Bool, true, false, ◌&&◌, cond, ltb, min, List, ◌++◌, take, drop, set, length, replicate, refl, sym, ap, ◌∙◌, arith, length-append, length-take, length-drop, get_or-set_same, get_or-set_other}
use Rattle.std.proofs.lemmas.Bool.{false≢true, cases_lt, cases_eq}
use Rattle.std.proofs.lemmas.List.{get_or_append_left, get_or-append_right, get_or-take, get_or-drop, get_or-replicate}
use Rattle.std.proofs.lemmas.List.Edits.{get_or-between}
use Rattle.std.proofs.lemmas.Grind.{common_steps}
use Rattle.roam_cells.specs.Glyph.{Glyph, is_wide, is_right_half, right_of, space_in, blank}
use Rattle.roam_cells.specs.Place.{cell_at, glyph_at, table, AreWhole, IsWholeRow, row_of}
use Rattle.roam_cells.proofs.Places.{table_is}
use Rattle.roam_rows.specs.Row.{mended_glyph}
use Rattle.roam_rows.specs.Places.{Source, From, Fresh, glyph_of_source, are_joined, recast_at}
use Rattle.roam_rows.specs.Rows.{Rows, AreRows}
use Rattle.roam_rows.specs.Sizing.{kept_places, sized_rows}
use Rattle.roam_rows.specs.Vertical.{IsTaken, cut_at_edge}
use Rattle.roam_rows.proofs.Mending.{mended_same, mended_agree, mended-blank, is_wide-blank, by_left, means-ltb}
use Rattle.roam_rows.proofs.Columns.{whole_row_of}
use Rattle.roam_rows.proofs.Parting.{past_end}
use Rattle.roam_rows.proofs.Scrolls.{rows_are}

and_true : (b : Bool) → (b && true) ≡ b
and_true true = refl
and_true false = refl

not_past : (f : Glyph → Bool) (xs : List Glyph) (c : ℕ) → f blank ≡ false → f (glyph_at xs c) ≡ true → c < length xs
not_past f xs c h w =
    elim (cases_lt c (length xs)) [
      | inl q ↦ q
      | inr q ↦ absurd (false≢true (sym h ∙ sym (ap f (past_end xs c q)) ∙ w))
    ]

not_less : (a : ℕ) → ltb a a ≡ false
not_less a = grind (arith, common_steps)

-- a row written over a blank one
module _ (S row M : List Glyph) (k : ℕ) (k_is : k ≡ min (length S) (length row)) (empty : (c : ℕ) → c < length row → glyph_at row c ≡ blank) (whole : IsWholeRow S)
    (M_is : M ≡ take k S ++ drop k row) where
  front_long : length (take k S) ≡ k
  front_long = simp length-take (omega arith)

  pub mid_long : length M ≡ length row
  mid_long = ap length M_is ∙ length-append (take k S) (drop k row) ∙ omega (arith, front_long, length-drop k row)

  pub mid_at : (c : ℕ) → c < length row → glyph_at M c ≡ glyph_at S c
  mid_at c q =
      ap (λ l. glyph_at l c) M_is
      ∙ elim (cases_lt c k) [
        | inl low ↦ get_or_append_left (take k S) (drop k row) blank c (omega (arith, front_long)) ∙ get_or-take k S c blank low
        | inr high ↦
            let back : k + (c - k) ≡ c = omega arith in
            get_or-append_right (take k S) (drop k row) k c blank front_long high ∙ get_or-drop k row (c - k) blank ∙ ap (glyph_at row) back ∙ empty c q ∙ sym (past_end S c (omega arith))
      ]

  pub uncut_each : (0 < k → is_wide (glyph_at M (k - 1)) ≡ false) → (c : ℕ) → c < length row → glyph_at M c ≡ mended_glyph (glyph_at S c) (ltb (c + 1) (length row)) true
  uncut_each fine c q =
      mid_at c q
      ∙ sym (mended_same (glyph_at S c) (ltb (c + 1) (length row)) true
      (λ w.
      let c_in : c < length S = not_past is_wide S c is_wide-blank w in
      let next : c + 1 < length S = ((whole c c_in).wide w).0 in
      elim (cases_lt (c + 1) (length row)) [
        | inl inside ↦ means-ltb (c + 1) (length row) inside
        | inr edge ↦
            let at : k - 1 ≡ c = omega arith in
            absurd (false≢true (sym (fine (omega arith)) ∙ ap (λ j. is_wide (glyph_at M j)) at ∙ ap is_wide (mid_at c q) ∙ w))
      ])
      (λ h. refl))

  pub cut_each : (last : Glyph) → 0 < k → last ≡ glyph_at M (k - 1) → is_wide last ≡ true → (c : ℕ) → c < length row
      → glyph_at (set M (k - 1) (space_in last)) c ≡ mended_glyph (glyph_at S c) (ltb (c + 1) (length row)) true
  cut_each last some last_is wide c q =
      let at : k - 1 < length row = omega arith in
      let w' : is_wide (glyph_at S (k - 1)) ≡ true = ap is_wide (sym (last_is ∙ mid_at (k - 1) at)) ∙ wide in
      let past : k - 1 + 1 < length S = ((whole (k - 1) (omega arith)).wide w').0 in
      let edge : k ≡ length row = omega arith in
      elim (cases_eq c (k - 1)) [
        | inl e ↦
            let next : c + 1 ≡ length row = omega arith in
            ap (glyph_at (set M (k - 1) (space_in last))) e ∙ get_or-set_same M (k - 1) (space_in last) blank (omega (arith, mid_long))
            ∙ ap space_in (last_is ∙ mid_at (k - 1) at ∙ ap (glyph_at S) (sym e))
            ∙ sym (ap (λ b. mended_glyph (glyph_at S c) b true) (ap (λ j. ltb j (length row)) next ∙ not_less (length row)) ∙ by_left (glyph_at S c) true (ap (λ j. is_wide (glyph_at S j)) e ∙ w'))
        | inr ne ↦
            get_or-set_other M (k - 1) c (space_in last) blank ne ∙ mid_at c q
            ∙ sym (mended_same (glyph_at S c) (ltb (c + 1) (length row)) true (λ w. means-ltb (c + 1) (length row) (omega arith)) (λ h. refl))
      ]

  pub cut_whole : (Y : List Glyph) → length Y ≡ length row → ((c : ℕ) → c < length row → glyph_at Y c ≡ mended_glyph (glyph_at S c) (ltb (c + 1) (length row)) true) → IsWholeRow Y
  cut_whole Y len each =
      whole_row_of (length row) (glyph_at S) (λ c. true) Y len
      (λ c q. each c q ∙ mended_agree (glyph_at S c) (ltb (c + 1) (length row)) true (ltb (c + 1) (length row) && true) (ltb 0 c && true)
      (λ w. sym (and_true (ltb (c + 1) (length row))))
      (λ h. let pos : 0 < c = ((whole c (not_past is_right_half S c refl h)).half h).0 in sym (ap (λ b. b && true) (means-ltb 0 c pos))))
      (λ c q j w. ((whole c (not_past is_wide S c is_wide-blank w)).wide w).1)
      (λ c q j h. let back : c + 1 - 1 ≡ c = omega arith in ap (λ i. is_wide (glyph_at S i)) (sym back) ∙ ((whole (c + 1) (not_past is_right_half S (c + 1) refl h)).half h).1)

-- the columns in use of a row
module _ (rows cols i : ℕ) (cells front : List Glyph) (whole : AreWhole rows cols cells) (i_in : i < rows) (row_is : row_of cols cells i ≡ front ++ replicate (cols - length front) blank)
    (few : length front ≤ cols) where
  pub front_at : (c : ℕ) → c < cols → cell_at cols cells i c ≡ glyph_at front c
  front_at c q =
      sym (get_or-between cells (i * cols) ((i + 1) * cols) c blank (omega arith)) ∙ ap (λ l. glyph_at l c) row_is
      ∙ elim (cases_lt c (length front)) [
        | inl low ↦ get_or_append_left front (replicate (cols - length front) blank) blank c low
        | inr high ↦
            get_or-append_right front (replicate (cols - length front) blank) (length front) c blank refl high
            ∙ get_or-replicate (cols - length front) (c - length front) blank blank (omega arith) ∙ sym (past_end front c high)
      ]

  pub front_whole : IsWholeRow front
  front_whole = λ c q. record {
    wide = λ w.
        let pair = (whole i i_in c (omega arith)).wide (ap is_wide (front_at c (omega arith)) ∙ w) in
        let next : glyph_at front (c + 1) ≡ right_of (glyph_at front c) = sym (front_at (c + 1) pair.0) ∙ pair.1 ∙ ap right_of (front_at c (omega arith)) in
        (not_past is_right_half front (c + 1) refl (ap is_right_half next), next);
    half = λ h.
        let pair = (whole i i_in c (omega arith)).half (ap is_right_half (front_at c (omega arith)) ∙ h) in
        (pair.0, ap is_wide (sym (front_at (c - 1) (omega arith))) ∙ pair.1);
  }

  cut_by : (new_cols c : ℕ) (b : Bool) → ltb c cols ≡ b → mended_glyph (glyph_at front c) (ltb (c + 1) new_cols) true ≡ cond b (mended_glyph (cell_at cols cells i c) (ltb (c + 1) new_cols) true) blank
  cut_by new_cols c true h = let q : c < cols = grind (arith, common_steps) in ap (λ x. mended_glyph x (ltb (c + 1) new_cols) true) (sym (front_at c q))
  cut_by new_cols c false h =
      let q : cols ≤ c = grind (arith, common_steps) in
      ap (λ x. mended_glyph x (ltb (c + 1) new_cols) true) (past_end front c (omega arith)) ∙ mended-blank (ltb (c + 1) new_cols) true

  pub cut_here : (new_cols c : ℕ) → mended_glyph (glyph_at front c) (ltb (c + 1) new_cols) true ≡ cut_at_edge new_cols cols cells i c
  cut_here new_cols c = cut_by new_cols c (ltb c cols) refl

  pub cut_past : (new_cols c : ℕ) → length front ≤ c → mended_glyph (glyph_at front c) (ltb (c + 1) new_cols) true ≡ blank
  cut_past new_cols c p = ap (λ x. mended_glyph x (ltb (c + 1) new_cols) true) (past_end front c p) ∙ mended-blank (ltb (c + 1) new_cols) true

keeps : (rows cols off r c : ℕ) → r + off < rows → c < cols → kept_places rows cols off r c ≡ From (r + off) c
keeps rows cols off r c p q = grind (arith, common_steps)

comes_in : (rows cols off r c : ℕ) → cols ≤ c → kept_places rows cols off r c ≡ Fresh blank
comes_in rows cols off r c p = grind (arith, common_steps)

comes_below : (rows cols off r c : ℕ) → rows ≤ r + off → kept_places rows cols off r c ≡ Fresh blank
comes_below rows cols off r c p = grind (arith, common_steps)

joins_next : (s c d : ℕ) → d ≡ c + 1 → are_joined (From s c) (From s d) ≡ true
joins_next s c d e = grind (arith, common_steps)

-- the cell of a place whose source is blank
pub blank_there : (n cols : ℕ) (cells : List Glyph) (source : ℕ → ℕ → Source) (r c : ℕ) → source r c ≡ Fresh blank → recast_at n cols cells source r c ≡ blank
blank_there n cols cells source r c e =
    ap (λ x. mended_glyph (glyph_of_source cols cells x) (ltb (c + 1) n && are_joined x (source r (c + 1))) (ltb 0 c && are_joined (source r (c - 1)) x)) e
    ∙ mended-blank (ltb (c + 1) n && are_joined (Fresh blank) (source r (c + 1))) (ltb 0 c && are_joined (source r (c - 1)) (Fresh blank))

-- the cell of a place that keeps its cell
kept_there : (n rows cols off r c : ℕ) (cells : List Glyph) → AreWhole rows cols cells → r + off < rows → c < cols
    → recast_at n cols cells (kept_places rows cols off) r c ≡ mended_glyph (cell_at cols cells (r + off) c) (ltb (c + 1) n) true
kept_there n rows cols off r c cells whole p q =
    let source = kept_places rows cols off in
    let s = r + off in
    ap (λ x. mended_glyph (glyph_of_source cols cells x) (ltb (c + 1) n && are_joined x (source r (c + 1))) (ltb 0 c && are_joined (source r (c - 1)) x)) (keeps rows cols off r c p q)
    ∙ mended_agree (cell_at cols cells s c) (ltb (c + 1) n && are_joined (From s c) (source r (c + 1))) (ltb 0 c && are_joined (source r (c - 1)) (From s c)) (ltb (c + 1) n) true
    (λ w.
    let next : c + 1 < cols = ((whole s p c q).wide w).0 in
    ap (λ b. ltb (c + 1) n && b) (ap (are_joined (From s c)) (keeps rows cols off r (c + 1) p next) ∙ joins_next s c (c + 1) refl) ∙ and_true (ltb (c + 1) n))
    (λ h.
    let pos : 0 < c = ((whole s p c q).half h).0 in
    ap (λ b. b && are_joined (source r (c - 1)) (From s c)) (means-ltb 0 c pos)
    ∙ ap (λ x. are_joined x (From s c)) (keeps rows cols off r (c - 1) p (omega arith)) ∙ joins_next s (c - 1) c (omega arith))

-- rows of another size, row by row
pub sized_is : (v w : Rows) (rows cols off count : ℕ) → AreRows v → AreRows w → w.rows ≡ rows → w.cols ≡ cols → w.first ≡ 0 → count ≡ min (v.rows - off) rows
    → ((r c : ℕ) → r < count → c < cols → cell_at cols w.cells r c ≡ cut_at_edge cols v.cols v.cells (r + off) c)
    → ((r c : ℕ) → count ≤ r → r < rows → c < cols → cell_at cols w.cells r c ≡ blank)
    → w ≡ sized_rows rows cols off v
sized_is v w rows cols off count h k rows_is cols_is first_is count_is taken_rows rest =
    let source = kept_places v.rows v.cols off in
    let size : length w.cells ≡ rows * cols = k.size ∙ ap (λ j. j * w.cols) rows_is ∙ ap (λ j. rows * j) cols_is in
    rows_are w rows cols 0 (table rows cols (recast_at cols v.cols v.cells source)) rows_is cols_is first_is
    (table_is rows cols (recast_at cols v.cols v.cells source) w.cells size (λ r c p q.
    elim (cases_lt r count) [
      | inl low ↦
          let s_in : r + off < v.rows = omega arith in
          taken_rows r c low q
          ∙ elim (cases_lt c v.cols) [
            | inl inside ↦
                ap (λ b. cond b (mended_glyph (cell_at v.cols v.cells (r + off) c) (ltb (c + 1) cols) true) blank) (means-ltb c v.cols inside)
                ∙ sym (kept_there cols v.rows v.cols off r c v.cells h.whole s_in inside)
            | inr past ↦
                let no : ltb c v.cols ≡ false = grind (arith, common_steps) in
                ap (λ b. cond b (mended_glyph (cell_at v.cols v.cells (r + off) c) (ltb (c + 1) cols) true) blank) no
                ∙ sym (blank_there cols v.cols v.cells source r c (comes_in v.rows v.cols off r c past))
          ]
      | inr high ↦ rest r c high p q ∙ sym (blank_there cols v.cols v.cells source r c (comes_below v.rows v.cols off r c (omega arith)))
    ]))

-- a row that was taken, if the rows and columns have other names
pub taken_by : (rows cols row source : ℕ) (other v w : Rows) → v.rows ≡ rows → v.cols ≡ cols → IsTaken row source other v w
    → ((c : ℕ) → c < cols → cell_at cols w.cells row c ≡ cut_at_edge cols other.cols other.cells source c)
    × ((r c : ℕ) → r < rows → c < cols → r ≢ row → cell_at cols w.cells r c ≡ cell_at cols v.cells r c)
taken_by rows cols row source other v w p q one = rw (← p, ← q) (one.here, one.others)
