-- Maps of places keep cells: as many as there are places, whole characters, each what some cell shows.
use Rattle.std.proofs.Common.{◌≡◌, ℕ, ◌+◌, ◌-◌, ◌*◌, ◌/◌, ◌%◌, ◌<◌, inl, inr, Bool, true, false, not, ◌&&◌, cond, eqb, ltb, leb, List, [], ◌∷◌, ◌++◌, map, set, length, get_or, replicate, refl, sym, ap, ◌∙◌, subst, arith, length-set, get_or-set_same, get_or-set_other}
use Rattle.std.specs.Char.{IsScalar}
use Rattle.std.specs.List.{range_with_len}
use Rattle.std.proofs.lemmas.Bool.{false≢true, cases_lt, cases_eq, leb-true, ltb-true, eqb-true}
use Rattle.std.proofs.lemmas.Grind.{common_steps}
use Rattle.std.proofs.lemmas.List.{get_or_past, get_or-replicate, length-replicate}
use Rattle.std.proofs.lemmas.List.Elements.{All-append}
use Rattle.std.proofs.lemmas.Nat.{same_from_place}
use Rattle.roam_cells.specs.Glyph.{Glyph, IsShown, is_wide, is_right_half, is_text, is_cell_text, right_of, space_in, with_point, blank}
use Rattle.roam_cells.specs.Place.{cell_at, glyph_at, table, AreWhole, IsWholeLine}
use Rattle.roam_cells.proofs.CellLists.{one_scalar, space_in_shown, blank_shown, half_shown}
use Rattle.roam_cells.proofs.Joining.{with_point_like}
use Rattle.roam_cells.proofs.Places.{length-table, get_or-table, place_of, place_below}
use Rattle.roam_rows.specs.Row.{RowSource, mended_glyph}
use Rattle.roam_rows.specs.Places.{Source, From, Fresh, glyph_of_source, are_joined, recast_at, mapped_cells, at_row, in_row}
use Rattle.roam_rows.specs.Rows.{Rows}
use Rattle.roam_rows.specs.Writing.{writing_source, base_column}
use Rattle.roam_rows.specs.Editing.{insertion_source, deletion_source}
use Rattle.roam_rows.specs.Scrolling.{up, down}
use Rattle.roam_rows.specs.Sizing.{kept_places, sized_rows}
use Rattle.roam_rows.proofs.Mending.{is_wide-blank, wide_not_half, and_left, and_right}
use Rattle.roam_rows.proofs.Columns.{length-row, row_at, whole_row_of}
use Rattle.roam_rows.proofs.Joins.{replaced_whole}

-- cells in reading order: as many as there are places, whole characters, each what some cell shows
pub record AreCells (rows cols : ℕ) (cells : List Glyph) : Type 0 where
  pub count : length cells ≡ rows * cols
  pub whole : AreWhole rows cols cells
  pub shown : (k : ℕ) → IsShown (get_or cells k blank)

-- ---- cells

mended_by : (v w : Bool) (x : Glyph) → IsShown x → IsShown (cond v (space_in x) (cond w (space_in x) x))
mended_by true w x h = space_in_shown x h
mended_by false true x h = space_in_shown x h
mended_by false false x h = h

mended_shown : (x : Glyph) (a b : Bool) → IsShown x → IsShown (mended_glyph x a b)
mended_shown x a b h = mended_by (is_wide x && not a) (is_right_half x && not b) x h

pub table_shown : (rows cols : ℕ) (f : ℕ → ℕ → Glyph) → ((r c : ℕ) → r < rows → c < cols → IsShown (f r c)) → (k : ℕ)
    → IsShown (get_or (table rows cols f) k blank)
table_shown rows cols f each k =
    elim (cases_lt k (rows * cols)) [
      | inl low ↦
          let p = place_of rows cols k low in
          let at : get_or (table rows cols f) k blank ≡ f (k / cols) (k % cols) =
          ap (λ j. get_or (table rows cols f) j blank) (sym p.2) ∙ get_or-table rows cols f (k / cols) (k % cols) blank p.0 p.1 in
          subst IsShown (sym at) (each (k / cols) (k % cols) p.0 p.1)
      | inr high ↦
          subst IsShown
          (sym (get_or_past (table rows cols f) k blank (omega (arith, length-table rows cols f, high)))) blank_shown
    ]

-- ---- whole lines

-- a line depends on its own columns alone
pub line_same : (cols : ℕ) (f g : ℕ → Glyph) → ((c : ℕ) → c < cols → g c ≡ f c) → IsWholeLine cols f → IsWholeLine cols g
line_same cols f g same whole c q = record {
  wide = λ wide.
      let pair = (whole c q).wide (sym (ap is_wide (same c q)) ∙ wide) in
      (pair.0, same (c + 1) pair.0 ∙ pair.1 ∙ sym (ap right_of (same c q)));
  half = λ half.
      let pair = (whole c q).half (sym (ap is_right_half (same c q)) ∙ half) in
      (pair.0, ap is_wide (same (c - 1) (omega (arith, q))) ∙ pair.1);
}

whole_line : (n : ℕ) (T : ℕ → Glyph) (J : ℕ → Bool) (f : ℕ → Glyph)
    → ((c : ℕ) → c < n → f c ≡ mended_glyph (T c) (ltb (c + 1) n && J c) (ltb 0 c && J (c - 1)))
    → ((c : ℕ) → c + 1 < n → J c ≡ true → is_wide (T c) ≡ true → T (c + 1) ≡ right_of (T c))
    → ((c : ℕ) → c + 1 < n → J c ≡ true → is_right_half (T (c + 1)) ≡ true → is_wide (T c) ≡ true)
    → IsWholeLine n f
whole_line n T J f each wides halves =
    let row = map f (range_with_len 0 n) in
    line_same n (glyph_at row) f (λ c q. sym (row_at n f c q))
    (subst (λ (m : ℕ). IsWholeLine m (glyph_at row)) (length-row n f)
    (whole_row_of n T J row (length-row n f) (λ c q. row_at n f c q ∙ each c q) wides halves))

-- ---- maps of places

-- a source is a place of the cells, or what some cell shows
abbrev pub IsPlaced : ℕ → ℕ → Source → Type 0
IsPlaced rows cols (From r c) = (r < rows) × (c < cols)
IsPlaced rows cols (Fresh x) = IsShown x

-- of two sources beside each other that are new, a wide cell and a right half are one character
abbrev pub Suits : Source → Source → Type 0
Suits (From r c) (From s d) = Unit {0}
Suits (From r c) (Fresh y) = Unit {0}
Suits (Fresh x) (From s d) = Unit {0}
Suits (Fresh x) (Fresh y) = is_wide x ≡ true → is_right_half y ≡ true → y ≡ right_of x

joined_means : (r c s d : ℕ) → are_joined (From r c) (From s d) ≡ true → (s ≡ r) × (d ≡ c + 1)
joined_means r c s d h = (eqb-true s r (and_left (eqb s r) (eqb d (c + 1)) h), eqb-true d (c + 1) (and_right (eqb s r) (eqb d (c + 1)) h))

module _ (rows cols new_rows new_cols : ℕ) (cells : List Glyph) (source : ℕ → ℕ → Source) (are : AreCells rows cols cells)
    (placed : (r c : ℕ) → r < new_rows → c < new_cols → IsPlaced rows cols (source r c))
    (suits : (r c : ℕ) → r < new_rows → c + 1 < new_cols → Suits (source r c) (source r (c + 1))) where
  taken_shown : (s : Source) → IsPlaced rows cols s → IsShown (glyph_of_source cols cells s)
  taken_shown (From r c) p = are.shown (r * cols + c)
  taken_shown (Fresh x) p = p

  wide_pair : (here next : Source) → IsPlaced rows cols here → Suits here next → are_joined here next ≡ true
      → is_wide (glyph_of_source cols cells here) ≡ true → glyph_of_source cols cells next ≡ right_of (glyph_of_source cols cells here)
  wide_pair (From r c) (From s d) p f j w =
      let e = joined_means r c s d j in
      ap (λ k. cell_at cols cells k d) e.0 ∙ ap (cell_at cols cells r) e.1 ∙ ((are.whole r p.0 c p.1).wide w).1
  wide_pair (From r c) (Fresh y) p f j w = absurd (false≢true j)
  wide_pair (Fresh x) (From s d) p f j w = absurd (false≢true j)
  wide_pair (Fresh x) (Fresh y) p f j w = f w (and_right (is_wide x) (is_right_half y) j)

  half_pair : (here next : Source) → IsPlaced rows cols next → are_joined here next ≡ true
      → is_right_half (glyph_of_source cols cells next) ≡ true → is_wide (glyph_of_source cols cells here) ≡ true
  half_pair (From r c) (From s d) p j h =
      let e = joined_means r c s d j in
      let back : d - 1 ≡ c = omega (arith, e.1) in
      sym (ap (λ k. is_wide (cell_at cols cells k c)) e.0) ∙ sym (ap (λ k. is_wide (cell_at cols cells s k)) back) ∙
      ((are.whole s p.0 d p.1).half h).1
  half_pair (From r c) (Fresh y) p j h = absurd (false≢true j)
  half_pair (Fresh x) (From s d) p j h = absurd (false≢true j)
  half_pair (Fresh x) (Fresh y) p j h = and_left (is_wide x) (is_right_half y) j

  recast_whole : AreWhole new_rows new_cols (table new_rows new_cols (recast_at new_cols cols cells source))
  recast_whole r p =
      let T : ℕ → Glyph = λ c. glyph_of_source cols cells (source r c) in
      let J : ℕ → Bool = λ c. are_joined (source r c) (source r (c + 1)) in
      let same : (c : ℕ) → (ltb 0 c && are_joined (source r (c - 1)) (source r c)) ≡ (ltb 0 c && J (c - 1)) =
      λ c. elim (cases_lt 0 c) [
        | inl pos ↦ let e : c ≡ c - 1 + 1 = omega arith in ap (λ k. ltb 0 c && are_joined (source r (c - 1)) (source r k)) e
        | inr none ↦ let e : ltb 0 c ≡ false = grind (arith, common_steps) in
            ap (λ b. b && are_joined (source r (c - 1)) (source r c)) e ∙ sym (ap (λ b. b && J (c - 1)) e)
      ] in
      let f = recast_at new_cols cols cells source in
      line_same new_cols (f r) (cell_at new_cols (table new_rows new_cols f) r) (λ c q. get_or-table new_rows new_cols f r c blank p q)
      (whole_line new_cols T J (f r)
      (λ c q. ap (λ b. mended_glyph (T c) (ltb (c + 1) new_cols && J c) b) (same c))
      (λ c q j w. wide_pair (source r c) (source r (c + 1)) (placed r c p (omega arith)) (suits r c p q) j w)
      (λ c q j h. half_pair (source r c) (source r (c + 1)) (placed r (c + 1) p q) j h))

  pub recast_cells : AreCells new_rows new_cols (table new_rows new_cols (recast_at new_cols cols cells source))
  recast_cells = record {
    count = length-table new_rows new_cols (recast_at new_cols cols cells source);
    whole = recast_whole;
    shown = table_shown new_rows new_cols (recast_at new_cols cols cells source) (λ r c p q.
        mended_shown (glyph_of_source cols cells (source r c)) (ltb (c + 1) new_cols && are_joined (source r c) (source r (c + 1)))
        (ltb 0 c && are_joined (source r (c - 1)) (source r c)) (taken_shown (source r c) (placed r c p q)));
  }

-- ---- maps whose new cells are blank

-- a source is a place of the cells, or blank
abbrev pub IsPlain : ℕ → ℕ → Source → Type 0
IsPlain rows cols (From r c) = (r < rows) × (c < cols)
IsPlain rows cols (Fresh x) = x ≡ blank

plain_placed : (rows cols : ℕ) (s : Source) → IsPlain rows cols s → IsPlaced rows cols s
plain_placed rows cols (From r c) p = p
plain_placed rows cols (Fresh x) e = subst IsShown (sym e) blank_shown

plain_suits : (rows cols : ℕ) (s t : Source) → IsPlain rows cols s → Suits s t
plain_suits rows cols (From r c) (From s d) p = tt
plain_suits rows cols (From r c) (Fresh y) p = tt
plain_suits rows cols (Fresh x) (From s d) p = tt
plain_suits rows cols (Fresh x) (Fresh y) e = λ w h. absurd (false≢true (sym is_wide-blank ∙ ap is_wide (sym e) ∙ w))

pub plain_cells : (rows cols new_rows new_cols : ℕ) (cells : List Glyph) (source : ℕ → ℕ → Source) → AreCells rows cols cells
    → ((r c : ℕ) → r < new_rows → c < new_cols → IsPlain rows cols (source r c))
    → AreCells new_rows new_cols (table new_rows new_cols (recast_at new_cols cols cells source))
plain_cells rows cols new_rows new_cols cells source are plain =
    recast_cells rows cols new_rows new_cols cells source are (λ r c p q. plain_placed rows cols (source r c) (plain r c p q))
    (λ r c p q. plain_suits rows cols (source r c) (source r (c + 1)) (plain r c p (omega arith)))

-- a property of both choices is one of the chosen one
pub either : {X : Type 0} (P : X → Type 0) (b : Bool) (x y : X) → (b ≡ true → P x) → (b ≡ false → P y) → P (cond b x y)
either P true x y f g = f refl
either P false x y f g = g refl

pub up_plain : (rows cols top bottom n : ℕ) → bottom < rows → (r c : ℕ) → r < rows → c < cols → IsPlain rows cols (up top bottom n r c)
up_plain rows cols top bottom n low r c p q =
    either (IsPlain rows cols) (leb top r && leb r bottom) (cond (leb (r + n) bottom) (From (r + n) c) (Fresh blank)) (From r c)
    (λ h. either (IsPlain rows cols) (leb (r + n) bottom) (From (r + n) c) (Fresh blank)
    (λ k. (omega (arith, leb-true (r + n) bottom k, low), q)) (λ k. refl))
    (λ h. (p, q))

pub down_plain : (rows cols top bottom n : ℕ) (r c : ℕ) → r < rows → c < cols → IsPlain rows cols (down top bottom n r c)
down_plain rows cols top bottom n r c p q =
    either (IsPlain rows cols) (leb top r && leb r bottom) (cond (leb (top + n) r) (From (r - n) c) (Fresh blank)) (From r c)
    (λ h. either (IsPlain rows cols) (leb (top + n) r) (From (r - n) c) (Fresh blank) (λ k. (omega (arith, p), q)) (λ k. refl))
    (λ h. (p, q))

-- a place that becomes blank or stays
pub blanked_plain : (rows cols : ℕ) (b : Bool) (r c : ℕ) → r < rows → c < cols → IsPlain rows cols (cond b (Fresh blank) (From r c))
blanked_plain rows cols b r c p q = either (IsPlain rows cols) b (Fresh blank) (From r c) (λ h. refl) (λ h. (p, q))

-- ---- maps of one row

abbrev pub IsPlacedIn : ℕ → RowSource → Type 0
IsPlacedIn cols (RowSource.Column c) = c < cols
IsPlacedIn cols (RowSource.Fresh x) = IsShown x

abbrev pub IsPlainIn : ℕ → RowSource → Type 0
IsPlainIn cols (RowSource.Column c) = c < cols
IsPlainIn cols (RowSource.Fresh x) = x ≡ blank

abbrev pub SuitsIn : RowSource → RowSource → Type 0
SuitsIn (RowSource.Column c) (RowSource.Column d) = Unit {0}
SuitsIn (RowSource.Column c) (RowSource.Fresh y) = Unit {0}
SuitsIn (RowSource.Fresh x) (RowSource.Column d) = Unit {0}
SuitsIn (RowSource.Fresh x) (RowSource.Fresh y) = is_wide x ≡ true → is_right_half y ≡ true → y ≡ right_of x

at_placed : (rows cols row : ℕ) (s : RowSource) → row < rows → IsPlacedIn cols s → IsPlaced rows cols (at_row row s)
at_placed rows cols row (RowSource.Column c) p q = (p, q)
at_placed rows cols row (RowSource.Fresh x) p h = h

at_plain : (rows cols row : ℕ) (s : RowSource) → row < rows → IsPlainIn cols s → IsPlain rows cols (at_row row s)
at_plain rows cols row (RowSource.Column c) p q = (p, q)
at_plain rows cols row (RowSource.Fresh x) p h = h

at_suits : (row : ℕ) (s t : RowSource) → SuitsIn s t → Suits (at_row row s) (at_row row t)
at_suits row (RowSource.Column c) (RowSource.Column d) h = tt
at_suits row (RowSource.Column c) (RowSource.Fresh y) h = tt
at_suits row (RowSource.Fresh x) (RowSource.Column d) h = tt
at_suits row (RowSource.Fresh x) (RowSource.Fresh y) h = h

both_suit : (b : Bool) (row r c : ℕ) (s t : RowSource) → SuitsIn s t → Suits (cond b (at_row row s) (From r c))
    (cond b (at_row row t) (From r (c + 1)))
both_suit true row r c s t h = at_suits row s t h
both_suit false row r c s t h = tt

-- one row after a map of its columns
module _ (rows cols row : ℕ) (cells : List Glyph) (one : ℕ → RowSource) (are : AreCells rows cols cells) (row_in : row < rows) where
  pub row_cells : ((c : ℕ) → c < cols → IsPlacedIn cols (one c)) → ((c : ℕ) → c + 1 < cols → SuitsIn (one c) (one (c + 1)))
      → AreCells rows cols (mapped_cells rows cols cells (in_row row one))
  row_cells placed suits =
      recast_cells rows cols rows cols cells (in_row row one) are
      (λ r c p q. either (IsPlaced rows cols) (eqb r row) (at_row row (one c)) (From r c)
      (λ h. at_placed rows cols row (one c) row_in (placed c q)) (λ h. (p, q)))
      (λ r c p q. both_suit (eqb r row) row r c (one c) (one (c + 1)) (suits c q))

  pub plain_row_cells : ((c : ℕ) → c < cols → IsPlainIn cols (one c)) → AreCells rows cols (mapped_cells rows cols cells (in_row row one))
  plain_row_cells plain =
      plain_cells rows cols rows cols cells (in_row row one) are
      (λ r c p q. either (IsPlain rows cols) (eqb r row) (at_row row (one c)) (From r c)
      (λ h. at_plain rows cols row (one c) row_in (plain c q)) (λ h. (p, q)))

pub inserted_plain : (cols col n c : ℕ) → c < cols → IsPlainIn cols (insertion_source col n c)
inserted_plain cols col n c q =
    either (IsPlainIn cols) (ltb c col) (RowSource.Column c) (cond (ltb c (col + n)) (RowSource.Fresh blank) (RowSource.Column (c - n)))
    (λ h. q)
    (λ h. either (IsPlainIn cols) (ltb c (col + n)) (RowSource.Fresh blank) (RowSource.Column (c - n)) (λ k. refl) (λ k. omega (arith, q)))

pub deleted_plain : (cols col n c : ℕ) → c < cols → IsPlainIn cols (deletion_source cols col n c)
deleted_plain cols col n c q =
    either (IsPlainIn cols) (ltb c col) (RowSource.Column c) (cond (ltb (c + n) cols) (RowSource.Column (c + n)) (RowSource.Fresh blank))
    (λ h. q)
    (λ h. either (IsPlainIn cols) (ltb (c + n) cols) (RowSource.Column (c + n)) (RowSource.Fresh blank) (λ k. ltb-true (c + n) cols k)
    (λ k. refl))

pub blanked_plain_in : (cols : ℕ) (b : Bool) (c : ℕ) → c < cols → IsPlainIn cols (cond b (RowSource.Fresh blank) (RowSource.Column c))
blanked_plain_in cols b c q = either (IsPlainIn cols) b (RowSource.Fresh blank) (RowSource.Column c) (λ h. refl) (λ h. q)

-- ---- a cell that is written

written_suits : (x : Glyph) (col c : ℕ) (a b d e : Bool) → eqb c col ≡ a → eqb (c + 1) col ≡ d
    → SuitsIn (cond a (RowSource.Fresh x) (cond b (RowSource.Fresh (right_of x)) (RowSource.Column c)))
    (cond d (RowSource.Fresh x) (cond e (RowSource.Fresh (right_of x)) (RowSource.Column (c + 1))))
written_suits x col c true b true e h k = absurd (omega (arith, eqb-true c col h, eqb-true (c + 1) col k))
written_suits x col c true b false true h k = λ w l. refl
written_suits x col c true b false false h k = tt
written_suits x col c false true true e h k = λ w l. absurd (false≢true w)
written_suits x col c false true false true h k = λ w l. absurd (false≢true w)
written_suits x col c false true false false h k = tt
written_suits x col c false false true e h k = tt
written_suits x col c false false false true h k = tt
written_suits x col c false false false false h k = tt

pub written_cells : (rows cols row col : ℕ) (cells : List Glyph) (x : Glyph) → AreCells rows cols cells → row < rows → IsShown x
    → AreCells rows cols (mapped_cells rows cols cells (in_row row (writing_source x col)))
written_cells rows cols row col cells x are row_in shown =
    row_cells rows cols row cells (writing_source x col) are row_in
    (λ c q.
    either (IsPlacedIn cols) (eqb c col) (RowSource.Fresh x)
    (cond (is_wide x && eqb c (col + 1)) (RowSource.Fresh (right_of x)) (RowSource.Column c))
    (λ h. shown)
    (λ h. either (IsPlacedIn cols) (is_wide x && eqb c (col + 1)) (RowSource.Fresh (right_of x)) (RowSource.Column c) (λ k. half_shown x shown)
    (λ k. q)))
    (λ c q. written_suits x col c (eqb c col) (is_wide x && eqb c (col + 1)) (eqb (c + 1) col)
    (is_wide x && eqb (c + 1) (col + 1)) refl refl)

-- ---- a code point that joins

text_of : (points : List ℕ) → is_cell_text points ≡ true → is_text points ≡ true
text_of [] h = refl
text_of (c ∷ cs) h = h

point_shown_by : (b : Bool) (c : ℕ) (x : Glyph) → is_cell_text (x.points ++ c ∷ []) ≡ b → IsScalar c → IsShown x
    → IsShown (cond b (record x { points = x.points ++ c ∷ [] }) x)
point_shown_by true c x e s h = record {
  text = text_of (x.points ++ c ∷ []) e;
  scalars = All-append IsScalar x.points (c ∷ []) h.scalars (one_scalar c s);
  style = h.style;
}
point_shown_by false c x e s h = h

point_shown : (c : ℕ) (x : Glyph) → IsScalar c → IsShown x → IsShown (with_point c x)
point_shown c x s h = point_shown_by (is_cell_text (x.points ++ c ∷ [])) c x refl s h

module _ (rows cols row col point : ℕ) (cells : List Glyph) (are : AreCells rows cols cells) (row_in : row < rows) (col_in : col < cols)
    (scalar : IsScalar point) where
  abbrev base : ℕ
  base = base_column cols cells row col

  base_by : (b : Bool) → is_right_half (cell_at cols cells row col) ≡ b → (cond b (col - 1) col < cols) ×
      (is_right_half (cell_at cols cells row (cond b (col - 1) col)) ≡ false)
  base_by true e = (omega (arith, col_in), wide_not_half (cell_at cols cells row (col - 1)) ((are.whole row row_in col col_in).half e).1)
  base_by false e = (col_in, e)

  base_is : (base < cols) × (is_right_half (cell_at cols cells row base) ≡ false)
  base_is = base_by (is_right_half (cell_at cols cells row col)) refl

  abbrev old_cell : Glyph
  old_cell = cell_at cols cells row base

  abbrev new_cells : List Glyph
  new_cells = set cells (row * cols + base) (with_point point old_cell)

  place_in : row * cols + base < length cells
  place_in = omega (arith, are.count, place_below rows cols row base row_in base_is.0)

  here : cell_at cols new_cells row base ≡ with_point point old_cell
  here = get_or-set_same cells (row * cols + base) (with_point point old_cell) blank place_in

  others : (r c : ℕ) → r < rows → c < cols → (r ≡ row → c ≡ base → ⊥) → cell_at cols new_cells r c ≡ cell_at cols cells r c
  others r c p q apart =
      get_or-set_other cells (row * cols + base) (r * cols + c) (with_point point old_cell) blank
      (λ e. let same = same_from_place r c row base cols q base_is.0 e in apart same.0 same.1)

  pub joined_cells : AreCells rows cols new_cells
  joined_cells = record {
    count = length-set cells (row * cols + base) (with_point point old_cell) ∙ are.count;
    whole = replaced_whole rows cols row base cells new_cells (with_point point old_cell) row_in base_is.0 here others are.whole base_is.1
        (with_point_like point old_cell base_is.1);
    shown = λ k.
        elim (cases_eq k (row * cols + base)) [
          | inl e ↦
              subst IsShown (sym (ap (λ j. get_or new_cells j blank) e ∙ here))
              (point_shown point old_cell scalar (are.shown (row * cols + base)))
          | inr ne ↦
              subst IsShown
              (sym (get_or-set_other cells (row * cols + base) k (with_point point old_cell) blank ne)) (are.shown k)
        ];
  }

-- ---- one cell everywhere

pub same_cells : (rows cols : ℕ) (x : Glyph) → is_wide x ≡ false → is_right_half x ≡ false → IsShown x → AreCells rows cols
    (replicate (rows * cols) x)
same_cells rows cols x w l shown =
    let all = replicate (rows * cols) x in
    let at : (r c : ℕ) → r < rows → c < cols → cell_at cols all r c ≡ x =
    λ r c p q. get_or-replicate (rows * cols) (r * cols + c) x blank (place_below rows cols r c p q) in
    record {
      count = length-replicate (rows * cols) x;
      whole = λ r p c q. record {
        wide = λ h. absurd (false≢true (sym w ∙ sym (ap is_wide (at r c p q)) ∙ h));
        half = λ h. absurd (false≢true (sym l ∙ sym (ap is_right_half (at r c p q)) ∙ h));
      };
      shown = λ k. elim (cases_lt k (rows * cols)) [
        | inl low ↦ subst IsShown (sym (get_or-replicate (rows * cols) k x blank low)) shown
        | inr high ↦ subst IsShown
            (sym (get_or_past all k blank (omega (arith, length-replicate (rows * cols) x, high)))) blank_shown
      ];
    }

pub blank_cells : (rows cols : ℕ) → AreCells rows cols (replicate (rows * cols) blank)
blank_cells rows cols = same_cells rows cols blank is_wide-blank refl blank_shown

-- ---- another size

pub sized_cells : (rows cols off : ℕ) (v : Rows) → AreCells v.rows v.cols v.cells → AreCells rows cols (sized_rows rows cols off v).cells
sized_cells rows cols off v are =
    plain_cells v.rows v.cols rows cols v.cells (kept_places v.rows v.cols off) are
    (λ r c p q.
    either (IsPlain v.rows v.cols) (ltb (r + off) v.rows && ltb c v.cols) (From (r + off) c) (Fresh blank)
    (λ h. (
      ltb-true (r + off) v.rows (and_left (ltb (r + off) v.rows) (ltb c v.cols) h),
      ltb-true c v.cols
          (and_right (ltb (r + off) v.rows) (ltb c v.cols) h),
    ))
    (λ h. refl))
