-- The parts that a written cell leaves.
use Rattle.std.proofs.Common.{◌≡◌, ℕ, ◌+◌, ◌-◌, ◌<◌, Bool, true, false, ◌&&◌, cond, eqb, ltb, inl, inr, List, [], ◌∷◌, take, refl, sym, ap, ◌∙◌, arith}
use Rattle.std.proofs.lemmas.Bool.{false≢true, cases_eq, lt-ltb}
use Rattle.std.proofs.lemmas.Grind.{common_steps}
use Rattle.roam_cells.specs.Glyph.{Glyph, is_wide, is_wide_text, is_right_half, right_of}
use Rattle.roam_cells.specs.Place.{cell_at}
use Rattle.roam_rows.specs.Row.{RowSource, Column, Fresh as Fresh_column}
use Rattle.roam_rows.specs.Places.{Source, From, Fresh, at_row, in_row, are_joined, moved_at}
use Rattle.roam_rows.proofs.Mending.{mended_same}
use Rattle.roam_rows.proofs.Lifting.{in_here, in_other}
use Rattle.roam_rows.proofs.Vertical.{shown_by}

-- a cell with its first code point alone
abbrev pub first_of : Glyph → Glyph
first_of x = record x { points = take 1 x.points }

first_text : (ps : List ℕ) → is_wide_text (take 1 ps) ≡ is_wide_text ps
first_text [] = refl
first_text (c ∷ cs) = refl

pub first_wide : (x : Glyph) → is_wide (first_of x) ≡ is_wide x
first_wide x = first_text x.points

-- a cell that is written in a column, with its width as a test
abbrev pub column_by : Bool → Glyph → ℕ → ℕ → RowSource
column_by w x col c = cond (eqb c col) (Fresh_column x) (cond (w && eqb c (col + 1)) (Fresh_column (right_of x)) (Column c))

abbrev pub by : Bool → Glyph → ℕ → ℕ → ℕ → ℕ → Source
by w x row col = in_row row (column_by w x col)

column_here : (w : Bool) (x : Glyph) (col : ℕ) → column_by w x col col ≡ Fresh_column x
column_here w x col = grind (arith, common_steps)

column_right : (x : Glyph) (col : ℕ) → column_by true x col (col + 1) ≡ Fresh_column (right_of x)
column_right x col = grind (arith, common_steps)

column_other : (w : Bool) (x : Glyph) (col c : ℕ) → (c ≡ col → ⊥) → (w ≡ true → c ≡ col + 1 → ⊥) → column_by w x col c ≡ Column c
column_other false x col c h k = grind (arith, common_steps)
column_other true x col c h k = grind (arith, common_steps)

by_here : (w : Bool) (x : Glyph) (row col : ℕ) → by w x row col row col ≡ Fresh x
by_here w x row col = in_here row col (column_by w x col) ∙ ap (at_row row) (column_here w x col)

by_right : (x : Glyph) (row col : ℕ) → by true x row col row (col + 1) ≡ Fresh (right_of x)
by_right x row col = in_here row (col + 1) (column_by true x col) ∙ ap (at_row row) (column_right x col)

by_other : (w : Bool) (x : Glyph) (row col r c : ℕ) → (r ≡ row → c ≡ col → ⊥) → (w ≡ true → r ≡ row → c ≡ col + 1 → ⊥) → by w x row col r c ≡ From r c
by_other w x row col r c h k =
    elim (cases_eq r row) [
      | inr n ↦ in_other row r c (column_by w x col) n
      | inl e ↦
          ap (λ q. by w x row col q c) e ∙ in_here row c (column_by w x col)
          ∙ ap (at_row row) (column_other w x col c (h e) (λ t. k t e)) ∙ ap (λ q. From q c) (sym e)
    ]

means : (b : Bool) → b ≡ true → (b && true) ≡ true
means true h = refl
means false h = h

first_joined : (w : Bool) (cols col : ℕ) → w ≡ true → col + 1 < cols → (ltb (col + 1) cols && (w && true)) ≡ true
first_joined w cols col e h = ap (λ b. ltb (col + 1) cols && (b && true)) e ∙ means (ltb (col + 1) cols) (lt-ltb (col + 1) cols h)

second_joined : (w : Bool) (col : ℕ) → w ≡ true → (ltb 0 (col + 1) && (w && true)) ≡ true
second_joined w col e = ap (λ b. ltb 0 (col + 1) && (b && true)) e ∙ means (ltb 0 (col + 1)) (lt-ltb 0 (col + 1) (omega arith))

next_joined : (cols r c : ℕ) → c + 1 < cols → (ltb (c + 1) cols && are_joined (From r c) (From r (c + 1))) ≡ true
next_joined cols r c h = grind (arith, common_steps)

next_is : (s : Source) (cols r c : ℕ) → c + 1 < cols → s ≡ From r (c + 1) → (ltb (c + 1) cols && are_joined (From r c) s) ≡ true
next_is s cols r c h e = ap (λ s. ltb (c + 1) cols && are_joined (From r c) s) e ∙ next_joined cols r c h

back_joined : (r c : ℕ) → 0 < c → (ltb 0 c && are_joined (From r (c - 1)) (From r c)) ≡ true
back_joined r c h = grind (arith, common_steps)

back_is : (s : Source) (r c : ℕ) → 0 < c → s ≡ From r (c - 1) → (ltb 0 c && are_joined s (From r c)) ≡ true
back_is s r c h e = ap (λ s. ltb 0 c && are_joined s (From r c)) e ∙ back_joined r c h

-- a written cell is at its place
pub written_hit : (w : Bool) (x : Glyph) (cols : ℕ) (cells : List Glyph) (row col : ℕ) → is_right_half x ≡ false → is_wide x ≡ w → (w ≡ true → col + 1 < cols)
    → moved_at cols cells (by w x row col) row col ≡ x
written_hit false x cols cells row col text wide fits =
    shown_by cols cells (by false x row col) row col (Fresh x) (by false x row col row (col + 1)) (by false x row col row (col - 1)) (by_here false x row col) refl refl
    ∙ mended_same x _ _ (λ h. absurd (false≢true (sym wide ∙ h))) (λ h. absurd (false≢true (sym text ∙ h)))
written_hit true x cols cells row col text wide fits =
    shown_by cols cells (by true x row col) row col (Fresh x) (Fresh (right_of x)) (by true x row col row (col - 1)) (by_here true x row col) (by_right x row col) refl
    ∙ mended_same x _ _ (λ h. first_joined (is_wide x) cols col wide (fits refl)) (λ h. absurd (false≢true (sym text ∙ h)))

-- and its right half beside it
pub written_half : (x : Glyph) (cols : ℕ) (cells : List Glyph) (row col : ℕ) → is_wide x ≡ true → moved_at cols cells (by true x row col) row (col + 1) ≡ right_of x
written_half x cols cells row col wide =
    let back : by true x row col row (col + 1 - 1) ≡ Fresh x = ap (λ k. by true x row col row k) (omega arith) ∙ by_here true x row col in
    shown_by cols cells (by true x row col) row (col + 1) (Fresh (right_of x)) (by true x row col row (col + 1 + 1)) (Fresh x) (by_right x row col) refl back
    ∙ mended_same (right_of x) (ltb (col + 1 + 1) cols && are_joined (Fresh (right_of x)) (by true x row col row (col + 1 + 1))) (ltb 0 (col + 1) && (is_wide x && true))
    (λ h. absurd (false≢true h)) (λ h. second_joined (is_wide x) col wide)

-- another place stays, unless it has a half that the cell cuts
pub written_other : (w : Bool) (x : Glyph) (cols : ℕ) (cells : List Glyph) (row col r c : ℕ)
    → (r ≡ row → c ≡ col → ⊥) → (w ≡ true → r ≡ row → c ≡ col + 1 → ⊥)
    → (is_wide (cell_at cols cells r c) ≡ true → (c + 1 < cols) × (r ≡ row → c + 1 ≡ col → ⊥))
    → (is_right_half (cell_at cols cells r c) ≡ true → (0 < c) × (r ≡ row → c ≡ col + 1 → ⊥) × (w ≡ true → r ≡ row → c ≡ col + 2 → ⊥))
    → moved_at cols cells (by w x row col) r c ≡ cell_at cols cells r c
written_other w x cols cells row col r c here right wide half =
    shown_by cols cells (by w x row col) r c (From r c) (by w x row col r (c + 1)) (by w x row col r (c - 1)) (by_other w x row col r c here right) refl refl
    ∙ mended_same (cell_at cols cells r c) _ _
    (λ h. next_is (by w x row col r (c + 1)) cols r c (wide h).0 (by_other w x row col r (c + 1) (wide h).1 (λ t p q. here p (omega (arith, q)))))
    (λ h. let lo = (half h).0 in back_is (by w x row col r (c - 1)) r c lo
    (by_other w x row col r (c - 1) (λ p q. (half h).1 p (omega (arith, q, lo))) (λ t p q. (half h).2 t p (omega (arith, q, lo)))))
