-- The cursor stays at its cell.
use Rattle.std.proofs.Common.{◌≡◌, ◌≤◌, ℕ, zero, suc, ◌+◌, ◌-◌, Bool, true, false, inl, inr, List, [], ◌∷◌, ◌++◌, length, take, drop, refl, sym, ap, ◌∙◌, arith}
use Rattle.std.specs.Prelude.{◌==◌, ◌&&◌, not, nat_le, nat_lt, if◌then◌else◌}
use Rattle.std.proofs.lemmas.Bool.{false≢true, and_parts, leb-true, eqb-true, eq-eqb, cases_lt}
use Rattle.roam_cells.specs.Glyph.{Glyph}
use Rattle.roam_rewrap.specs.Lines.{TextRow, lines_from, lines_of}
use Rattle.roam_rewrap.specs.Wrapping.{fitting, rows_within, rows_of_line, rows_of_lines, rewrapped}
use Rattle.roam_rewrap.specs.Windows.{CursorStays, below, is_here, place_of, position_after, position_at, position_behind, position_from, start_position}
use Rattle.roam_rewrap.specs.declared.places.ScreenPosition.{ScreenPosition}
use Rattle.roam_rewrap.specs.declared.places.TextPosition.{TextPosition}

abbrev position : ℕ → ℕ → TextPosition
position line cell = record { line = line; cell = cell }

same-position : {a b c d : ℕ} → a ≡ b → c ≡ d → position a c ≡ position b d
same-position p q i = position (p i) (q i)

some-line : (n : ℕ) → (n == 0) ≡ false → 1 ≤ n
some-line n e = elim (cases_lt 0 n) [
  | inl k ↦ omega (arith, k)
  | inr k ↦ absurd (false≢true (sym e ∙ eq-eqb n 0 (omega (arith, k))))
]

either : (b : Bool) (x y : ℕ) → x ≡ y → (if b then x else y) ≡ y
either true x y e = e
either false x y e = refl

not-true : (b : Bool) → not b ≡ false → b ≡ true
not-true true e = refl
not-true false e = absurd (false≢true (sym e))

-- how many rows end their line
abbrev ends : List TextRow → ℕ
ends [] = 0
ends (row ∷ rows) = if row.goes_on then ends rows else suc (ends rows)

abbrev added : TextPosition → ℕ → TextPosition
added s col = position s.line (s.cell + col)

-- a position behind another, both from the start of one row
abbrev then_at : TextPosition → TextPosition → TextPosition
then_at from s = position (from.line + s.line) (if s.line == 0 then from.cell + s.cell else s.cell)

first-line : (from s : TextPosition) → s.line ≡ 0 → position from.line (from.cell + s.cell) ≡ then_at from s
first-line from s e =
    same-position (omega (arith, e)) (sym (ap (λ b. if b then from.cell + s.cell else s.cell) (eq-eqb s.line 0 e)))

-- ---- behind a row

module _ (from s : TextPosition) (len : ℕ) where
  abbrev after : Bool → TextPosition
  after g = if g then position from.line (from.cell + len) else position (from.line + 1) 0

  abbrev behind : Bool → Bool → TextPosition
  behind z g = if z then position 0 (s.cell - len) else if g then s else position (s.line - 1) s.cell

  steps : (z g : Bool) → (s.line == 0) ≡ z → (z && not (g && nat_le len s.cell)) ≡ false → then_at (after g) (behind z g) ≡ then_at from s
  steps true true e h =
      let le = leb-true len s.cell (not-true (nat_le len s.cell) h) in
      let zero-line = eqb-true s.line 0 e in
      same-position (omega (arith, zero-line)) (omega (arith, le)) ∙ first-line from s zero-line
  steps true false e h = absurd (false≢true (sym h))
  steps false true e h =
      same-position refl (ap (λ b. if b then from.cell + len + s.cell else s.cell) e ∙ sym (ap (λ b. if b then from.cell + s.cell else s.cell) e))
  steps false false e h =
      let some = some-line s.line e in
      same-position (omega (arith, some))
      (either (s.line - 1 == 0) (0 + s.cell) s.cell (omega arith) ∙ sym (ap (λ b. if b then from.cell + s.cell else s.cell) e))

  fewer : (z g : Bool) (n : ℕ) → (s.line == 0) ≡ z → s.line ≤ (if g then n else suc n) → (behind z g).line ≤ n
  fewer true g n e h = omega arith
  fewer false true n e h = h
  fewer false false n e h = omega (arith, h)

-- ---- a position is at its place if its line is there

abbrev place-or : Bool → TextPosition → TextRow → List TextRow → ScreenPosition
place-or b s row rows = if b then record { row = 0; col = s.cell } else below (place_of (position_behind s row) rows)

there-by : (from s : TextPosition) (row : TextRow) (rows : List TextRow) (b : Bool) → is_here s row ≡ b
    → added (position_from (position_after from row) (place_of (position_behind s row) rows).row rows) (place_of (position_behind s row) rows).col
    ≡ then_at (position_after from row) (position_behind s row)
    → added (position_from from (place-or b s row rows).row (row ∷ rows)) (place-or b s row rows).col ≡ then_at from s
there-by from s row rows true h e =
    first-line from s (eqb-true s.line 0 (and_parts (s.line == 0) (not (row.goes_on && nat_le (length row.cells) s.cell)) h).0)
there-by from s row rows false h e =
    let p = place_of (position_behind s row) rows in
    let one : p.row + 1 ≡ suc p.row = omega arith in
    ap (λ n. added (position_from from n (row ∷ rows)) p.col) one ∙ e ∙ steps from s (length row.cells) (s.line == 0) row.goes_on refl h

there : (rows : List TextRow) (from s : TextPosition) → s.line ≤ ends rows
    → added (position_from from (place_of s rows).row rows) (place_of s rows).col ≡ then_at from s
there [] from s few = first-line from s (omega (arith, few))
there (row ∷ rows) from s few =
    there-by from s row rows (is_here s row) refl
    (there rows (position_after from row) (position_behind s row) (fewer from s (length row.cells) (s.line == 0) row.goes_on (ends rows) refl few))

-- ---- at another width there are as many lines

line-after : (from : TextPosition) (row : TextRow) (n : ℕ) → (g : Bool) → row.goes_on ≡ g
    → (if g then position from.line (from.cell + length row.cells) else position (from.line + 1) 0).line + n ≤ from.line + (if g then n else suc n)
line-after from row n true e = omega arith
line-after from row n false e = omega arith

line-in : (r : ℕ) (rows : List TextRow) (from : TextPosition) → (position_from from r rows).line ≤ from.line + ends rows
line-in zero rows from = omega arith
line-in (suc r) [] from = omega arith
line-in (suc r) (row ∷ rows) from =
    let ih = line-in r rows (position_after from row) in
    let step = line-after from row (ends rows) row.goes_on refl in
    omega (arith, ih, step)

ends-by : (begun : List Glyph) (row : TextRow) (rows : List TextRow) (g : Bool)
    → ends rows ≤ length (lines_from (begun ++ row.cells) rows) → ends rows ≤ length (lines_from [] rows)
    → (if g then ends rows else suc (ends rows))
    ≤ length (if g then lines_from (begun ++ row.cells) rows else (begun ++ row.cells) ∷ lines_from [] rows)
ends-by begun row rows true h k = h
ends-by begun row rows false h k = omega (arith, k)

ends-lines : (rows : List TextRow) (begun : List Glyph) → ends rows ≤ length (lines_from begun rows)
ends-lines [] [] = omega arith
ends-lines [] (x ∷ xs) = omega arith
ends-lines (row ∷ rows) [] = ends-by [] row rows row.goes_on (ends-lines rows ([] ++ row.cells)) (ends-lines rows [])
ends-lines (row ∷ rows) (x ∷ xs) = ends-by (x ∷ xs) row rows row.goes_on (ends-lines rows ((x ∷ xs) ++ row.cells)) (ends-lines rows [])

one-end-by : (others rest : List TextRow) (front line : List Glyph) (b : Bool) → ends (others ++ rest) ≡ suc (ends rest)
    → ends ((if b then record { goes_on = true; cells = front } ∷ others else record { goes_on = false; cells = line } ∷ []) ++ rest) ≡ suc (ends rest)
one-end-by others rest front line true e = e
one-end-by others rest front line false e = refl

one-end : (fuel cols : ℕ) (line : List Glyph) (rest : List TextRow) → ends (rows_within fuel cols line ++ rest) ≡ suc (ends rest)
one-end zero cols line rest = refl
one-end (suc fuel) cols line rest =
    let n = fitting cols line in
    one-end-by (rows_within fuel cols (drop n line)) rest (take n line) line (nat_lt cols (length line)) (one-end fuel cols (drop n line) rest)

ends-rows : (cols : ℕ) (lines : List (List Glyph)) → ends (rows_of_lines cols lines) ≡ length lines
unfolding rows_of_line
ends-rows cols [] = refl
ends-rows cols (line ∷ lines) =
    one-end (length line) cols line (rows_of_lines cols lines) ∙ ap suc (ends-rows cols lines)

pub cursor_stays : CursorStays
unfolding position_at rewrapped
cursor_stays cols text cursor =
    let lines = lines_of text in
    let rows = rows_of_lines cols lines in
    let s = position_at text cursor in
    let low = line-in cursor.row text start_position in
    let as_many = ends-lines text [] in
    let made = ends-rows cols lines in
    there rows start_position s (omega (arith, low, as_many, made))
    ∙ same-position (omega arith) (either (s.line == 0) (0 + s.cell) s.cell (omega arith))
