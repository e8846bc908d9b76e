-- No row is wider than its columns.
use Rattle.std.proofs.Common.{◌≡◌, ◌≤◌, ◌<◌, ℕ, zero, suc, ◌-◌, Bool, true, false, inl, inr, List, [], ◌∷◌, ◌++◌, length, take, drop, refl, ap, ◌∙◌, arith, length-drop}
use Rattle.std.specs.Prelude.{if◌then◌else◌, nat_lt}
use Rattle.std.proofs.lemmas.Bool.{false≢true}
use Rattle.std.proofs.lemmas.Bool.Decides.{nat_tests}
use Rattle.std.proofs.lemmas.List.{length-take-le}
use Rattle.roam_cells.specs.Glyph.{Glyph, is_wide}
use Rattle.roam_cells.specs.Place.{glyph_at}
use Rattle.roam_rewrap.specs.Lines.{TextRow, lines_of}
use Rattle.roam_rewrap.specs.Wrapping.{AreFitting, BeginsWide, IsFull, RowsFit, fitting, rows_within, rows_of_line, rows_of_lines, rewrapped}

lt-yes : (a b : ℕ) → nat_lt a b ≡ true → a < b
lt-yes a b h = grind (arith, nat_tests)

lt-no : (a b : ℕ) → nat_lt a b ≡ false → b ≤ a
lt-no a b h = grind (arith, nat_tests)

-- the first cell of a line's first row is the line's
first-taken : (n : ℕ) (line : List Glyph) → 0 < n → glyph_at (take n line) 0 ≡ glyph_at line 0
first-taken zero line some = absurd (omega (arith, some))
first-taken (suc n) [] some = refl
first-taken (suc n) (x ∷ line) some = refl

first-dropped : (n : ℕ) (line : List Glyph) → glyph_at (drop n line) 0 ≡ glyph_at line n
first-dropped zero line = refl
first-dropped (suc n) [] = refl
first-dropped (suc n) (x ∷ line) = first-dropped n line

fitting-some : (cols : ℕ) (line : List Glyph) → 2 ≤ cols → 0 < fitting cols line
unfolding fitting
fitting-some cols line more = by (is_wide (glyph_at line (cols - 1)))
  where
    by : (b : Bool) → 0 < (if b then cols - 1 else cols)
    by true = omega (arith, more)
    by false = omega (arith, more)

fitting-few : (cols : ℕ) (line : List Glyph) → fitting cols line ≤ cols
unfolding fitting
fitting-few cols line = by (is_wide (glyph_at line (cols - 1)))
  where
    by : (b : Bool) → (if b then cols - 1 else cols) ≤ cols
    by true = omega arith
    by false = omega arith

begins-wide : (fuel cols : ℕ) (line : List Glyph) (rest : List TextRow) → 2 ≤ cols → is_wide (glyph_at line 0) ≡ true
    → BeginsWide (rows_within fuel cols line ++ rest)
begins-wide zero cols line rest more wide = wide
begins-wide (suc fuel) cols line rest more wide = by (nat_lt cols (length line))
  where
    n : ℕ
    n = fitting cols line

    by : (b : Bool) → BeginsWide ((if b then record { goes_on = true; cells = take n line } ∷ rows_within fuel cols (drop n line)
        else record { goes_on = false; cells = line } ∷ []) ++ rest)
    by true = ap is_wide (first-taken n line (fitting-some cols line more)) ∙ wide
    by false = wide

-- the first row of a longer line is full
full-row : (fuel cols : ℕ) (line : List Glyph) (rest : List TextRow) → 2 ≤ cols → cols < length line
    → IsFull cols (record { goes_on = true; cells = take (fitting cols line) line }) (rows_within fuel cols (drop (fitting cols line) line) ++ rest)
unfolding fitting
full-row fuel cols line rest more long = by (is_wide (glyph_at line (cols - 1))) refl
  where
    by : (b : Bool) → is_wide (glyph_at line (cols - 1)) ≡ b
        → IsFull cols (record { goes_on = true; cells = take (if b then cols - 1 else cols) line })
        (rows_within fuel cols (drop (if b then cols - 1 else cols) line) ++ rest)
    by true wide =
        let size = length-take-le (cols - 1) line (omega (arith, long)) in
        inr (omega (arith, size, more), begins-wide fuel cols (drop (cols - 1) line) rest more (ap is_wide (first-dropped (cols - 1) line) ∙ wide))
    by false wide = inl (length-take-le cols line (omega (arith, long)))

line-fits : (fuel cols : ℕ) (line : List Glyph) (rest : List TextRow) → 2 ≤ cols → length line ≤ fuel → AreFitting cols rest
    → AreFitting cols (rows_within fuel cols line ++ rest)
line-fits zero cols line rest more few fits = (omega (arith, few), (λ e. absurd (false≢true e)), fits)
line-fits (suc fuel) cols line rest more few fits = by (λ l less. line-fits fuel cols l rest more less fits) (nat_lt cols (length line)) refl
  where
    n : ℕ
    n = fitting cols line

    by : ((l : List Glyph) → length l ≤ fuel → AreFitting cols (rows_within fuel cols l ++ rest)) → (b : Bool) → nat_lt cols (length line) ≡ b
        → AreFitting cols ((if b then record { goes_on = true; cells = take n line } ∷ rows_within fuel cols (drop n line)
        else record { goes_on = false; cells = line } ∷ []) ++ rest)
    by again true is =
        let long = lt-yes cols (length line) is in
        let low = fitting-few cols line in
        let some = fitting-some cols line more in
        let size = length-take-le n line (omega (arith, long, low)) in
        let left = length-drop n line in (
          omega (arith, size, low),
          (λ _. full-row fuel cols line rest more long),
          again (drop n line) (omega (arith, few, left, some, long)),
        )
    by again false is = (lt-no cols (length line) is, (λ e. absurd (false≢true e)), fits)

lines-fit : (cols : ℕ) (lines : List (List Glyph)) → 2 ≤ cols → AreFitting cols (rows_of_lines cols lines)
unfolding rows_of_line
lines-fit cols [] more = tt
lines-fit cols (line ∷ lines) more =
    line-fits (length line) cols line (rows_of_lines cols lines) more (omega arith) (lines-fit cols lines more)

pub rows_fit : RowsFit
unfolding rewrapped
rows_fit cols rows more = lines-fit cols (lines_of rows) more
