-- The rows that are counted are there at the new width.
use Rattle.std.proofs.Common.{◌≡◌, ◌≤◌, ◌<◌, ℕ, zero, suc, ◌+◌, ◌-◌, ◌*◌, Bool, true, false, inl, inr, List, [], ◌∷◌, ◌++◌, length, take, drop, refl, ap, arith, length-append, length-drop}
use Rattle.std.specs.Prelude.{◌/◌, ◌^◌, min, if◌then◌else◌, nat_lt}
use Rattle.std.proofs.Math.Nat.{div-lt_iff_lt-mul}
use Rattle.std.proofs.lemmas.Bool.Decides.{nat_tests}
use Rattle.std.proofs.lemmas.Grind.{common_steps}
use Rattle.roam_cells.specs.Glyph.{Glyph, is_wide}
use Rattle.roam_cells.specs.Place.{glyph_at}
use Rattle.roam_rewrap.specs.Lines.{TextRow, lines_from}
use Rattle.roam_rewrap.specs.Windows.{ReflowView}
use Rattle.roam_rewrap.specs.Wrapping.{fitting, rows_within, rows_of_line, rows_of_lines, rewrapped}
use Rattle.roam_scrollback.specs.Rewraps.{EndsInText, RewrapFills, head_cells, rows_behind, rows_of, text_from}

lt-yes : (a b : ℕ) → nat_lt a b ≡ true → a < b
lt-yes a b h = grind (arith, nat_tests)

lt-no : (a b : ℕ) → nat_lt a b ≡ false → b ≤ a
lt-no a b h = grind (arith, nat_tests)

fitting-some : (cols : ℕ) (line : List Glyph) → 2 ≤ cols → 0 < fitting cols line
unfolding fitting
fitting-some cols line more = by (is_wide (glyph_at line (cols - 1)))
  where
    by : (b : Bool) → 0 < (if b then cols - 1 else cols)
    by true = omega (arith, more)
    by false = omega (arith, more)

fitting-few : (cols : ℕ) (line : List Glyph) → fitting cols line ≤ cols
unfolding fitting
fitting-few cols line = by (is_wide (glyph_at line (cols - 1)))
  where
    by : (b : Bool) → (if b then cols - 1 else cols) ≤ cols
    by true = omega arith
    by false = omega arith

-- ---- the rows of a line

more-columns : (n cols : ℕ) → (n + 1) * cols ≡ n * cols + cols
more-columns n cols = grind (arith, common_steps)

line-held : (fuel cols : ℕ) (line : List Glyph) → 2 ≤ cols → length line ≤ fuel
    → (length line ≤ length (rows_within fuel cols line) * cols) × (0 < length (rows_within fuel cols line))
line-held zero cols line more few = (omega (arith, few, more-columns 0 cols), omega arith)
line-held (suc fuel) cols line more few = by (λ l less. line-held fuel cols l more less) (nat_lt cols (length line)) refl
  where
    n : ℕ
    n = fitting cols line

    by : ((l : List Glyph) → length l ≤ fuel → (length l ≤ length (rows_within fuel cols l) * cols) × (0 < length (rows_within fuel cols l)))
        → (b : Bool) → nat_lt cols (length line) ≡ b
        → (length line ≤ length (if b then record { goes_on = true; cells = take n line } ∷ rows_within fuel cols (drop n line)
        else record { goes_on = false; cells = line } ∷ []) * cols)
        × (0 < length (if b then record { goes_on = true; cells = take n line } ∷ rows_within fuel cols (drop n line)
        else record { goes_on = false; cells = line } ∷ []))
    by again true is =
        let long = lt-yes cols (length line) is in
        let low = fitting-few cols line in
        let some = fitting-some cols line more in
        let left = length-drop n line in
        let rest = again (drop n line) (omega (arith, few, left, some, long)) in (
          omega (arith, more-columns (length (rows_within fuel cols (drop n line))) cols, rest.0, left, low),
          omega arith,
        )
    by again false is = (omega (arith, more-columns 0 cols, lt-no cols (length line) is), omega arith)

-- a line takes as many rows as are counted, or more
line-enough : (cols : ℕ) (line : List Glyph) → 2 ≤ cols → rows_of (length line) cols ≤ length (rows_of_line cols line)
unfolding rows_of_line
line-enough cols line more =
    let is = line-held (length line) cols line more (omega arith) in
    let n = length (rows_within (length line) cols line) in
    let low : min (length line + (cols - 1)) (2 ^ 64 - 1) / cols < n + 1 =
    (div-lt_iff_lt-mul (omega (arith, more))).1 (omega (arith, is.0, more-columns n cols, more)) in
    omega (arith, low, is.1)

-- ---- the rows of lines

lines-enough : (cols : ℕ) (line : List Glyph) (lines : List (List Glyph)) → 2 ≤ cols
    → rows_of (length line) cols + length (rows_of_lines cols lines) ≤ length (rows_of_lines cols (line ∷ lines))
lines-enough cols line lines more =
    omega (arith, line-enough cols line more, length-append (rows_of_line cols line) (rows_of_lines cols lines))

last-line : (line : List Glyph) → 0 < length line → lines_from line [] ≡ line ∷ []
last-line [] some = absurd (omega (arith, some))
last-line (x ∷ line) some = refl

nothing-before : (n : ℕ) → length {A = Glyph} [] + n ≡ n
nothing-before n = omega arith

text-enough : (cols : ℕ) (begun : List Glyph) (text : List TextRow) → 2 ≤ cols → EndsInText text
    → rows_of (length begun + head_cells text) cols + rows_behind cols text ≤ length (rows_of_lines cols (lines_from begun text))
text-enough cols begun [] more ends = absurd ends
text-enough cols begun (row ∷ []) more ends = by row.goes_on refl
  where
    line : List Glyph
    line = begun ++ row.cells

    by : (b : Bool) → row.goes_on ≡ b
        → rows_of (length begun + (length row.cells + (if b then 0 else 0))) cols + 0
        ≤ length (rows_of_lines cols (if b then lines_from line [] else line ∷ []))
    by true is =
        let size = length-append begun row.cells in
        let cells : length begun + (length row.cells + 0) ≡ length line = omega (arith, size) in
        let same = ap (λ (k : ℕ). rows_of k cols) cells in
        let last = ap (λ (l : List (List Glyph)). length (rows_of_lines cols l)) (last-line line (omega (arith, size, ends is))) in
        omega (arith, same, last, lines-enough cols line [] more)
    by false is =
        let size = length-append begun row.cells in
        let cells : length begun + (length row.cells + 0) ≡ length line = omega (arith, size) in
        let same = ap (λ (k : ℕ). rows_of k cols) cells in
        omega (arith, same, lines-enough cols line [] more)
text-enough cols begun (row ∷ next ∷ rest) more ends = by (λ begun. text-enough cols begun (next ∷ rest) more ends) row.goes_on
  where
    line : List Glyph
    line = begun ++ row.cells

    head : ℕ
    head = head_cells (next ∷ rest)

    by : ((begun : List Glyph) → rows_of (length begun + head) cols + rows_behind cols (next ∷ rest)
        ≤ length (rows_of_lines cols (lines_from begun (next ∷ rest))))
        → (b : Bool)
        → rows_of (length begun + (length row.cells + (if b then head else 0))) cols
        + ((if b then 0 else rows_of head cols) + rows_behind cols (next ∷ rest))
        ≤ length (rows_of_lines cols (if b then lines_from line (next ∷ rest) else line ∷ lines_from [] (next ∷ rest)))
    by again true =
        let size = length-append begun row.cells in
        let cells : length begun + (length row.cells + head) ≡ length line + head = omega (arith, size) in
        let same = ap (λ (k : ℕ). rows_of k cols) cells in
        omega (arith, same, again line)
    by again false =
        let size = length-append begun row.cells in
        let cells : length begun + (length row.cells + 0) ≡ length line = omega (arith, size) in
        let same = ap (λ (k : ℕ). rows_of k cols) cells in
        let none = ap (λ (k : ℕ). rows_of k cols) (nothing-before head) in
        omega (arith, same, none, again [], lines-enough cols line (lines_from [] (next ∷ rest)) more)

pub rewrap_fills : RewrapFills
unfolding rewrapped
rewrap_fills l wraps kept rows cols first back reflow text p high some more ends =
    elim ((p.full high).fills) [
      | inl none ↦ absurd (omega (arith, none, some))
      | inr enough ↦
          let all = text_from first p.height kept l wraps in
          let made = ap (λ (r : ReflowView). length r.rows) p.is in
          let none = ap (λ (k : ℕ). rows_of k cols) (nothing-before (head_cells all)) in
          omega (arith, enough, made, none, text-enough cols [] all more ends)
    ]
