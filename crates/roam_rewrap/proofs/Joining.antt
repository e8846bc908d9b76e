-- Rows at a width have the lines that they were made of.
use Rattle.std.proofs.Common.{◌≡◌, ℕ, zero, suc, Bool, true, false, List, [], ◌∷◌, ◌++◌, length, take, drop, refl, ap, ◌∙◌, append_assoc}
use Rattle.std.proofs.lemmas.List.{take-append-drop}
use Rattle.std.specs.Prelude.{if◌then◌else◌, nat_lt}
use Rattle.roam_cells.specs.Glyph.{Glyph}
use Rattle.roam_rewrap.specs.Lines.{TextRow, lines_from, lines_of}
use Rattle.roam_rewrap.specs.Wrapping.{fitting, rows_within, rows_of_line, rows_of_lines, rewrapped, LinesStay}

-- a row that goes on comes before the others of its line
going : (n : ℕ) (begun line : List Glyph) (rest others : List TextRow) (b : Bool)
    → lines_from (begun ++ take n line) (others ++ rest) ≡ ((begun ++ take n line) ++ drop n line) ∷ lines_from [] rest
    → lines_from begun ((if b then record { goes_on = true; cells = take n line } ∷ others else record { goes_on = false; cells = line } ∷ []) ++ rest)
    ≡ (begun ++ line) ∷ lines_from [] rest
going n begun line rest others true e =
    e ∙ ap (λ l. l ∷ lines_from [] rest) (append_assoc begun (take n line) (drop n line) ∙ ap (λ l. begun ++ l) (take-append-drop n line))
going n begun line rest others false e = refl

-- the rows of a line end it, whatever of it comes before them
line-back : (fuel cols : ℕ) (begun line : List Glyph) (rest : List TextRow)
    → lines_from begun (rows_within fuel cols line ++ rest) ≡ (begun ++ line) ∷ lines_from [] rest
line-back zero cols begun line rest = refl
line-back (suc fuel) cols begun line rest =
    let n = fitting cols line in
    going n begun line rest (rows_within fuel cols (drop n line)) (nat_lt cols (length line))
    (line-back fuel cols (begun ++ take n line) (drop n line) rest)

lines-back : (cols : ℕ) (lines : List (List Glyph)) → lines_of (rows_of_lines cols lines) ≡ lines
unfolding rows_of_line
lines-back cols [] = refl
lines-back cols (line ∷ lines) =
    line-back (length line) cols [] line (rows_of_lines cols lines) ∙ ap (λ l. line ∷ l) (lines-back cols lines)

pub lines_stay : LinesStay
unfolding rewrapped
lines_stay cols rows = lines-back cols (lines_of rows)
