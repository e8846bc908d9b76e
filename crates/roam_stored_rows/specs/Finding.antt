-- Searches in the logical lines of rows, by letters. Styles are no letters, and case counts unless each letter of the sought text is its own
-- simple case folding (The Unicode Standard, 3.13; CaseFolding.txt).
use Rattle.std.specs.Prelude.{◌≡◌, ℕ, ◌+◌, ◌-◌, ◌<◌, ◌≤◌, ◌==◌, Bool, true, false, not, List, [], ◌∷◌, ◌++◌, Option, MatchOption, drop, length, map, take, if◌then◌else◌}
use Rattle.std.specs.List.{list_all}
use Rattle.bstr.specs.Utf8.{lossy_chars}
use Rattle.ucd_case.specs.CaseFolding.{simple_fold}
use Rattle.roam_stored_rows.specs.Rows.{RowsView, StoredRow, is_on}
use Rattle.roam_stored_rows.specs.declared.finding.Way.{Way}
use Rattle.roam_stored_rows.specs.declared.finding.Way.TheVariants.{Back, On}

-- the most bytes of a text that is sought
abbrev pub most_text : ℕ
most_text = 1024

-- a letter as it is compared: folded, or itself
abbrev pub compared : Bool → ℕ → ℕ
compared folded letter = if folded then simple_fold letter else letter

-- letters are compared folded in a search for these: each is its own folding
abbrev pub is_folded : List ℕ → Bool
is_folded text = list_all (λ letter. simple_fold letter == letter) text

-- bytes without styles, from within a style or not: a style is ESC and all through the next `m`
abbrev pub plain_from : Bool → List ℕ → List ℕ
plain_from styled [] = []
plain_from true (byte ∷ rest) = plain_from (not (byte == 109)) rest
plain_from false (byte ∷ rest) = if byte == 27 then plain_from true rest else byte ∷ plain_from false rest

-- the letters of bytes: their code points, U+FFFD for what is none (The Unicode Standard, Table 3-7)
abbrev pub letters_in : List ℕ → List ℕ
letters_in bytes = lossy_chars bytes

-- the letters of a row
abbrev pub letters_of : StoredRow → List ℕ
letters_of row = letters_in (plain_from false row.text)

-- the letters of a row as they are compared
abbrev pub text_of : Bool → StoredRow → List ℕ
text_of folded row = map (compared folded) (letters_of row)

-- the text of a logical line from its first given row on: that of the row, and of the next ones as far as autowrap went on from each
abbrev pub line_from : Bool → List StoredRow → List ℕ
line_from folded [] = []
line_from folded (row ∷ rows) = text_of folded row ++ (if is_on row.wrap then line_from folded rows else [])

-- a text stands at a place of a line
abbrev pub StandsAt : List ℕ → List ℕ → ℕ → Type 0
StandsAt text line place = take (length text) (drop place line) ≡ text

-- an occurrence of a text begins at a letter of the first of these rows, and it may end in a later row of its logical line; an empty text has
-- no occurrence
abbrev pub Begins : Bool → List ℕ → List StoredRow → Type 0
Begins folded text [] = ⊥
Begins folded text (row ∷ rows) =
    (place : ℕ) × (0 < length text) × (place < length (text_of folded row)) × StandsAt text (line_from folded (row ∷ rows)) place

-- no row from one place up to another has a match
abbrev pub NoneBegins : Bool → List ℕ → List StoredRow → ℕ → ℕ → Type 0
NoneBegins folded text rows low high = (k : ℕ) → low ≤ k → k < high → ¬ Begins folded text (drop k rows)

-- a row of the places from one up to another has a match, and none that is nearer has
abbrev pub IsNearestAt : Way → Bool → List ℕ → List StoredRow → ℕ → ℕ → ℕ → Type 0
IsNearestAt On folded text rows low high found =
    (low ≤ found) × (found < high) × Begins folded text (drop found rows) × NoneBegins folded text rows low found
IsNearestAt Back folded text rows low high found =
    (low ≤ found) × (found < high) × Begins folded text (drop found rows) × NoneBegins folded text rows (found + 1) high

-- the answer of a search among the places from one up to another
abbrev pub IsFoundAt : Way → Bool → List ℕ → List StoredRow → ℕ → ℕ → Option ℕ → Type 0
IsFoundAt way folded text rows low high found =
    MatchOption found (NoneBegins folded text rows low high) (IsNearestAt way folded text rows low high)

-- an occurrence of a text begins in the row of a number
abbrev pub IsMatch : RowsView → List ℕ → ℕ → Type 0
IsMatch view text number = (view.first ≤ number) × Begins (is_folded text) text (drop (number - view.first) view.rows)

-- no row from one number up to another has a match
abbrev pub HasNoMatch : RowsView → List ℕ → ℕ → ℕ → Type 0
HasNoMatch view text low high = (k : ℕ) → low ≤ k → k < high → ¬ IsMatch view text k

-- a row has a match, and none that is nearer has
abbrev pub IsNearest : Way → RowsView → List ℕ → ℕ → ℕ → ℕ → Type 0
IsNearest On view text low high found = (low ≤ found) × (found < high) × IsMatch view text found × HasNoMatch view text low found
IsNearest Back view text low high found = (low ≤ found) × (found < high) × IsMatch view text found × HasNoMatch view text (found + 1) high

-- the answer of a search among the numbers from one up to another
abbrev pub IsFound : Way → RowsView → List ℕ → ℕ → ℕ → Option ℕ → Type 0
IsFound way view text low high found = MatchOption found (HasNoMatch view text low high) (IsNearest way view text low high)
