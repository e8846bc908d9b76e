-- A block of rows from each of which but the last autowrap went on: the bytes of its letters, and of the letters behind it.
use Rattle.std.specs.Prelude.{◌≡◌, ℕ, ◌+◌, ◌-◌, ◌<◌, ◌≤◌, ◌⊎◌, Bool, true, List, [], ◌++◌, Option, MatchOption, drop, encode_utf8_all, length, take}
use Rattle.std.specs.List.{flat_map}
use Rattle.roam_stored_rows.specs.Finding.{StandsAt, line_from, text_of}
use Rattle.roam_stored_rows.specs.Rows.{StoredRow, is_on, row_of}
use Rattle.roam_stored_rows.specs.declared.finding.Way.{Way}
use Rattle.roam_stored_rows.specs.declared.finding.Way.TheVariants.{Back, On}

-- the bytes of the letters of rows, as they are compared
abbrev pub spelled : Bool → List StoredRow → List ℕ
spelled folded rows = encode_utf8_all (flat_map (text_of folded) rows)

-- the bytes of the letters of a logical line from the row at a place on
abbrev pub spelled_line : Bool → List StoredRow → ℕ → List ℕ
spelled_line folded rows at = encode_utf8_all (line_from folded (drop at rows))

-- how many bytes the letters have of the rows from one place up to another
abbrev pub size_between : Bool → List StoredRow → ℕ → ℕ → ℕ
size_between folded rows low high = length (spelled folded (take (high - low) (drop low rows)))

-- autowrap went on from each row from one place up to another but the last
abbrev pub AreOn : List StoredRow → ℕ → ℕ → Type 0
AreOn rows low high = (k : ℕ) → low ≤ k → k + 1 < high → is_on (row_of rows k).wrap ≡ true

-- bytes are the begin of a line, and all of it if they are fewer than this
pub record IsFront (most : ℕ) (front line : List ℕ) : Type 0 where
  pub rest : List ℕ
  pub is : line ≡ front ++ rest
  pub enough : (rest ≡ []) ⊎ (most ≤ length front)

-- a text stands at no place from one up to another
abbrev pub StandsNowhere : List ℕ → List ℕ → ℕ → ℕ → Type 0
StandsNowhere text line low high = (k : ℕ) → low ≤ k → k < high → ¬ StandsAt text line k

-- a text stands at a place below a bound, and at none that is nearer
abbrev pub IsNearestPlace : Way → List ℕ → List ℕ → ℕ → ℕ → Type 0
IsNearestPlace On text line size place = (place < size) × StandsAt text line place × StandsNowhere text line 0 place
IsNearestPlace Back text line size place = (place < size) × StandsAt text line place × StandsNowhere text line (place + 1) size

-- the nearest place below a bound at which a text stands
abbrev pub IsPlace : Way → List ℕ → List ℕ → ℕ → Option ℕ → Type 0
IsPlace way text line size found = MatchOption found (StandsNowhere text line 0 size) (IsNearestPlace way text line size)

-- the bytes of the row at a place are those from one place of its block's bytes up to another, and this is one of them
pub record IsRowAt (folded : Bool) (rows : List StoredRow) (low high place at : ℕ) : Type 0 where
  pub begun : low ≤ at
  pub within : at < high
  pub start : size_between folded rows low at ≤ place
  pub end : place < size_between folded rows low (at + 1)
