-- The history: the last rows that were pushed.
use Rattle.std.specs.Prelude.{All, ◌≡◌, ℕ, ◌-◌, ◌≤◌, List, [], ◌∷◌, ◌++◌, drop, length}
use Rattle.circular_buffer.specs.Buffer.{Buffer}
use Rattle.roam_cells.specs.Glyph.{Glyph}
use Rattle.roam_cells.specs.Place.{IsWholeRow}
use Rattle.roam_history.specs.Limits.{IsHistorySize}

-- the rows that left a screen, the oldest first, the most of them that are kept, and the columns of each
pub record Scrollback : Type 0 where
  pub lines : ℕ
  pub cols : ℕ
  pub rows : List (List Glyph)

-- the last n of a list
abbrev pub last : {X : Type 0} → ℕ → List X → List X
last n xs = drop (length xs - n) xs

-- no row yet
abbrev pub empty : ℕ → ℕ → Scrollback
empty lines cols = record { lines = lines; cols = cols; rows = [] }

-- one more row comes in as the newest, and the last rows are kept
abbrev pub after_push : List Glyph → Scrollback → Scrollback
after_push row h = record { lines = h.lines; cols = h.cols; rows = last h.lines (h.rows ++ row ∷ []) }

-- of all rows that were ever pushed, oldest first, the last are kept
abbrev pub keeping : ℕ → ℕ → List (List Glyph) → Scrollback
keeping lines cols rows = record { lines = lines; cols = cols; rows = last lines rows }

-- a row of whole characters of a number of columns
pub record IsRow (cols : ℕ) (row : List Glyph) : Type 0 where
  pub count : length row ≡ cols
  pub whole : IsWholeRow row

-- the facts about every history
pub record IsScrollback (h : Scrollback) : Type 0 where
  pub size : IsHistorySize h.lines h.cols
  pub few : length h.rows ≤ h.lines
  pub each : All (IsRow h.cols) h.rows

-- the facts about the lines of a history: they are as many as fit, and each is a row
pub record IsKept (ring : Buffer (List Glyph)) (cols len : ℕ) : Type 0 where
  pub size : IsHistorySize (length ring.items) cols
  pub full : ring.capacity ≡ length ring.items
  pub few : len ≤ length ring.items
  pub each : All (IsRow cols) ring.items
