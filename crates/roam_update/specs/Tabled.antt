-- The parts of a text with a table behind its head.
use Rattle.std.specs.Prelude.{◌≡◌, ℕ, ◌+◌, ◌*◌, ◌≤◌, ◌⊎◌, IsSome, nat_le, List, length, drop, Option, Some, None, option_and_then, if◌then◌else◌}
use Rattle.byteorder.specs.Endian.{big_number}
use Rattle.roam_cells.specs.Limits.{most_old_rows, most_old_columns}
use Rattle.roam_cells.specs.Glyph.{Glyph}
use Rattle.roam_screens.specs.Screenshot.{Screenshot, IsPlace}
use Rattle.roam_update.specs.ChangeText.{has_head, head_at}
use Rattle.roam_update.specs.Put.{cells_by}
use Rattle.roam_update.specs.Styles.{Whole, Numbered}
use Rattle.roam_update.specs.TableText.{Table, has_front, front_at, entry_read, table_in}
use Rattle.roam_update.specs.declared.change_text.Head.{Head}

-- the head of a text, if a diff with a table may begin so
abbrev pub head_of_text : List ℕ → Option Head
head_of_text text = if has_front text then Some (front_at text) else None

-- there is a head, and its cursor is on its screen
abbrev pub HasHead : Option Head → Type 0
HasHead None = ⊥
HasHead (Some h) = IsPlace h.rows h.cols h.cursor_row h.cursor_col

-- A table may be read behind a head: it has no more styles than the screen has places, its bytes and a number of runs are there, and the
-- first of them, if there is one, is a style.
pub record HasTable (h : Head) (text : List ℕ) : Type 0 where
  pub few : big_number 3 (drop 9 text) ≤ h.rows * h.cols
  pub long : 9 * big_number 3 (drop 9 text) + 16 ≤ length text
  pub first : (big_number 3 (drop 9 text) ≡ 0) ⊎ IsSome (entry_read (drop 12 text))

-- there is a head, its cursor is on its screen, and a table may be read behind it
abbrev pub HasStart : List ℕ → Type 0
HasStart text = HasHead (head_of_text text) × HasTable (front_at text) text

-- the cells of a base brought to a head's size, after the runs behind a table replace those that they name
abbrev pub cells_behind : Screenshot → Head → Table → Option (List Glyph)
cells_behind base h table =
    if nat_le 4 (length table.rest) then cells_by (Numbered table.styles 0) (big_number 4 table.rest) base h (drop 4 table.rest) else None

-- the same, from the whole text
abbrev pub cells_in : Screenshot → Head → List ℕ → Option (List Glyph)
cells_in base h text = option_and_then (cells_behind base h) (table_in text)

-- the head of a text of version 1, if a diff may begin so
abbrev pub old_head_of_text : List ℕ → Option Head
old_head_of_text text = if has_head text then Some (head_at text) else None

-- there is a head of a screen of version 1, and its cursor is on it
abbrev pub HasOldHead : Option Head → Type 0
HasOldHead None = ⊥
HasOldHead (Some h) = IsPlace h.rows h.cols h.cursor_row h.cursor_col × (h.rows ≤ most_old_rows) × (h.cols ≤ most_old_columns)

-- the cells of a base brought to a head's size, after the runs behind the head of a text of version 1 replace those that they name
abbrev pub old_cells_in : Screenshot → Head → List ℕ → Option (List Glyph)
old_cells_in base h text = cells_by Whole h.runs base h (drop 13 text)
