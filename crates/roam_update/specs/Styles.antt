-- The styles of cells in a table, each once, in order of first use, and how far a table has been used (this project's profile).
use Rattle.std.specs.Prelude.{ℕ, suc, ◌+◌, Bool, true, false, ◌||◌, ◌==◌, nat_le, List, [], ◌∷◌, ◌++◌, length, slice_get, Option, None, if◌then◌else◌}
use Rattle.roam_cells.specs.Glyph.{Glyph}
use Rattle.roam_cells.specs.declared.styles.Style.{Style}
use Rattle.roam_update.specs.Runs.{Run}
use Rattle.roam_cells.specs.Same.{same_style}

-- whether a style is in a table
abbrev pub has_style : List Style → Style → Bool
has_style [] s = false
has_style (t ∷ table) s = same_style s t || has_style table s

-- the number of a style in a table, from 0: its first place, or the number of styles if it is not there
abbrev pub number_in : List Style → Style → ℕ
number_in [] s = 0
number_in (t ∷ table) s = if same_style s t then 0 else suc (number_in table s)

-- a table after a style is used: one that isn't in it comes in at the end
abbrev pub with_style : List Style → Style → List Style
with_style table s = if has_style table s then table else table ++ s ∷ []

-- a table after cells use their styles in reading order
unfoldable pub styles_after : List Style → List Glyph → List Style
styles_after table [] = table
styles_after table (g ∷ gs) = styles_after (with_style table g.style) gs

-- a table after the cells of runs use theirs
unfoldable pub styles_used : List Style → List Run → List Style
styles_used table [] = table
styles_used table (run ∷ runs) = styles_used (styles_after table run.cells) runs

-- how a cell says its style: in full, or by its number in a table of which so many styles have been used
pub data Form : Type 0 where
  Whole : Form
  Numbered : List Style → ℕ → Form

-- so many styles have been used once the one with a number is: a number that isn't below them is the next
abbrev pub used_after : ℕ → ℕ → ℕ
used_after used number = if number == used then used + 1 else used

-- the style with a number: one that has been used, or the next
abbrev pub style_in : List Style → ℕ → ℕ → Option Style
style_in table used number = if nat_le number used then slice_get table number else None

-- whether all styles of a table have been used
abbrev pub is_used_up : Form → Bool
is_used_up Whole = true
is_used_up (Numbered table used) = used == length table
