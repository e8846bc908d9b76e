-- The table as it grows while cells are written, and the text of cells by the table as far as it has grown.
use Rattle.std.specs.Prelude.{◌≡◌, ℕ, true, ◌==◌, map, List, [], ◌∷◌, ◌++◌, length, if◌then◌else◌}
use Rattle.std.specs.List.{list_any, position_or_len}
use Rattle.roam_cells.specs.Glyph.{Glyph}
use Rattle.roam_cells.specs.Inks.{style_numbered}
use Rattle.roam_cells.specs.declared.styles.Style.{Style}
use Rattle.byteorder.specs.Endian.{big_bytes}
use Rattle.roam_update.specs.CellText.{cell_text}
use Rattle.roam_update.specs.Runs.{Run}
use Rattle.roam_update.specs.Styles.{Form, Whole, Numbered, with_style}
use Rattle.roam_update.specs.TableText.{table_text}
use Rattle.roam_update.specs.declared.numbers.Numbers.{Numbers}

-- the styles of which a table keeps the numbers
abbrev pub styles_in : Numbers → List Style
styles_in n = map style_numbered n.keys.keys

-- the text is that of the styles, and the last number is at its stated place
pub record AreNumbers (n : Numbers) : Type 0 where
  pub text : n.table.items ≡ table_text (styles_in n)
  pub there : n.any ≡ true → list_any (λ k. n.last == k) n.keys.keys ≡ true
  pub place : n.any ≡ true → n.number ≡ position_or_len (λ k. n.last == k) n.keys.keys

-- how cells say their styles
abbrev pub form_in : Numbers → Form
form_in n = if n.whole then Whole else Numbered (styles_in n) 0

-- the styles of which a form has the numbers
abbrev pub styles_of : Form → List Style
styles_of Whole = []
styles_of (Numbered table used) = table

-- a form after a style is used: one that has no number comes into the table
abbrev pub form_with : Form → Style → Form
form_with Whole s = Whole
form_with (Numbered table used) s = Numbered (with_style table s) used

-- a form after cells use their styles in reading order
unfoldable pub form_over : Form → List Glyph → Form
form_over f [] = f
form_over f (g ∷ gs) = form_over (form_with f g.style) gs

-- a form after the cells of runs use theirs
unfoldable pub form_behind : Form → List Run → Form
form_behind f [] = f
form_behind f (run ∷ runs) = form_behind (form_over f run.cells) runs

-- the texts of cells, each by the table as far as it has grown with it
unfoldable pub cells_said : Form → List Glyph → List ℕ
cells_said f [] = []
cells_said f (g ∷ gs) = cell_text (form_with f g.style) g ++ cells_said (form_with f g.style) gs

-- the text of a run so
abbrev pub run_said : Form → Run → List ℕ
run_said f run = big_bytes 4 run.first ++ (big_bytes 4 (length run.cells) ++ cells_said f run.cells)

-- the texts of runs so
unfoldable pub runs_said : Form → List Run → List ℕ
runs_said f [] = []
runs_said f (run ∷ runs) = run_said f run ++ runs_said (form_over f run.cells) runs
