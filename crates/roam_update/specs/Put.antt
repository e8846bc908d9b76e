-- Reading the text of runs and putting them into their places at once.
use Rattle.std.specs.Prelude.{ℕ, List, length, Option, Some, option_and_then}
use Rattle.roam_cells.specs.Glyph.{Glyph}
use Rattle.roam_update.specs.Runs.{with_cells_at, patched_cells}
use Rattle.roam_update.specs.CellText.{Front, cells_read}
use Rattle.roam_update.specs.ChangeText.{runs_read}
use Rattle.roam_update.specs.Styles.{Form}
use Rattle.roam_update.specs.Sizes.{sized_cells}
use Rattle.roam_update.specs.declared.change_text.Head.{Head}
use Rattle.roam_screens.specs.Screenshot.{Screenshot}

-- the cells after n cells of a text are put from a place on, and the rest of the text
abbrev pub cells_put : Form → ℕ → ℕ → List Glyph → List ℕ → Option (Front (List Glyph))
cells_put f n first cells text =
    option_and_then (λ cs. Some (record { value = with_cells_at cells first cs.value; rest = cs.rest; form = cs.form }))
    (cells_read f n text)

-- the cells after the n runs of a text, from a least place on, replace those that they name
abbrev pub runs_put : Form → ℕ → ℕ → List Glyph → List ℕ → Option (List Glyph)
runs_put f n least cells text = option_and_then (λ runs. Some (patched_cells cells runs)) (runs_read f n least (length cells) text)

-- the cells of a base brought to a head's size, after the n runs of a text replace those that they name
abbrev pub cells_by : Form → ℕ → Screenshot → Head → List ℕ → Option (List Glyph)
cells_by f n base h text = runs_put f n 0 (sized_cells h.rows h.cols base) text
