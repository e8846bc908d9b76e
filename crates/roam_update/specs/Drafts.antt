-- A row of a screen in the making: shared with a screen that is shown, or with cells of its own.
use Rattle.std.specs.Prelude.{List, ⊤}
use Rattle.roam_cells.specs.Glyph.{Glyph}
use Rattle.roam_cells.specs.Place.{IsWholeRow}
use Rattle.roam_update.specs.declared.drafts.Cells.{Cells}
use Rattle.roam_update.specs.declared.drafts.Cells.TheVariants.{Shared, Own}

-- the cells of a row
abbrev pub cells_of : Cells → List Glyph
cells_of (Shared line) = line
cells_of (Own cells) = cells.items

-- a row that is shared has whole characters
abbrev pub IsSound : Cells → Type 0
IsSound (Shared line) = IsWholeRow line
IsSound (Own cells) = ⊤
