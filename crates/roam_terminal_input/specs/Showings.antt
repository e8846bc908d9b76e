-- The wish of a line about the part to show on an outer terminal (this project's profile).
use Rattle.std.specs.Prelude.{ℕ, ◌^◌, ◌≤◌, ◌<◌, List, [], ◌∷◌, ◌++◌, codes, decimal}
use Rattle.roam_cells.specs.Limits.{IsSize, most_columns, most_rows}
use Rattle.roam_viewport.specs.declared.parts.Part.{Part}
use Rattle.roam_terminal_input.specs.declared.showings.Showing.{Showing}
use Rattle.roam_terminal_input.specs.declared.showings.Showing.TheVariants.{Whole, Exactly, Following, Mask, Unmask}

-- two numbers, a space between them
abbrev pub pair_text : ℕ → ℕ → List ℕ
pair_text a b = decimal a ++ 0x20 ∷ decimal b

-- a part: its first row and column, from 0, and how many it has
abbrev pub part_text : Part → List ℕ
part_text part = decimal part.row ++ 0x20 ∷ (decimal part.col ++ 0x20 ∷ pair_text part.rows part.cols)

-- how it is written, without its LF
abbrev pub showing_text : Showing → List ℕ
showing_text Whole = codes "whole"
showing_text (Exactly part) = codes "part " ++ part_text part
showing_text (Following rows cols) = codes "part " ++ pair_text rows cols
showing_text (Mask part) = codes "mask " ++ part_text part
showing_text Unmask = codes "unmask"

-- a part begins at numbers of 16 bits
pub record IsPlaced (part : Part) : Type 0 where
  pub row : part.row < 2 ^ 16
  pub col : part.col < 2 ^ 16

-- some rows and columns, no more than a screen has
pub record HasMaskSize (part : Part) : Type 0 where
  pub some_rows : 1 ≤ part.rows
  pub most_rows : part.rows ≤ most_rows
  pub some_columns : 1 ≤ part.cols
  pub most_columns : part.cols ≤ most_columns

-- the part has the size of a screen
abbrev pub IsShowing : Showing → Type 0
IsShowing Whole = Unit {0}
IsShowing (Exactly part) = IsPlaced part × IsSize part.rows part.cols
IsShowing (Following rows cols) = IsSize rows cols
IsShowing (Mask part) = IsPlaced part × HasMaskSize part
IsShowing Unmask = Unit {0}
