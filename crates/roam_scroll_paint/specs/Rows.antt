-- Rows are drawn one after another: the text of a row, and the erasure of its end.
use Rattle.std.specs.Prelude.{◌≡◌, ℕ, zero, suc, ◌+◌, ◌-◌, ◌<◌, ◌≤◌, ◌==◌, ◌&&◌, not, nat_lt, Bool, true, false, if◌then◌else◌, List, [], ◌∷◌, ◌++◌, map, slice_index_or, None}
use Rattle.roam_cells.specs.Glyph.{blank, default_style}
use Rattle.roam_cells.specs.Place.{row_of}
use Rattle.roam_cells.specs.declared.styles.Style.{Style}
use Rattle.roam_screens.specs.Screenshot.{Screenshot}
use Rattle.roam_text.specs.declared.functions.Function.{Function}
use Rattle.roam_text.specs.declared.functions.Function.TheVariants.{Print}
use Rattle.roam_term.specs.ControlFunctions.{csi, place_cursor}
use Rattle.roam_paint.specs.Painting.{Places, same_size, is_drawn, goes_on, style_in}
use Rattle.std.specs.List.{flat_map}
use Rattle.roam_scroll_paint.specs.Sequences.{text_of}
use Rattle.roam_scroll_paint.specs.Bands.{to_row}
use Rattle.roam_scroll_paint.specs.Doubts.{is_doubtful}
use Rattle.roam_scroll_paint.specs.Styles.{styled_from}

-- the columns of a row that are written: those that are to show something else, and the gaps that are written through
abbrev pub Marks : Type 0
Marks = List Bool

abbrev pub is_marked : Marks → ℕ → ℕ → Bool
is_marked marks r c = slice_index_or marks c false

-- the cursor goes to a row and a column, from 0; the first column isn't written (CUP, ECMA-48 8.3.21)
abbrev pub placing_at : ℕ → ℕ → Function
placing_at r c = if c == 0 then to_row (r + 1) else place_cursor (r + 1) (c + 1)

-- whether terminals disagree on the width of the last cell that is drawn up to a place, by that before it
unfoldable pub doubt_after : (ℕ → ℕ → Bool) → Places → ℕ → ℕ → Bool → Bool
doubt_after d new r c b = if is_drawn d new r c then is_doubtful (new r c) else b

-- and before a place of a row
unfoldable pub doubt_in : (ℕ → ℕ → Bool) → Places → ℕ → ℕ → Bool
doubt_in d new r zero = false
doubt_in d new r (suc c) = doubt_after d new r c (doubt_in d new r c)

-- the cursor goes to a column of a row, unless the text before ends there for every terminal
abbrev pub placed_in : (ℕ → ℕ → Bool) → ℕ → ℕ → Bool → List Function
placed_in d r c b = if (goes_on d r c && not b) then [] else placing_at r c ∷ []

-- one place, with the style that is set before it, and whether terminals disagree on the width of the last cell
unfoldable pub written_cell : (ℕ → ℕ → Bool) → Places → ℕ → ℕ → Style → Bool → List Function
written_cell d new r c g b =
    if is_drawn d new r c then placed_in d r c b ++ (styled_from g (new r c).style ++ map Print (new r c).points) else []

-- the first places of a row
unfoldable pub written_row : (ℕ → ℕ → Bool) → Places → ℕ → Style → ℕ → List Function
written_row d new r g zero = []
written_row d new r g (suc c) = written_row d new r g c ++ written_cell d new r c (style_in d new r g c) (doubt_in d new r c)

-- all from the cursor's column on is erased (EL 0, ECMA-48 8.3.41)
abbrev pub erase_line : Function
erase_line = csi None (0 ∷ []) 0x4B

-- true if the cursor is at a column since the text before ends there
abbrev pub ends_at : (ℕ → ℕ → Bool) → ℕ → ℕ → Bool
ends_at d r c = nat_lt 0 c && d r (c - 1)

-- a row is erased from a column on, in the default style, if that is one of its columns
unfoldable pub erasing_from : (ℕ → ℕ → Bool) → ℕ → ℕ → ℕ → Style → Bool → List Function
erasing_from d r end cols g b =
    if nat_lt end cols
    then (if (ends_at d r end && not b) then [] else placing_at r end ∷ []) ++ (styled_from g default_style ++ erase_line ∷ [])
    else []

-- the style that is set afterwards
unfoldable pub style_left : ℕ → ℕ → Style → Style
style_left end cols g = if nat_lt end cols then default_style else g

-- a row: the text before a column, and the erasure from there on
unfoldable pub row_functions : Marks → Places → ℕ → ℕ → ℕ → Style → List Function
row_functions marks new cols r end g =
    written_row (is_marked marks) new r g end
    ++ erasing_from (is_marked marks) r end cols (style_in (is_marked marks) new r g end) (doubt_in (is_marked marks) new r end)

-- the style after it
unfoldable pub row_style_left : Marks → Places → ℕ → ℕ → ℕ → Style → Style
row_style_left marks new cols r end g = style_left end cols (style_in (is_marked marks) new r g end)

-- marks and a column that give a row the right cells
pub record IsPlan (over new : Places) (cols r : ℕ) (marks : Marks) (end : ℕ) : Type 0 where
  -- an unmarked place already has the right cell
  pub covers : (c : ℕ) → c < cols → is_marked marks r c ≡ false → over r c ≡ new r c
  pub short : (c : ℕ) → cols ≤ c → is_marked marks r c ≡ false
  pub inside : end ≤ cols
  -- the erased places should be blank
  pub blanks : (c : ℕ) → end ≤ c → c < cols → new r c ≡ blank

-- these functions draw the first rows over the old cells, and a style is set then
pub data AreDrawn (over new : Places) (cols : ℕ) : ℕ → Style → List Function → Type 0 where
  nothing : AreDrawn over new cols 0 default_style []
  stays : (r : ℕ) (g : Style) (fs : List Function) → AreDrawn over new cols r g fs → ((c : ℕ) → c < cols → over r c ≡ new r c)
      → AreDrawn over new cols (suc r) g fs
  written : (r end : ℕ) (g : Style) (fs : List Function) (marks : Marks) → AreDrawn over new cols r g fs → IsPlan over new cols r marks end
      → AreDrawn over new cols (suc r) (row_style_left marks new cols r end g) (fs ++ row_functions marks new cols r end g)

-- no mark went off
abbrev pub KeepsMarks : Marks → Marks → Type 0
KeepsMarks old new = (c : ℕ) → slice_index_or new c false ≡ false → slice_index_or old c false ≡ false

-- a row that costs nothing cost nothing before
abbrev pub KeepsCosts : List ℕ → List ℕ → Type 0
KeepsCosts old new = (r : ℕ) → slice_index_or new r 1 ≡ 0 → slice_index_or old r 1 ≡ 0

-- a text is longer by one row, drawn over the old cells
pub record AddsRow (over new : Places) (cols r : ℕ) (g h : Style) (before after : List ℕ) : Type 0 where
  pub functions : List Function
  pub added : after ≡ before ++ flat_map text_of functions
  pub drawn : (fs : List Function) → AreDrawn over new cols r g fs → AreDrawn over new cols (r + 1) h (fs ++ functions)

-- a text is longer by the first rows
pub record AddsRows (over new : Places) (cols r : ℕ) (h : Style) (before after : List ℕ) : Type 0 where
  pub functions : List Function
  pub added : after ≡ before ++ flat_map text_of functions
  pub drawn : AreDrawn over new cols r h functions

-- two screens of one size have the same cells in a row, from 0
pub record IsSameRow (old new : Screenshot) (r : ℕ) : Type 0 where
  pub size : same_size old new ≡ true
  pub low : r < new.rows
  pub cells : row_of old.cols old.cells r ≡ row_of new.cols new.cells r
