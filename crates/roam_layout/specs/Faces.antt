-- The face of a session: the pictures of its panes, the borders between them, and the status text (this project's profile).
use Rattle.std.specs.Prelude.{◌≡◌, ℕ, ◌+◌, ◌-◌, ◌<◌, Bool, true, false, ◌==◌, slice_index_or, List, [], ◌∷◌, ◌++◌, map, drop, replicate, slice_index, Option, Some, None, if◌then◌else◌}
use Rattle.std.specs.List.{range_with_len, All}
use Rattle.roam_cells.specs.Glyph.{Glyph, blank, default_style}
use Rattle.roam_cells.specs.Place.{cell_at, table, row_of}
use Rattle.roam_screens.specs.Screenshot.{Screenshot, blank_screenshot}
use Rattle.roam_cells.specs.declared.styles.Style.{Style}
use Rattle.roam_layout.specs.Rects.{spot, within, inside}
use Rattle.roam_layout.specs.Layouts.{Plan, area, panes, edges}
use Rattle.roam_layout.specs.Status.{status_row}
use Rattle.roam_layout.specs.Changes.{size_of}
use Rattle.roam_layout.specs.declared.rects.Way.{Way}
use Rattle.roam_layout.specs.declared.rects.Way.TheVariants.{Right, Down}
use Rattle.roam_layout.specs.declared.rects.Rect.{Rect}
use Rattle.roam_layout.specs.declared.changes.PaneSize.{PaneSize}

-- ---- cells

-- a character by itself, unguarded
abbrev pub character : ℕ → Style → Glyph
character c style = record { points = c ∷ []; style = style; guarded = false }

-- a border's sign: a light vertical line between panes beside one another, else a horizontal one (Box Drawing, the Unicode Standard)
abbrev pub sign : Way → Glyph
sign Right = character 0x2502 default_style
sign Down = character 0x2500 default_style

-- the style after SGR 0 and SGR 7 (ECMA-48 8.3.117)
abbrev pub reverse_style : Style
reverse_style = record default_style { reverse = true }

-- ---- places

-- the first of these whose rectangle has a place
abbrev pub first_with_place : {A : Type 0} → ℕ → ℕ → List (A × Rect) → Option (A × Rect)
first_with_place r c [] = None
first_with_place r c (x ∷ xs) = if inside r c x.1 then Some x else first_with_place r c xs

-- the cell at a place of a picture in a rectangle
abbrev pub cell_in : Rect → Screenshot → ℕ → ℕ → Glyph
cell_in x picture r c = cell_at picture.cols picture.cells (r - x.row) (c - x.col)

-- the sign of the border that has a place
abbrev pub border_cell : Option (Way × Rect) → Glyph
border_cell None = blank
border_cell (Some x) = sign x.0

-- the picture of the pane that has a place, else the sign of the border that has it
abbrev pub pane_cell : (ℕ → Screenshot) → ℕ → ℕ → Option (ℕ × Rect) → Option (Way × Rect) → Glyph
pane_cell picture r c None border = border_cell border
pane_cell picture r c (Some x) border = cell_in x.1 (picture x.0) r c

-- the cell at a place, row and column from 1: in the last row the status text in reverse, above it panes and borders
abbrev pub face_at : Plan → (ℕ → Screenshot) → ℕ → ℕ → Glyph
face_at s picture r c =
    if r == s.rows then character (slice_index (status_row s) (c - 1)) reverse_style
    else pane_cell picture r c (first_with_place r c (panes s)) (first_with_place r c (edges s))

-- a row of the face, from 1
abbrev pub face_row : Plan → (ℕ → Screenshot) → ℕ → List Glyph
face_row s picture r = map (λ c. face_at s picture r (c + 1)) (range_with_len 0 s.cols)

-- the rectangle of the pane in focus
abbrev pub focus_rect : Plan → Rect
focus_rect s = spot s.focus s.tree (area s.rows s.cols)

-- the face of a layout and of the picture of each pane; the cursor is that of the pane in focus, moved to its rectangle
abbrev pub face : Plan → (ℕ → Screenshot) → Screenshot
face s picture =
    record {
      rows = s.rows;
      cols = s.cols;
      cells = table s.rows s.cols (λ r c. face_at s picture (r + 1) (c + 1));
      cursor_row = (focus_rect s).row + (picture s.focus).cursor_row - 1;
      cursor_col = (focus_rect s).col + (picture s.focus).cursor_col - 1;
      visible = (picture s.focus).visible;
    }

-- ---- lists of pictures

-- a pane with its picture's size
abbrev pub picture_size : ℕ × Screenshot → PaneSize
picture_size x = record { pane = x.0; rows = x.1.rows; cols = x.1.cols }

-- a list has a picture for each of these panes, in their order, and of their sizes
abbrev pub ArePictures : List (ℕ × Rect) → List (ℕ × Screenshot) → Type 0
ArePictures panes shots = map picture_size shots ≡ map size_of panes

-- the picture of a pane in a list; a blank one if the list has none
abbrev pub picture_in : List (ℕ × Screenshot) → ℕ → Screenshot
picture_in [] p = blank_screenshot 2 4
picture_in (x ∷ xs) p = if x.0 == p then x.1 else picture_in xs p

-- the picture at an index of a list, from 0
abbrev pub picture_at : List (ℕ × Screenshot) → ℕ → Screenshot
picture_at shots k = (slice_index_or shots k (0, blank_screenshot 2 4)).1

-- the pictures in a list are these
abbrev pub Show : (ℕ → Screenshot) → List (ℕ × Screenshot) → Type 0
Show picture shots = All (λ (x : ℕ × Screenshot). x.1 ≡ picture x.0) shots

-- ---- the segments of a row

-- a pane's segment of a row: a row of its picture, nothing if its rectangle doesn't have the row
abbrev pub pane_segment : ℕ → Rect → Screenshot → List Glyph
pane_segment r x picture = if within x.row x.rows r then row_of picture.cols picture.cells (r - x.row) else []

-- a border's segment of a row
abbrev pub border_segment : ℕ → Way × Rect → List Glyph
border_segment r x = if within x.1.row x.1.rows r then replicate x.1.cols (sign x.0) else []

-- the segment of the first of these borders
abbrev pub first_segment : ℕ → List (Way × Rect) → List Glyph
first_segment r [] = []
first_segment r (x ∷ xs) = border_segment r x

-- the segments of a row from left to right: in tree order panes and borders take turns
abbrev pub segments : ℕ → List (ℕ × Rect) → List (Way × Rect) → List (ℕ × Screenshot) → List Glyph
segments r [] borders shots = []
segments r (x ∷ panes) borders [] = []
segments r (x ∷ panes) borders (y ∷ shots) =
    pane_segment r x.1 y.1 ++ (first_segment r borders ++ segments r panes (drop 1 borders) shots)

-- ---- a face that was kept

-- each row of the kept screen whose mark is off is a row of the face
abbrev pub KeepsRows : List Bool → Screenshot → Plan → (ℕ → Screenshot) → Type 0
KeepsRows marks kept s picture =
    (r : ℕ) → r < s.rows → slice_index_or marks r false ≡ false → row_of s.cols kept.cells r ≡ face_row s picture (r + 1)
