-- The changes of the panes by an act, from the panes with their rectangles before it and after it.
use Rattle.std.specs.Prelude.{ℕ, ◌==◌, ◌&&◌, List, [], ◌∷◌, Option, Some, None, if◌then◌else◌}
use Rattle.std.specs.List.{filter_map}
use Rattle.roam_layout.specs.Rects.{rect_in}
use Rattle.roam_layout.specs.declared.rects.Rect.{Rect}
use Rattle.roam_layout.specs.declared.changes.PaneSize.{PaneSize}

-- a pane and its size
abbrev pub size_of : ℕ × Rect → PaneSize
size_of x = record { pane = x.0; rows = x.1.rows; cols = x.1.cols }

-- a pane, unless it has a rectangle
abbrev pub unless_there : ℕ → Option Rect → Option ℕ
unless_there p None = Some p
unless_there p (Some r) = None

-- a pane's size, unless it had a rectangle
abbrev pub size_unless_there : ℕ × Rect → Option Rect → Option PaneSize
size_unless_there x None = Some (size_of x)
size_unless_there x (Some r) = None

-- a pane's size, if it had a rectangle of another size
abbrev pub size_if_other : ℕ × Rect → Option Rect → Option PaneSize
size_if_other x None = None
size_if_other x (Some r) = if (r.rows == x.1.rows) && (r.cols == x.1.cols) then None else Some (size_of x)

-- the panes that were there and are no more, in tree order
abbrev pub panes_closed : List (ℕ × Rect) → List (ℕ × Rect) → List ℕ
panes_closed old new = filter_map (λ x. unless_there x.0 (rect_in x.0 new)) old

-- the panes that are there and were not, in tree order
abbrev pub panes_made : List (ℕ × Rect) → List (ℕ × Rect) → List PaneSize
panes_made old new = filter_map (λ x. size_unless_there x (rect_in x.0 old)) new

-- the panes that were there with another size, in tree order
abbrev pub panes_sized : List (ℕ × Rect) → List (ℕ × Rect) → List PaneSize
panes_sized old new = filter_map (λ x. size_if_other x (rect_in x.0 old)) new

-- the first of a list
abbrev pub first_of : {A : Type 0} → List A → Option A
first_of [] = None
first_of (x ∷ xs) = Some x
