-- Layouts, and what an act makes of one (this project's profile).
use Rattle.std.specs.Prelude.{◌≡◌, ℕ, ℤ, pos, negsuc, ◌+ℤ◌, ◌-◌, ◌≤◌, Bool, true, ◌==◌, ◌&&◌, nat_le, List, [], ◌∷◌, length, slice_set, slice_index, min, Option, Some, None, Result, Ok, Err, ◌⊎◌, if◌then◌else◌}
use Rattle.roam_acts.specs.declared.acts.Act.{Act}
use Rattle.roam_acts.specs.declared.acts.Act.TheVariants.{Key, SplitRight, SplitDown, Close, Focus, Next, Grow, Size, View}
use Rattle.roam_cells.specs.declared.faults.Fault.{Fault}
use Rattle.roam_cells.specs.declared.faults.Fault.TheVariants.{OutOfMemory, BadSize, TooSmall, NoPane, PanesFull, LastPane}
use Rattle.roam_cells.specs.Limits.{most_rows, most_columns}
use Rattle.roam_layout.specs.Limits.{least_session_rows, least_session_columns, most_view}
use Rattle.roam_layout.specs.Trees.{Shape, One, leaves, has, is_one, first_leaf, with_split, without_pane, heir, free, AreDistinct, AreNumbers, AreModest}
use Rattle.roam_layout.specs.Rects.{rects_of, borders, spot, Fits, fits_in, is_roomy, after_growth}
use Rattle.roam_layout.specs.declared.rects.Way.{Way}
use Rattle.roam_layout.specs.declared.rects.Way.TheVariants.{Right, Down}
use Rattle.roam_layout.specs.declared.rects.Rect.{Rect}

-- a layout: the session's size, the tree, the focus, and the view of each pane, by numbers from 0 to 9
pub record Plan : Type 0 where
  pub rows : ℕ
  pub cols : ℕ
  pub tree : Shape
  pub focus : ℕ
  pub views : List ℕ

-- the outcome of an act
pub data Outcome : Type 0 where
  Laid : Plan → Outcome
  Refused : Fault → Outcome

-- a session's size
abbrev pub IsSessionSize : ℕ → ℕ → Type 0
IsSessionSize rows cols = (least_session_rows ≤ rows) × (rows ≤ most_rows) × (least_session_columns ≤ cols) × (cols ≤ most_columns)

abbrev pub is_session_size : ℕ → ℕ → Bool
is_session_size rows cols =
    nat_le least_session_rows rows && nat_le rows most_rows && nat_le least_session_columns cols && nat_le cols most_columns

-- all rows but the last, which has the status text
abbrev pub area : ℕ → ℕ → Rect
area rows cols = record { row = 1; col = 1; rows = rows - 1; cols = cols }

-- the panes of a layout with their rectangles, in tree order
abbrev pub panes : Plan → List (ℕ × Rect)
panes s = rects_of s.tree (area s.rows s.cols)

-- the borders of a layout, in tree order
abbrev pub edges : Plan → List (Way × Rect)
edges s = borders s.tree (area s.rows s.cols)

-- one pane that fills the area
abbrev pub start : ℕ → ℕ → Plan
start rows cols =
    record {
      rows = rows;
      cols = cols;
      tree = One 1;
      focus = 1;
      views = 0 ∷ 0 ∷ 0 ∷ 0 ∷ 0 ∷ 0 ∷ 0 ∷ 0 ∷ 0 ∷ 0 ∷ [];
    }

-- the facts about every layout
pub record IsPlan (s : Plan) : Type 0 where
  pub size : IsSessionSize s.rows s.cols
  pub fits : Fits s.tree (area s.rows s.cols)
  pub modest : AreModest s.tree
  pub numbers : AreNumbers s.tree
  pub distinct : AreDistinct s.tree
  pub focus : has s.focus s.tree ≡ true
  pub views : length s.views ≡ 10

-- ---- the acts

-- the pane in focus is split: the new pane has the smallest free number, the focus, and shows no history
abbrev pub split : Way → Plan → Outcome
split way s =
    if nat_le 9 (length (leaves s.tree)) then Refused PanesFull
    else if is_roomy way (spot s.focus s.tree (area s.rows s.cols)) then
    Laid (record s {
      tree = with_split way s.focus (free s.tree) s.tree;
      focus = free s.tree;
      views = slice_set s.views (free s.tree) 0;
    })
    else Refused TooSmall

-- the pane in focus is closed: its sibling takes the place of their split, and the sibling's first pane the focus
abbrev pub close : Plan → Outcome
close s =
    if is_one s.focus s.tree then Refused LastPane
    else Laid (record s { tree = without_pane s.focus s.tree; focus = heir s.focus s.tree })

-- the focus goes to a pane
abbrev pub focus_on : ℕ → Plan → Outcome
focus_on p s = if has p s.tree then Laid (record s { focus = p }) else Refused NoPane

-- the element behind p in a list, else first
abbrev pub after : ℕ → ℕ → List ℕ → ℕ
after first p [] = first
after first p (x ∷ []) = first
after first p (x ∷ y ∷ ys) = if (x == p) then y else after first p (y ∷ ys)

-- the focus goes to the next pane in tree order, after the last to the first
abbrev pub next : Plan → Outcome
next s = Laid (record s { focus = after (first_leaf s.tree) s.focus (leaves s.tree) })

-- a layout with another tree; none is too small
abbrev pub with_tree : Plan → Option Shape → Outcome
with_tree s None = Refused TooSmall
with_tree s (Some t) = Laid (record s { tree = t })

-- the pane in focus grows along its own split
abbrev pub grow : ℤ → Plan → Outcome
grow d s =
    if is_one s.focus s.tree then Refused LastPane
    else with_tree s (after_growth s.focus d s.tree (area s.rows s.cols))

-- the session gets another size
abbrev pub resize : ℕ → ℕ → Plan → Outcome
resize r c s =
    if is_session_size r c then (if fits_in s.tree (area r c) then Laid (record s { rows = r; cols = c }) else Refused TooSmall)
    else Refused BadSize

-- a whole number pushed into the range of views
abbrev pub view_in_range : ℤ → ℕ
view_in_range (pos n) = min n most_view
view_in_range (negsuc n) = 0

-- the view of the pane in focus moves
abbrev pub scroll : ℤ → Plan → Outcome
scroll d s = Laid (record s { views = slice_set s.views s.focus (view_in_range (pos (slice_index s.views s.focus) +ℤ d)) })

-- the outcome of an act on a layout; a key leaves it
abbrev pub outcome_of : Plan → Act → Outcome
outcome_of s (Key k) = Laid s
outcome_of s SplitRight = split Right s
outcome_of s SplitDown = split Down s
outcome_of s Close = close s
outcome_of s (Focus p) = focus_on p s
outcome_of s Next = next s
outcome_of s (Grow d) = grow d s
outcome_of s (Size r c) = resize r c s
outcome_of s (View d) = scroll d s

-- an act that is laid
abbrev pub IsLaid : Outcome → Type 0
IsLaid (Laid s) = Unit {0}
IsLaid (Refused fault) = ⊥

-- a result is the outcome of the act, except for want of memory if it is laid: a refusal needs none
abbrev pub Answers : Outcome → Result Plan Fault → Type 0
Answers o (Ok s) = o ≡ Laid s
Answers o (Err e) = ((e ≡ OutOfMemory) × IsLaid o) ⊎ (o ≡ Refused e)
