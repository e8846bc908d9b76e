-- Trees of panes and splits, and what each layout command makes of one (this project's profile).
use Rattle.std.specs.Prelude.{zero, suc, ℕ, ℤ, pos, negsuc, ◌≤ℤ◌, ◌+◌, ◌≤◌, max, Bool, false, ◌==◌, ◌||◌, List, [], ◌∷◌, ◌++◌, if◌then◌else◌}
use Rattle.roam_layout.specs.declared.rects.Way.{Way}
use Rattle.roam_layout.specs.declared.rects.Way.TheVariants.{Right, Down}
use Rattle.roam_layout.specs.declared.trees.Tree.{Tree, Leaf, Fork'}

-- a tree of splits: one pane, or two trees beside or below one another with a shift of the border from the middle
pub data Shape : Type 0 where
  One : ℕ → Shape
  Two : Way → ℤ → Shape → Shape → Shape

-- the shape that the code's tree has
abbrev pub shape_of : Tree → Shape
shape_of (Leaf p) = One p
shape_of (Fork' p way g first second) = Two way g (shape_of first) (shape_of second)

-- ---- the least size

-- the least number of rows: 2 for a pane; below one another they add up, with one more for the border
abbrev pub least_rows : Shape → ℕ
least_rows (One p) = 2
least_rows (Two Right g a b) = max (least_rows a) (least_rows b)
least_rows (Two Down g a b) = least_rows a + least_rows b + 1

-- the least number of columns: 4 for a pane; beside one another they add up, with one more for the border
abbrev pub least_cols : Shape → ℕ
least_cols (One p) = 4
least_cols (Two Right g a b) = least_cols a + least_cols b + 1
least_cols (Two Down g a b) = max (least_cols a) (least_cols b)

-- the least length along a way: columns to the right, rows down
abbrev pub least : Way → Shape → ℕ
least Right t = least_cols t
least Down t = least_rows t

-- ---- the panes

-- the panes in tree order
abbrev pub leaves : Shape → List ℕ
leaves (One p) = p ∷ []
leaves (Two way g a b) = leaves a ++ leaves b

-- whether a pane is in a tree
abbrev pub has : ℕ → Shape → Bool
has p (One q) = q == p
has p (Two way g a b) = has p a || has p b

-- whether a tree is this pane alone
abbrev pub is_one : ℕ → Shape → Bool
is_one p (One q) = q == p
is_one p (Two way g a b) = false

-- the first pane of a tree
abbrev pub first_leaf : Shape → ℕ
first_leaf (One p) = p
first_leaf (Two way g a b) = first_leaf a

-- how often a pane is in a tree
abbrev pub times : ℕ → Shape → ℕ
times p (One q) = if (q == p) then 1 else 0
times p (Two way g a b) = times p a + times p b

-- no pane is in a tree twice
abbrev pub AreDistinct : Shape → Type 0
AreDistinct t = (p : ℕ) → times p t ≤ 1

-- each pane has a number from 1 to 9
abbrev pub AreNumbers : Shape → Type 0
AreNumbers (One p) = (1 ≤ p) × (p ≤ 9)
AreNumbers (Two way g a b) = AreNumbers a × AreNumbers b

-- the smallest number from n on that no pane has, among n and the k numbers after it
abbrev pub free_among : ℕ → ℕ → Shape → ℕ
free_among zero n t = n
free_among (suc k) n t = if has n t then free_among k (n + 1) t else n

-- the smallest free number from 1 on
abbrev pub free : Shape → ℕ
free t = free_among 8 1 t

-- a shift that is no larger than any session asks for
abbrev pub IsModest : ℤ → Type 0
IsModest g = (negsuc 599 ≤ℤ g) × (g ≤ℤ pos 600)

abbrev pub AreModest : Shape → Type 0
AreModest (One p) = Unit {0}
AreModest (Two way g a b) = IsModest g × AreModest a × AreModest b

-- ---- splitting and closing

-- another tree in the place of pane p
abbrev pub with_subtree : ℕ → Shape → Shape → Shape
with_subtree p other (One q) = if (q == p) then other else One q
with_subtree p other (Two w g a b) = if has p a then Two w g (with_subtree p other a) b else Two w g a (with_subtree p other b)

-- pane p split in two with the border in the middle, the second of them being pane n
abbrev pub with_split : Way → ℕ → ℕ → Shape → Shape
with_split way p n t = with_subtree p (Two way (pos 0) (One p) (One n)) t

-- pane p gone, its sibling in the place of the split
abbrev pub without_pane : ℕ → Shape → Shape
without_pane p (One q) = One q
without_pane p (Two w g a b) =
    if is_one p a then b
    else if is_one p b then a
    else if has p a then Two w g (without_pane p a) b
    else Two w g a (without_pane p b)

-- the first pane of what takes pane p's place
abbrev pub heir : ℕ → Shape → ℕ
heir p (One q) = q
heir p (Two w g a b) =
    if is_one p a then first_leaf b
    else if is_one p b then first_leaf a
    else if has p a then heir p a
    else heir p b
