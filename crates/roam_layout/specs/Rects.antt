-- The rectangles of a tree's panes and borders (this project's profile).
use Rattle.std.specs.Prelude.{◌≡◌, ℕ, ℤ, pos, negsuc, ◌+ℤ◌, ◌-ℤ◌, int_le, ◌+◌, ◌-◌, ◌/◌, ◌≤◌, min, max, Bool, ◌==◌, ◌&&◌, nat_le, nat_lt, List, [], ◌∷◌, ◌++◌, Option, Some, None, if◌then◌else◌}
use Rattle.roam_layout.specs.Trees.{Shape, One, Two, least, least_rows, least_cols, has, is_one}
use Rattle.roam_layout.specs.declared.rects.Way.{Way}
use Rattle.roam_layout.specs.declared.rects.Way.TheVariants.{Right, Down}
use Rattle.roam_layout.specs.declared.rects.Rect.{Rect}

-- ---- the parts of a split

-- a rectangle's length along a way: columns to the right, rows down
abbrev pub length_along : Way → Rect → ℕ
length_along Right r = r.cols
length_along Down r = r.rows

-- the part of a rectangle from its column or row k, counted from 0, over n columns or rows
abbrev pub part : Way → ℕ → ℕ → Rect → Rect
part Right k n r = record { row = r.row; col = r.col + k; rows = r.rows; cols = n }
part Down k n r = record { row = r.row + k; col = r.col; rows = n; cols = r.cols }

-- its first n columns or rows
abbrev pub front : Way → ℕ → Rect → Rect
front Right n r = record { row = r.row; col = r.col; rows = r.rows; cols = n }
front Down n r = record { row = r.row; col = r.col; rows = n; cols = r.cols }

-- a whole number pushed into the range from low to high
abbrev pub nearest_in_range : ℤ → ℕ → ℕ → ℕ
nearest_in_range (pos n) low high = max low (min n high)
nearest_in_range (negsuc n) low high = low

-- half of the length that the border leaves
abbrev pub middle : ℕ → ℕ
middle whole = (whole - 1) / 2

-- the most that a split's first child may have
abbrev pub most_first : Way → Shape → Rect → ℕ
most_first w b r = length_along w r - 1 - least w b

-- the first child's length: the middle and the shift, pushed into what both children's least lengths allow
abbrev pub first_length : Way → ℤ → Shape → Shape → Rect → ℕ
first_length w g a b r = nearest_in_range (pos (middle (length_along w r)) +ℤ g) (least w a) (most_first w b r)

-- the rectangles of a split's first child, its border and its second child
abbrev pub first_part : Way → ℤ → Shape → Shape → Rect → Rect
first_part w g a b r = front w (first_length w g a b r) r

abbrev pub border_part : Way → ℤ → Shape → Shape → Rect → Rect
border_part w g a b r = part w (first_length w g a b r) 1 r

abbrev pub second_part : Way → ℤ → Shape → Shape → Rect → Rect
second_part w g a b r =
    part w (first_length w g a b r + 1) (length_along w r - first_length w g a b r - 1) r

-- ---- panes and borders

-- the panes with their rectangles, in tree order
abbrev pub rects_of : Shape → Rect → List (ℕ × Rect)
rects_of (One p) r = (p, r) ∷ []
rects_of (Two w g a b) r = rects_of a (first_part w g a b r) ++ rects_of b (second_part w g a b r)

-- the borders of the splits, each with its split's way, in tree order
abbrev pub borders : Shape → Rect → List (Way × Rect)
borders (One p) r = []
borders (Two w g a b) r =
    borders a (first_part w g a b r) ++ (w, border_part w g a b r) ∷ borders b (second_part w g a b r)

-- the rectangle of pane p in a tree that has it
abbrev pub spot : ℕ → Shape → Rect → Rect
spot p (One q) r = r
spot p (Two w g a b) r = if has p a then spot p a (first_part w g a b r) else spot p b (second_part w g a b r)

-- the rectangle of pane p in a list
abbrev pub rect_in : ℕ → List (ℕ × Rect) → Option Rect
rect_in p [] = None
rect_in p (x ∷ xs) = if (x.0 == p) then Some x.1 else rect_in p xs

-- a tree's least size is no more than a rectangle's
abbrev pub Fits : Shape → Rect → Type 0
Fits t r = (least_rows t ≤ r.rows) × (least_cols t ≤ r.cols)

abbrev pub fits_in : Shape → Rect → Bool
fits_in t r = nat_le (least_rows t) r.rows && nat_le (least_cols t) r.cols

-- a rectangle on a screen of at most 200 rows and 500 columns
abbrev pub IsOnScreen : Rect → Type 0
IsOnScreen r = (r.rows ≤ 200) × (r.cols ≤ 500) × (r.row + r.rows ≤ 201) × (r.col + r.cols ≤ 501)

-- whether a pane's rectangle can be split: two panes of least size and the border
abbrev pub is_roomy : Way → Rect → Bool
is_roomy Right r = nat_le 9 r.cols
is_roomy Down r = nat_le 5 r.rows

-- ---- growing

-- a split whose first child should have a length: its shift is set so that this length results; none if a child would be too small
abbrev pub after_stretch : Way → ℤ → Shape → Shape → Rect → Option Shape
after_stretch w wanted a b r =
    if int_le (pos (least w a)) wanted && int_le wanted (pos (most_first w b r))
    then Some (Two w (wanted -ℤ pos (middle (length_along w r))) a b)
    else None

abbrev pub with_first : Way → ℤ → Shape → Option Shape → Option Shape
with_first w g b None = None
with_first w g b (Some a) = Some (Two w g a b)

abbrev pub with_second : Way → ℤ → Shape → Option Shape → Option Shape
with_second w g a None = None
with_second w g a (Some b) = Some (Two w g a b)

-- a tree in a rectangle after pane p grew by d along its own split, the split that it is a child of
abbrev pub after_growth : ℕ → ℤ → Shape → Rect → Option Shape
after_growth p d (One q) r = None
after_growth p d (Two w g a b) r =
    if is_one p a then after_stretch w (pos (first_length w g a b r) +ℤ d) a b r
    else if is_one p b then after_stretch w (pos (first_length w g a b r) -ℤ d) a b r
    else if has p a then with_first w g b (after_growth p d a (first_part w g a b r))
    else with_second w g a (after_growth p d b (second_part w g a b r))

-- ---- places

-- whether k is among the n numbers from the first on
abbrev pub within : ℕ → ℕ → ℕ → Bool
within first n k = nat_le first k && nat_lt k (first + n)

-- whether a place is in a rectangle
abbrev pub inside : ℕ → ℕ → Rect → Bool
inside r c x = within x.row x.rows r && within x.col x.cols c

-- 1 if a place is in a rectangle, else 0
abbrev pub once : ℕ → ℕ → Rect → ℕ
once r c x = if inside r c x then 1 else 0

-- in how many rectangles of a list a place is
abbrev pub hits : {A : Type 0} → ℕ → ℕ → List (A × Rect) → ℕ
hits r c [] = 0
hits r c (x ∷ xs) = once r c x.1 + hits r c xs

-- each place of a rectangle is in exactly one of these panes and borders, and no place outside it is in any
abbrev pub Covers : List (ℕ × Rect) → List (Way × Rect) → Rect → Type 0
Covers panes edges x = (r c : ℕ) → hits r c panes + hits r c edges ≡ once r c x
