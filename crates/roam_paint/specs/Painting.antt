-- The functions and bytes that lead a terminal from one screen to another. Everything is defined place by place; a place outside a screen
-- counts as blank.
use Rattle.std.specs.Prelude.{ℕ, zero, suc, ◌+◌, ◌-◌, ◌==◌, ◌&&◌, ◌||◌, not, nat_lt, Bool, if◌then◌else◌, List, [], ◌∷◌, ◌++◌, map}
use Rattle.std.specs.List.{flat_map}
use Rattle.roam_cells.specs.Glyph.{Glyph, is_wide, is_right_half, blank, default_style}
use Rattle.roam_screens.specs.Screenshot.{Screenshot}
use Rattle.roam_cells.specs.declared.styles.Style.{Style}
use Rattle.roam_text.specs.declared.functions.Function.{Function}
use Rattle.roam_text.specs.declared.functions.Function.TheVariants.{Print}
use Rattle.roam_cells.specs.Same.{same, same_style}
use Rattle.roam_term.specs.Ground.{shown_at}
use Rattle.roam_term.specs.ControlFunctions.{hide_cursor, show_cursor, erase_all, place_cursor, reset_all, set_style, restyle}
use Rattle.roam_paint.specs.Sequences.{spelling_of}

-- ---- the places

-- the cell at each row and column, both from 0
abbrev pub Places : Type 0
Places = ℕ → ℕ → Glyph

-- whether two screens have one size
abbrev pub same_size : Screenshot → Screenshot → Bool
same_size old new = (old.rows == new.rows) && (old.cols == new.cols)

-- the cells to be painted over: a screen of another size is erased first
abbrev pub painted_over : Screenshot → Screenshot → Places
painted_over old new r c = if same_size old new then shown_at old r c else blank

-- whether a place is to show something else
abbrev pub differs : Screenshot → Screenshot → ℕ → ℕ → Bool
differs old new r c = not (same (painted_over old new r c) (shown_at new r c))

-- ---- runs: the maximal runs of differing places in a row, widened to whole wide cells of the new screen

-- a cell begins here, and it or its right half differs
abbrev pub is_drawn : (ℕ → ℕ → Bool) → Places → ℕ → ℕ → Bool
is_drawn d new r c = not (is_right_half (new r c)) && (d r c || (is_wide (new r c) && d r (c + 1)))

-- the place is in the run of the place before it
abbrev pub goes_on : (ℕ → ℕ → Bool) → ℕ → ℕ → Bool
goes_on d r c = nat_lt 0 c && (d r (c - 1) && d r c)

-- ---- row by row

-- the cursor is placed at the beginning of a run
abbrev pub placing : (ℕ → ℕ → Bool) → ℕ → ℕ → List Function
placing d r c = if goes_on d r c then [] else place_cursor (r + 1) (c + 1) ∷ []

-- a style is set if it isn't the current one
abbrev pub styling : Style → Style → List Function
styling s g = if same_style s g then [] else restyle s

-- one place, with the style that is set before it; a right half prints nothing of its own
unfoldable pub drawn_cell : (ℕ → ℕ → Bool) → Places → ℕ → ℕ → Style → List Function
drawn_cell d new r c g =
    if is_drawn d new r c then placing d r c ++ (styling (new r c).style g ++ map Print (new r c).points)
    else []

-- the style that is set after a place
unfoldable pub style_after : (ℕ → ℕ → Bool) → Places → ℕ → ℕ → Style → Style
style_after d new r c g = if is_drawn d new r c then (new r c).style else g

-- the style that is set before a place of a row
abbrev pub style_in : (ℕ → ℕ → Bool) → Places → ℕ → Style → ℕ → Style
style_in d new r g zero = g
style_in d new r g (suc c) = style_after d new r c (style_in d new r g c)

-- the first places of a row
abbrev pub drawn_row : (ℕ → ℕ → Bool) → Places → ℕ → Style → ℕ → List Function
drawn_row d new r g zero = []
drawn_row d new r g (suc c) = drawn_row d new r g c ++ drawn_cell d new r c (style_in d new r g c)

-- the style that is set before a row: at first the default
abbrev pub style_at : (ℕ → ℕ → Bool) → Places → ℕ → ℕ → Style
style_at d new cols zero = default_style
style_at d new cols (suc r) = style_in d new r (style_at d new cols r) cols

-- the first rows
abbrev pub drawn_rows : (ℕ → ℕ → Bool) → Places → ℕ → ℕ → List Function
drawn_rows d new cols zero = []
drawn_rows d new cols (suc r) = drawn_rows d new cols r ++ drawn_row d new r (style_at d new cols r) cols

-- the cursor is hidden, and if sizes differ all is erased
abbrev pub opening : Screenshot → Screenshot → List Function
opening old new = hide_cursor ∷ (if same_size old new then [] else erase_all ∷ [])

-- the default style, the cursor at its place, and shown if it is visible
abbrev pub closing : Screenshot → List Function
closing new = set_style default_style ∷ place_cursor new.cursor_row new.cursor_col ∷ (if new.visible then show_cursor ∷ [] else [])

-- all that leads from one screen to another
unfoldable pub functions_between : Screenshot → Screenshot → List Function
functions_between old new = opening old new ++ (drawn_rows (differs old new) (shown_at new) new.cols new.rows ++ closing new)

-- ---- as text

-- the text that leads from one screen to another
unfoldable pub text_between : Screenshot → Screenshot → List ℕ
text_between old new = flat_map spelling_of (functions_between old new)

-- the text that makes a blank screen of any terminal state
abbrev pub blanking_text : List ℕ
blanking_text = spelling_of reset_all
