-- Equality of two cells, as a test that computes.
use Rattle.std.specs.Prelude.{ℕ, Bool, true, false, ◌&&◌, ◌==◌, List, [], ◌∷◌}
use mathlib.Core.Bool.{beq}
use Rattle.roam_cells.specs.Glyph.{Glyph}
use Rattle.roam_cells.specs.declared.styles.Style.{Style}
use Rattle.roam_cells.specs.declared.styles.Colour.{Colour}
use Rattle.roam_cells.specs.declared.styles.Colour.TheVariants.{Default, Index, Rgb}

-- the same code points in the same order
abbrev pub same_points : List ℕ → List ℕ → Bool
same_points [] [] = true
same_points (x ∷ xs) (y ∷ ys) = (x == y) && same_points xs ys
same_points [] (y ∷ ys) = false
same_points (x ∷ xs) [] = false

-- the same colour
abbrev pub same_colour : Colour → Colour → Bool
same_colour Default Default = true
same_colour (Index a) (Index b) = a == b
same_colour (Rgb r g b) (Rgb x y z) = (r == x) && ((g == y) && (b == z))
same_colour Default (Index b) = false
same_colour Default (Rgb x y z) = false
same_colour (Index a) Default = false
same_colour (Index a) (Rgb x y z) = false
same_colour (Rgb r g b) Default = false
same_colour (Rgb r g b) (Index c) = false

-- the same flags and colours
abbrev pub same_style : Style → Style → Bool
same_style s t =
    beq s.bold t.bold && (beq s.faint t.faint && (beq s.italic t.italic && (beq s.underline t.underline && (beq s.blink t.blink
    && (beq s.reverse t.reverse && (beq s.conceal t.conceal && (beq s.strike t.strike
    && (same_colour s.foreground t.foreground && same_colour s.background t.background))))))))

-- the same code points, style and guard
abbrev pub same : Glyph → Glyph → Bool
same a b = same_points a.points b.points && (same_style a.style b.style && beq a.guarded b.guarded)
