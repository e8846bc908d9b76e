-- The pictures of the panes of a layout at their views.
use Rattle.std.specs.Prelude.{◌≡◌, ℕ, true, is_some, List, map, Option}
use Rattle.std.specs.List.{All}
use Rattle.std.specs.Coded.{Unit-prop, le_prop}
use Rattle.roam_cells.specs.Glyph.{IsColour}
use Rattle.roam_cells.specs.declared.styles.Colour.{Colour}
use Rattle.roam_cells.specs.declared.styles.Colour.TheVariants.{Default, Index, Rgb}
use Rattle.roam_screens.specs.Screenshot.{Screenshot, IsScreenshot}
use Rattle.roam_term.specs.Stands.{TermView}
use Rattle.roam_layout.specs.Trees.{has}
use Rattle.roam_layout.specs.Layouts.{Plan, panes}
use Rattle.roam_layout.specs.declared.rects.Rect.{Rect}
use Rattle.roam_session.specs.Stands.{shown_by, term_at}

-- the panes of a layout in tree order, each with what its terminal shows at its view
abbrev pub shots_of : Plan → List (Option TermView) → List (ℕ × Screenshot)
shots_of plan terms = map (λ (x : ℕ × Rect). (x.0, shown_by plan terms x.0)) (panes plan)

-- each pane of a layout has a terminal
abbrev pub AreThere : Plan → List (Option TermView) → Type 0
AreThere plan terms = (p : ℕ) → has p plan.tree ≡ true → is_some (term_at terms p) ≡ true

-- the pictures are screens
abbrev pub AreScreens : Plan → List (Option TermView) → Type 0
AreScreens plan terms = All (λ (x : ℕ × Screenshot). IsScreenshot x.1) (shots_of plan terms)

-- a colour is one in no more than one way
pub colour_prop : (c : Colour) → IsProp (IsColour c)
colour_prop Default = Unit-prop
colour_prop (Index n) = le_prop
colour_prop (Rgb r g b) = λ x y i. (le_prop x.0 y.0 i, le_prop x.1 y.1 i, le_prop x.2 y.2 i)
