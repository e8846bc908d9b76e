-- The functions and the text that lead from one screen to another.
use Rattle.std.specs.Prelude.{◌≡◌, ℕ, ◌-◌, Bool, false, if◌then◌else◌, List, [], ◌∷◌, ◌++◌, Option}
use Rattle.std.specs.List.{flat_map}
use Rattle.roam_cells.specs.Glyph.{default_style}
use Rattle.roam_cells.specs.declared.styles.Style.{Style}
use Rattle.roam_screens.specs.Screenshot.{Screenshot}
use Rattle.roam_text.specs.declared.functions.Function.{Function}
use Rattle.roam_term.specs.ControlFunctions.{hide_cursor, show_cursor}
use Rattle.roam_term.specs.Ground.{shown_at}
use Rattle.roam_paint.specs.Painting.{same_size}
use Rattle.roam_scroll_paint.specs.declared.bands.Band.{Band}
use Rattle.roam_scroll_paint.specs.Bands.{FitsBand, drawn_over, preparing}
use Rattle.roam_scroll_paint.specs.Sequences.{text_of}
use Rattle.roam_scroll_paint.specs.Rows.{AreDrawn, placing_at}
use Rattle.roam_scroll_paint.specs.Styles.{styled_from}

-- the default style, if another is set, and the cursor's place
abbrev pub settling : Screenshot → Style → List Function
settling new g = styled_from g default_style ++ placing_at (new.cursor_row - 1) (new.cursor_col - 1) ∷ []

-- the cursor is hidden before, and shown behind if it is visible; or it stays
abbrev pub hiding : Bool → List Function
hiding hides = if hides then hide_cursor ∷ [] else []

abbrev pub revealing : Bool → Bool → List Function
revealing hides visible = if hides then (if visible then show_cursor ∷ [] else []) else []

-- these functions lead from one screen to another: a band moves, rows are drawn, the rest is settled
pub record ArePainting (old new : Screenshot) (fs : List Function) : Type 0 where
  pub band : Option Band
  pub fits : FitsBand new.rows band
  pub style : Style
  pub rows : List Function
  pub drawn : AreDrawn (drawn_over old new band) (shown_at new) new.cols new.rows style rows
  pub hides : Bool
  -- a cursor that isn't hidden already has the right visibility
  pub stays : hides ≡ false → old.visible ≡ new.visible
  pub all : fs ≡ hiding hides ++ (preparing (same_size old new) band ++ (rows ++ (settling new style ++ revealing hides new.visible)))

-- a text of such functions
pub record IsPaintingText (old new : Screenshot) (text : List ℕ) : Type 0 where
  pub functions : List Function
  pub spelled : text ≡ flat_map text_of functions
  pub painting : ArePainting old new functions

-- all of a text but what hides the cursor and shows it
pub record IsBody (old new : Screenshot) (before after : List ℕ) : Type 0 where
  pub band : Option Band
  pub fits : FitsBand new.rows band
  pub style : Style
  pub rows : List Function
  pub drawn : AreDrawn (drawn_over old new band) (shown_at new) new.cols new.rows style rows
  pub added : after ≡ before ++ flat_map text_of (preparing (same_size old new) band ++ (rows ++ settling new style))
