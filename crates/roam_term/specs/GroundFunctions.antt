-- The effect of control functions and characters on a ground terminal, in whatever style.
use Rattle.std.specs.Prelude.{◌≡◌, ℕ, ◌+◌, ◌-◌, ◌*◌, ◌<◌, ◌≤◌, true, false, List, [], ◌∷◌, length, None, Some}
use Rattle.roam_cells.specs.Glyph.{IsColour, IsStyle, Glyph, is_wide, right_of, blank}
use Rattle.roam_cells.specs.Place.{cell_at}
use Rattle.roam_screens.specs.Screenshot.{blank_screenshot}
use Rattle.roam_cells.specs.Width.{width_of, is_joiner}
use Rattle.roam_cells.specs.declared.styles.Style.{Style}
use Rattle.roam_cells.specs.declared.styles.Colour.TheVariants.{Rgb}
use Rattle.roam_controls.specs.Renditions.{coloured_style}
use Rattle.roam_controls.specs.declared.renditions.Layer.{Layer}
use Rattle.roam_grid.specs.Screen.{Screen}
use Rattle.roam_grid.specs.Writing.{columns, joined_on}
use Rattle.roam_rows.specs.Places.{in_row, mapped_cells}
use Rattle.roam_rows.specs.Writing.{writing_source}
use Rattle.roam_text.specs.declared.functions.Function.TheVariants.{Print}
use Rattle.roam_term.specs.ControlFunctions.{layer_code, plain_style, mixture, hide_cursor, show_cursor, erase_all, place_cursor, reset_all, set_style}
use Rattle.roam_term.specs.Ground.{IsGround, ShowsScreen, IsSized, in_style}
use Rattle.roam_term.specs.Terminal.{Live, changed_by}

-- CUP puts the cursor to a row and a column within the screen, and no wrap pends
abbrev pub CursorIsPlaced : Type 0
CursorIsPlaced =
    (t : Live) (g : Style) (row col : ℕ) → IsGround t → 1 ≤ row → row ≤ t.screen.rows → 1 ≤ col → col ≤ t.screen.cols
    → changed_by (place_cursor row col) (in_style g t)
    ≡ in_style g (record t { screen = record t.screen { row = row - 1; col = col - 1; pending = false }; printed = None })

-- SGR sets a style without its mixtures, whatever style was set
abbrev pub StyleIsSet : Type 0
StyleIsSet = (t : Live) (g s : Style) → IsGround t → IsStyle s
    → changed_by (set_style s) (in_style g t) ≡ in_style (plain_style s) (record t { printed = None })

-- SGR with 38 or 48 and 2 sets a mixture of three bytes, and nothing else of a style
abbrev pub MixtureIsSet : Type 0
MixtureIsSet = (t : Live) (s : Style) (layer : Layer) (r g b : ℕ) → IsGround t → IsColour (Rgb r g b)
    → changed_by (mixture (layer_code layer) r g b) (in_style s t)
    ≡ in_style (coloured_style layer (Rgb r g b) s) (record t { printed = None })

-- DECTCEM hides the cursor, and shows it
abbrev pub CursorIsHidden : Type 0
CursorIsHidden =
    (t : Live) (g : Style) → IsGround t
    → changed_by hide_cursor (in_style g t) ≡ in_style g (record t { modes = record t.modes { cursor_visible = false }; printed = None })

abbrev pub CursorIsShown : Type 0
CursorIsShown =
    (t : Live) (g : Style) → IsGround t
    → changed_by show_cursor (in_style g t) ≡ in_style g (record t { modes = record t.modes { cursor_visible = true }; printed = None })

-- each place is blank; the cursor stays, and no wrap pends
pub record IsErased (g : Style) (t u : Live) : Type 0 where
  pub cells : List Glyph
  pub is : u ≡ in_style g (record t { screen = record t.screen { cells = cells; pending = false }; printed = None })
  pub count : length cells ≡ t.screen.rows * t.screen.cols
  pub shows : (r c : ℕ) → r < t.screen.rows → c < t.screen.cols → cell_at t.screen.cols cells r c ≡ blank

-- ED 2, in whatever style
abbrev pub AllIsErased : Type 0
AllIsErased = (t : Live) (g : Style) → IsGround t → IsErased g t (changed_by erase_all (in_style g t))

-- the cells after one was written at the cursor
abbrev pub with_cell : Glyph → Screen → List Glyph
with_cell x s = mapped_cells s.rows s.cols s.cells (in_row s.row (writing_source x s.col))

-- a character in a style
abbrev pub character_in : Style → ℕ → Glyph
character_in g c = record { points = c ∷ []; style = g; guarded = false }

-- the character is written at the cursor, with its right half beside it if it is wide; the cursor goes behind it, and stays in the last
-- column with a wrap pending if it ends there
pub record IsPrinted (g : Style) (c : ℕ) (t u : Live) : Type 0 where
  pub inside : t.screen.col + columns (character_in g c) < t.screen.cols
      → u ≡ in_style g (record t {
        screen =
            record t.screen {
              cells = with_cell (character_in g c) t.screen;
              col = t.screen.col + columns (character_in g c);
              pending = false;
            };
        printed = Some c;
      })
  pub last : t.screen.cols ≤ t.screen.col + columns (character_in g c)
      → u ≡ in_style g (record t {
        screen = record t.screen { cells = with_cell (character_in g c) t.screen; col = t.screen.cols - 1; pending = true };
        printed = Some c;
      })
  pub there : cell_at t.screen.cols (with_cell (character_in g c) t.screen) t.screen.row t.screen.col ≡ character_in g c
  pub half : is_wide (character_in g c) ≡ true
      → cell_at t.screen.cols (with_cell (character_in g c) t.screen) t.screen.row (t.screen.col + 1) ≡ right_of (character_in g c)

-- a character of one or two columns that fits in the row, with no wrap pending
abbrev pub CharacterIsPrinted : Type 0
CharacterIsPrinted =
    (t : Live) (g : Style) (c : ℕ) → IsGround t → t.screen.pending ≡ false → 1 ≤ width_of c
    → (is_wide (character_in g c) ≡ true → t.screen.col + 1 < t.screen.cols)
    → IsPrinted g c t (changed_by (Print c) (in_style g t))

-- a joining character changes cells alone, and REP's character stays
abbrev pub CharacterIsJoined : Type 0
CharacterIsJoined =
    (t : Live) (g : Style) (c : ℕ) → IsGround t → is_joiner c ≡ true
    → changed_by (Print c) (in_style g t) ≡ in_style g (record t { screen = joined_on c t.screen })

-- a ground terminal of the same size, which shows a blank screen of that size or of a smaller one
pub record IsBegun (t u : Live) : Type 0 where
  pub ground : IsGround u
  pub shows : (height width : ℕ) → height ≤ t.screen.rows → width ≤ t.screen.cols → ShowsScreen u (blank_screenshot height width)
  pub size : IsSized t u

-- RIS, on any terminal
abbrev pub AllIsReset : Type 0
AllIsReset = (t : Live) → 1 ≤ t.screen.rows → 1 ≤ t.screen.cols → IsBegun t (changed_by reset_all t)
