-- The definitions at worked rows; those that rest on a character's width are in src/tests.rt, since it is opaque here.
use Rattle.std.proofs.Common.{◌≡◌, ℕ, true, false, List, [], ◌∷◌, Some, None, refl}
use Rattle.roam_cells.specs.declared.styles.Style.{Style}
use Rattle.roam_cells.specs.declared.styles.Colour.TheVariants.{Default, Index, Rgb}
use Rattle.roam_cells.specs.Glyph.{Glyph, blank, default_style, right_of}
use Rattle.roam_screens.specs.Screenshot.{Screenshot}
use Rattle.roam_update.specs.CellText.{flags, colour_read, cell_text, glyph_read}
use Rattle.roam_update.specs.ChangeText.{Change, change_text}
use Rattle.roam_update.specs.Styles.{Whole, styles_used, styles_after}
use Rattle.roam_update.specs.TableText.{tabled_text}
use Rattle.roam_update.specs.Runs.{lead, runs_from, runs_between, with_cells_at, patched_cells}
use Rattle.roam_update.specs.Sizes.{sized_at}
use Rattle.roam_update.specs.Tested.{is_size, is_place}

abbrev letter : ℕ → Glyph
letter c = record { points = c ∷ []; style = default_style; guarded = false }

abbrev a : Glyph
a = letter 97

abbrev c : Glyph
c = letter 99

-- bold, underline and strike, in red
abbrev red : Style
red = record default_style { bold = true; underline = true; strike = true; foreground = Index 1 }

red_flags : flags red ≡ 137
red_flags = refl

colours : colour_read 0 0 ∷ colour_read 0 1 ∷ colour_read 1 255 ∷ colour_read 2 0 ∷ [] ≡ Some Default ∷ None ∷ Some (Index 255) ∷ None ∷ []
colours = refl

red_a : cell_text Whole (record a { style = red }) ≡ 1 ∷ 137 ∷ 1 ∷ 1 ∷ 0 ∷ 0 ∷ 0 ∷ 0 ∷ 0 ∷ 97 ∷ []
red_a = refl

a_right_half : cell_text Whole (right_of a) ≡ 0 ∷ 0 ∷ 0 ∷ 0 ∷ 0 ∷ 0 ∷ []
a_right_half = refl

-- three code points with the bytes of two are none
cut_short : glyph_read Whole (3 ∷ 0 ∷ 0 ∷ 0 ∷ 0 ∷ 0 ∷ 0 ∷ 0 ∷ 0 ∷ 97 ∷ 0 ∷ 0 ∷ 3 ∷ 1 ∷ []) ≡ None
cut_short = refl

-- two runs with a place between them, one that goes to the end, none
abbrev base : List Glyph
base = blank ∷ blank ∷ blank ∷ blank ∷ []

two_runs : runs_between base (a ∷ blank ∷ c ∷ blank ∷ []) ≡ record { first = 0; cells = a ∷ [] } ∷ record { first = 2; cells = c ∷ [] } ∷ []
unfolding runs_from lead
two_runs = refl

one_run : runs_between base (blank ∷ a ∷ a ∷ c ∷ []) ≡ record { first = 1; cells = a ∷ a ∷ c ∷ [] } ∷ []
unfolding runs_from lead
one_run = refl

no_run : runs_between base base ≡ []
unfolding runs_from
no_run = refl

put_back : patched_cells base (record { first = 0; cells = a ∷ [] } ∷ record { first = 2; cells = c ∷ a ∷ [] } ∷ []) ≡ a ∷ blank ∷ c ∷ a ∷ []
unfolding patched_cells with_cells_at
put_back = refl

sizes : is_size 2 4 ∷ is_size 200 500 ∷ is_size 1 4 ∷ is_size 2 501 ∷ [] ≡ true ∷ true ∷ false ∷ false ∷ []
sizes = refl

cursors : is_place 2 8 1 1 ∷ is_place 2 8 2 8 ∷ is_place 2 8 0 1 ∷ is_place 2 8 1 9 ∷ [] ≡ true ∷ true ∷ false ∷ false ∷ []
cursors = refl

-- a 2 by 8 with `a` in its first cell and the cursor behind it
abbrev one : Change
one = record { rows = 2; cols = 8; cursor_row = 1; cursor_col = 2; visible = true; runs = record { first = 0; cells = a ∷ [] } ∷ [] }

one_text : change_text one
    ≡ 0 ∷ 2 ∷ 0 ∷ 8 ∷ 0 ∷ 1 ∷ 0 ∷ 2 ∷ 1 ∷ 0 ∷ 0 ∷ 0 ∷ 1 ∷ 0 ∷ 0 ∷ 0 ∷ 0 ∷ 0 ∷ 0 ∷ 0 ∷ 1 ∷ 1 ∷ 0 ∷ 0 ∷ 0 ∷ 0 ∷ 0 ∷ 0 ∷ 0 ∷ 0 ∷ 97 ∷ []
one_text = refl

-- a wide cell that is not cut stays, and a new place is blank
abbrev wide : Screenshot
wide = record { rows = 1; cols = 2; cells = letter 0x4E2D ∷ right_of blank ∷ []; cursor_row = 1; cursor_col = 1; visible = true }

kept : sized_at 3 wide 0 0 ≡ letter 0x4E2D
kept = refl

new_place : sized_at 3 wide 0 2 ≡ blank
new_place = refl

-- the same in a mixture of red, green and blue, with a table
abbrev mixed : Change
mixed =
    record {
      rows = 2;
      cols = 8;
      cursor_row = 1;
      cursor_col = 2;
      visible = true;
      runs = record { first = 0; cells = record a { style = record default_style { foreground = Rgb 10 20 30 } } ∷ [] } ∷ [];
    }

mixed_text : tabled_text mixed
    ≡ 0 ∷ 2 ∷ 0 ∷ 8 ∷ 0 ∷ 1 ∷ 0 ∷ 2 ∷ 1 ∷ 0 ∷ 0 ∷ 1 ∷ 0 ∷ 2 ∷ 10 ∷ 20 ∷ 30 ∷ 0 ∷ 0 ∷ 0 ∷ 0 ∷ 0 ∷ 0 ∷ 0 ∷ 1
    ∷ 0 ∷ 0 ∷ 0 ∷ 0 ∷ 0 ∷ 0 ∷ 0 ∷ 1 ∷ 1 ∷ 0 ∷ 0 ∷ 0 ∷ 0 ∷ 0 ∷ 0 ∷ 97 ∷ []
unfolding styles_used styles_after
mixed_text = refl
