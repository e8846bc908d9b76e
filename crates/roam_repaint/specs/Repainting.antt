-- The functions that paint a screen over whatever a terminal shows, and leave it in a style and with a wrap pending or not.
use Rattle.std.specs.Prelude.{ℕ, ◌-◌, ◌==◌, Bool, if◌then◌else◌, List, [], ◌∷◌, ◌++◌, map, Some, None}
use Rattle.std.specs.List.{flat_map}
use Rattle.roam_cells.specs.Glyph.{Glyph, default_style}
use Rattle.roam_cells.specs.declared.styles.Style.{Style}
use Rattle.roam_screens.specs.Screenshot.{Screenshot, blank_screenshot}
use Rattle.roam_text.specs.declared.functions.Function.{Function}
use Rattle.roam_text.specs.declared.functions.Function.TheVariants.{Print, C0, Esc}
use Rattle.roam_term.specs.ControlFunctions.{csi, restyle, set_style}
use Rattle.roam_term.specs.Ground.{shown_at}
use Rattle.roam_paint.specs.Painting.{functions_between}
use Rattle.roam_paint.specs.Sequences.{spelling_of}

-- a screen to paint; true if the cell at its cursor is written last, so that a wrap is pending; the style at the end; and DECAWM at the end
pub record Repaint : Type 0 where
  pub shot : Screenshot
  pub pending : Bool
  pub style : Style
  pub wraps : Bool

-- ASCII is designated to G0 (ECMA-35 14.3.2), and G0 is invoked (SI, ECMA-48 8.3.119)
abbrev pub designate_ascii : Function
designate_ascii = Esc (record { items = 0x28 ∷ [] }) 0x42

abbrev pub invoke_g0 : Function
invoke_g0 = C0 0x0F

-- lines wrap, and don't (DECAWM, VT220 Programmer Reference)
abbrev pub wrap_on : Function
wrap_on = csi (Some 0x3F) (7 ∷ []) 0x68

abbrev pub wrap_off : Function
wrap_off = csi (Some 0x3F) (7 ∷ []) 0x6C

-- the margins are the first and the last row (DECSTBM, VT220 Programmer Reference)
abbrev pub full_margins : Function
full_margins = csi None (0 ∷ []) 0x72

-- a screen that is blank and has another size, over which all is painted
abbrev pub other_screen : Screenshot → Screenshot
other_screen s = if s.rows == 2 then blank_screenshot 3 4 else blank_screenshot 2 4

-- the cell at the cursor
abbrev pub cell_there : Screenshot → Glyph
cell_there s = shown_at s (s.cursor_row - 1) (s.cursor_col - 1)

-- it is written again at its place: if it ends in the last column a wrap is pending then
abbrev pub rewritten : Glyph → List Function
rewritten x = restyle x.style ++ map Print x.points

-- the terminal's state at the end
abbrev pub finishing : Repaint → List Function
finishing r =
    (if r.pending then rewritten (cell_there r.shot) else []) ++ (restyle r.style ++ (if r.wraps then [] else wrap_off ∷ []))

-- behind the designation and SI
unfoldable pub repainting_rest : Repaint → List Function
repainting_rest r =
    wrap_on ∷ full_margins ∷ set_style default_style ∷ (functions_between (other_screen r.shot) r.shot ++ finishing r)

-- all of them
abbrev pub repainting : Repaint → List Function
repainting r = designate_ascii ∷ invoke_g0 ∷ repainting_rest r

-- their text
abbrev pub repaint_text : Repaint → List ℕ
repaint_text r = 0x1B ∷ 0x28 ∷ 0x42 ∷ 0x0F ∷ flat_map spelling_of (repainting_rest r)
