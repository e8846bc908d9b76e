-- The modes of a program's screen, which it may ask for, and whether an update is open (ECMA-48, section 7; DEC VT220, chapter 4; xterm).
use Rattle.std.specs.Prelude.{ℕ, ◌==◌, Bool, true, false, cond, if◌then◌else◌, List, [], ◌∷◌, map}
use Rattle.std.specs.List.{fold}
use Rattle.roam_text.specs.declared.functions.Function.{Function}
use Rattle.roam_text.specs.declared.functions.Function.TheVariants.{Esc, Csi}
use Rattle.roam_text.specs.Log.{Byte}
use Rattle.roam_text.specs.Functions.{functions_of}
use Rattle.roam_pane_metadata.specs.declared.screen_modes.ScreenModes.{ScreenModes}
use Rattle.roam_pane_metadata.specs.declared.settings.Wish.{Wish}
use Rattle.roam_pane_metadata.specs.declared.settings.Wish.TheVariants.{SetModes, ResetModes, SetAnsiModes, ResetAnsiModes, SoftReset}
use Rattle.roam_pane_metadata.specs.Settings.{wish_of}

-- autowrap and a visible cursor; all else is reset, no update is open, and the main screen is shown (this project's profile)
abbrev pub fresh_modes : ScreenModes
fresh_modes = record {
  insert = false;
  newline = false;
  cursor_keys = false;
  reverse_screen = false;
  origin = false;
  autowrap = true;
  cursor_visible = true;
  update = false;
  is_alternate = false;
  main_origin = false;
  alternate_origin = false;
}

-- DECSC keeps DECOM for the screen that is shown (DEC VT220; this project's profile)
abbrev pub origin_saved : ScreenModes → ScreenModes
origin_saved m = cond m.is_alternate (record m { alternate_origin = m.origin }) (record m { main_origin = m.origin })

-- DECRC restores it; if none was kept, DECOM is reset (DEC VT220; this project's profile)
abbrev pub origin_restored : ScreenModes → ScreenModes
origin_restored m = record m { origin = cond m.is_alternate m.alternate_origin m.main_origin }

-- 1049 keeps DECOM for the main screen and shows the alternate one, or shows the main one and restores it; a screen that is shown already
-- stays as it is (xterm; this project's profile)
abbrev pub kept_and_shown : Bool → ScreenModes → ScreenModes
kept_and_shown true m = cond m.is_alternate m (record m { main_origin = m.origin; is_alternate = true })
kept_and_shown false m = cond m.is_alternate (record m { origin = m.main_origin; is_alternate = false }) m

-- a private mode is set or reset: DECCKM 1, DECSCNM 5, DECOM 6, DECAWM 7, DECTCEM 25, an update 2026, and the alternate screen (DECSET and
-- DECRST of the VT220 and of xterm)
abbrev pub private_mode_set : Bool → ScreenModes → ℕ → ScreenModes
private_mode_set on m n =
    if n == 1 then record m { cursor_keys = on } else
    if n == 5 then record m { reverse_screen = on } else
    if n == 6 then record m { origin = on } else
    if n == 7 then record m { autowrap = on } else
    if n == 25 then record m { cursor_visible = on } else
    if n == 47 then record m { is_alternate = on } else
    if n == 1047 then record m { is_alternate = on } else
    if n == 1049 then kept_and_shown on m else
    if n == 2026 then record m { update = on } else
    m

-- a mode of ECMA-48 is set or reset: IRM 4, LNM 20 (SM and RM, ECMA-48 8.3.125 and 8.3.106)
abbrev pub ansi_mode_set : Bool → ScreenModes → ℕ → ScreenModes
ansi_mode_set on m n = if n == 4 then record m { insert = on } else if n == 20 then record m { newline = on } else m

-- DECSTR makes the cursor visible, resets IRM, DECOM and DECCKM, and drops what was kept; all else stays (this project's profile)
abbrev pub soft_reset_modes : ScreenModes → ScreenModes
soft_reset_modes m =
    record m {
      insert = false;
      cursor_keys = false;
      origin = false;
      cursor_visible = true;
      main_origin = false;
      alternate_origin = false;
    }

-- the modes after an escape sequence: RIS (63), which resets all of them, DECSC (37) and DECRC (38)
abbrev pub escaped : List ℕ → ℕ → ScreenModes → ScreenModes
escaped [] last m =
    if last == 0x63 then fresh_modes else if last == 0x37 then origin_saved m else if last == 0x38 then origin_restored m else m
escaped inter last m = m

-- the modes after a request with these parameters, which count in their order
abbrev pub modes_granted : Wish → List ℕ → ScreenModes → ScreenModes
modes_granted SetModes params m = fold (private_mode_set true) m params
modes_granted ResetModes params m = fold (private_mode_set false) m params
modes_granted SetAnsiModes params m = fold (ansi_mode_set true) m params
modes_granted ResetAnsiModes params m = fold (ansi_mode_set false) m params
modes_granted SoftReset params m = soft_reset_modes m
modes_granted wish params m = m

-- the modes after a function; most change nothing
abbrev pub modes_after : ScreenModes → Function → ScreenModes
modes_after m (Esc inter last) = escaped inter.items last m
modes_after m (Csi mark params inter last) = modes_granted (wish_of mark inter.items last) params.items m
modes_after m f = m

-- the modes of the program that wrote these bytes
abbrev pub modes_of : List ℕ → ScreenModes
modes_of bytes = fold modes_after fresh_modes (functions_of (map Byte bytes))
