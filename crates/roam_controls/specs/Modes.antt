-- Modes: which are set at the start, and which a number sets (ECMA-48, section 7; VT220 Programmer Reference, chapter 4).
use Rattle.std.specs.Prelude.{ℕ, ◌==◌, Bool, true, false, if◌then◌else◌}
use Rattle.roam_controls.specs.declared.modes.Modes.{Modes}

-- autowrap and a visible cursor; all else is reset
abbrev pub started_modes : Modes
started_modes =
    record {
      insert = false;
      newline = false;
      cursor_keys = false;
      reverse_screen = false;
      origin = false;
      autowrap = true;
      cursor_visible = true;
      bracketed_paste = false;
      application_keypad = false;
    }

-- a mode of ECMA-48, by its number: 4 is IRM, 20 is LNM; others are not kept
abbrev pub with_mode : Bool → ℕ → Modes → Modes
with_mode on p m =
    if p == 4 then record m { insert = on }
    else if p == 20 then record m { newline = on }
    else m

-- a private mode, by its number: DECCKM 1, DECSCNM 5, DECOM 6, DECAWM 7, DECTCEM 25, bracketed paste 2004; others are not kept
abbrev pub with_private_mode : Bool → ℕ → Modes → Modes
with_private_mode on p m =
    if p == 1 then record m { cursor_keys = on }
    else if p == 5 then record m { reverse_screen = on }
    else if p == 6 then record m { origin = on }
    else if p == 7 then record m { autowrap = on }
    else if p == 25 then record m { cursor_visible = on }
    else if p == 2004 then record m { bracketed_paste = on }
    else m

-- DECSTR (this project's profile): the cursor is visible, IRM, DECOM and DECCKM are reset, the keypad is numeric; all others stay
abbrev pub soft_reset_modes : Modes → Modes
soft_reset_modes m = record m { insert = false; cursor_keys = false; origin = false; cursor_visible = true; application_keypad = false }
