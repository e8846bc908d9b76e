-- The settings of a program's functions outside its screen (xterm's control sequences; DECSCUSR of the VT510).
use Rattle.std.specs.Prelude.{ℕ, ◌+◌, ◌==◌, ◌||◌, ◌&&◌, Bool, true, false, cond, nat_lt, min, if◌then◌else◌, List, [], ◌∷◌, map, Option, None, Some}
use Rattle.std.specs.List.{fold}
use Rattle.roam_text.specs.declared.functions.Function.{Function}
use Rattle.roam_text.specs.declared.functions.Function.TheVariants.{C0, Esc, Csi}
use Rattle.roam_text.specs.Log.{Byte}
use Rattle.roam_text.specs.Functions.{functions_of}
use Rattle.roam_pane_metadata.specs.declared.settings.Tracking.{Tracking}
use Rattle.roam_pane_metadata.specs.declared.settings.Tracking.TheVariants.{Off, Buttons, Drags, Motion}
use Rattle.roam_pane_metadata.specs.declared.settings.Settings.{Settings}
use Rattle.roam_pane_metadata.specs.declared.settings.Wish.{Wish}
use Rattle.roam_pane_metadata.specs.declared.settings.Wish.TheVariants.{Nothing, SetModes, ResetModes, SetAnsiModes, ResetAnsiModes, Keys, PlainKeys, Shape, SoftReset}

-- the most that is counted
abbrev pub most_counted : ℕ
most_counted = 18446744073709551615

-- one more
abbrev pub counted : ℕ → ℕ
counted n = min most_counted (n + 1)

-- nothing was set, and no bell rang
abbrev pub fresh_settings : Settings
fresh_settings = record {
  tracking = Off;
  sgr_reports = false;
  focus_reports = false;
  bracketed_paste = false;
  alternate_screen = false;
  application_keypad = false;
  other_keys = 0;
  shape = 0;
  bells = 0;
}

-- RIS resets all that a program sets; a bell that rang it doesn't take back
abbrev pub reset_settings : Settings → Settings
reset_settings s = record fresh_settings { bells = s.bells }

-- of the modes that ask for reports of the mouse one counts, and a reset of any is one of all (xterm)
abbrev pub with_tracking : Bool → Tracking → Settings → Settings
with_tracking true t s = record s { tracking = t }
with_tracking false t s = record s { tracking = Off }

-- a private mode is set or reset (DECSET and DECRST of xterm)
abbrev pub mode_set : Bool → Settings → ℕ → Settings
mode_set on s n =
    if n == 1000 then with_tracking on Buttons s else
    if n == 1002 then with_tracking on Drags s else
    if n == 1003 then with_tracking on Motion s else
    if n == 1004 then record s { focus_reports = on } else
    if n == 1006 then record s { sgr_reports = on } else
    if n == 2004 then record s { bracketed_paste = on } else
    if n == 47 then record s { alternate_screen = on } else
    if n == 1047 then record s { alternate_screen = on } else
    if n == 1049 then record s { alternate_screen = on } else
    s

-- the request about modifyOtherKeys, 4 among the resources: 1 or 2, or its initial value, 0; without any number all resources get that
-- (XTMODKEYS of xterm)
abbrev pub keys_asked : List ℕ → ℕ → ℕ
keys_asked [] before = before
keys_asked (p ∷ []) before = cond (p == 0 || p == 4) 0 before
keys_asked (p ∷ level ∷ more) before = cond (p == 4) (if level == 1 then 1 else if level == 2 then 2 else 0) before

-- modifyOtherKeys is off (XTMODKEYS of xterm, disabling)
abbrev pub keys_disabled : List ℕ → ℕ → ℕ
keys_disabled [] before = before
keys_disabled (p ∷ more) before = cond (p == 4) 0 before

-- the shape that is asked for, 0 to 6; another is none (DECSCUSR)
abbrev pub shape_asked : List ℕ → ℕ → ℕ
shape_asked [] before = before
shape_asked (n ∷ more) before = cond (nat_lt n 7) n before

-- the request of a control sequence, by its private marker, its intermediate bytes and its final byte
abbrev pub wish_of : Option ℕ → List ℕ → ℕ → Wish
wish_of (Some mark) [] last =
    if (mark == 0x3F && last == 0x68) then SetModes else
    if (mark == 0x3F && last == 0x6C) then ResetModes else
    if (mark == 0x3E && last == 0x6D) then Keys else
    if (mark == 0x3E && last == 0x6E) then PlainKeys else
    Nothing
wish_of None [] last = if last == 0x68 then SetAnsiModes else if last == 0x6C then ResetAnsiModes else Nothing
wish_of None (b ∷ []) last = if (b == 0x20 && last == 0x71) then Shape else if (b == 0x21 && last == 0x70) then SoftReset else Nothing
wish_of mark inter last = Nothing

-- the settings after a request with these parameters
abbrev pub granted : Wish → List ℕ → Settings → Settings
granted Nothing params s = s
granted SetModes params s = fold (mode_set true) s params
granted ResetModes params s = fold (mode_set false) s params
granted Keys params s = record s { other_keys = keys_asked params s.other_keys }
granted PlainKeys params s = record s { other_keys = keys_disabled params s.other_keys }
granted Shape params s = record s { shape = shape_asked params s.shape }
granted SetAnsiModes params s = s
granted ResetAnsiModes params s = s
granted SoftReset params s = record s { application_keypad = false }

-- RIS, ESC 63 (ECMA-48 8.3.105)
abbrev pub resets : List ℕ → ℕ → Bool
resets [] last = last == 0x63
resets inter last = false

-- Application mode of the keypad after an escape sequence: DECKPAM, ESC =, sets it, and DECKPNM, ESC >, resets it (DEC VT220, chapter 4)
abbrev pub keypad_after : List ℕ → ℕ → Bool → Bool
keypad_after [] last before = if last == 0x3D then true else if last == 0x3E then false else before
keypad_after inter last before = before

-- the settings after a function; most change nothing
abbrev pub heard : Settings → Function → Settings
heard s (C0 b) = cond (b == 7) (record s { bells = counted s.bells }) s
heard s (Esc inter last) =
    cond (resets inter.items last) (reset_settings s)
    (record s { application_keypad = keypad_after inter.items last s.application_keypad })
heard s (Csi mark params inter last) = granted (wish_of mark inter.items last) params.items s
heard s f = s

-- the settings of the program that wrote these bytes
abbrev pub settings_of : List ℕ → Settings
settings_of bytes = fold heard fresh_settings (functions_of (map Byte bytes))
