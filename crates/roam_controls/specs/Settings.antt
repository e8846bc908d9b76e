-- Settings, and the functions that ask for them.
use Rattle.std.specs.Prelude.{ℕ, ◌==◌, true, false, if◌then◌else◌, List, Option, Some, None}
use Rattle.roam_controls.specs.declared.settings.Setting.{Setting}
use Rattle.roam_controls.specs.declared.settings.Setting.TheVariants.{Mode, PrivateMode, Rendition, Margins, Guard, Keypad, Save, Restore, SoftReset, Reset, SetStop, ClearStop, ClearStops}
use Rattle.roam_controls.specs.Parameters.{first, second, count}

-- HTS (ECMA-48, section 8.3.62)
abbrev pub c1_setting : ℕ → Option Setting
c1_setting b = if b == 0x88 then Some SetStop else None

-- the setting of a parameter of TBC (ECMA-48, section 8.3.154); another one has none
abbrev pub cleared_of : ℕ → Option Setting
cleared_of p =
    if p == 0 then Some ClearStop
    else if p == 3 then Some ClearStops
    else None

-- SM, RM, SGR, TBC (ECMA-48, sections 8.3.125, 8.3.106, 8.3.117, 8.3.154), DECSTBM (VT220)
abbrev pub setting_of : List ℕ → ℕ → Option Setting
setting_of params b =
    if b == 0x6D then Some Rendition
    else if b == 0x68 then Some (Mode true)
    else if b == 0x6C then Some (Mode false)
    else if b == 0x72 then Some (Margins (count (first params)) (second params))
    else if b == 0x67 then cleared_of (first params)
    else None

-- DECSET, DECRST (VT220), after the private marker ?
abbrev pub private_setting : ℕ → Option Setting
private_setting b =
    if b == 0x68 then Some (PrivateMode true)
    else if b == 0x6C then Some (PrivateMode false)
    else None

-- the guard by a parameter of DECSCA (VT220): 0 and 2 end the guard, 1 begins it
abbrev pub guard_of : ℕ → Option Setting
guard_of p =
    if p == 0 then Some (Guard false)
    else if p == 1 then Some (Guard true)
    else if p == 2 then Some (Guard false)
    else None

-- DECSCA, after the intermediate byte "
abbrev pub quoted_setting : List ℕ → ℕ → Option Setting
quoted_setting params b = if b == 0x71 then guard_of (first params) else None

-- DECSTR (VT220), after the intermediate byte !
abbrev pub exclaimed_setting : ℕ → Option Setting
exclaimed_setting b = if b == 0x70 then Some SoftReset else None

-- DECSC, DECRC, DECKPAM, DECKPNM (VT220), RIS (ECMA-48, section 8.3.105)
abbrev pub escape_setting : ℕ → Option Setting
escape_setting b =
    if b == 0x37 then Some Save
    else if b == 0x38 then Some Restore
    else if b == 0x3D then Some (Keypad true)
    else if b == 0x3E then Some (Keypad false)
    else if b == 0x63 then Some Reset
    else None
