-- The bytes of keys, at worked rows.
use Rattle.std.proofs.Common.{◌≡◌, true, false, List, [], ◌∷◌, map, refl}
use Rattle.roam_keys.specs.declared.keys.Key.{Key}
use Rattle.roam_keys.specs.declared.keys.Key.TheVariants.{F15, Pad7, PadEnter, Pf3, Prev, Return, Up}
use Rattle.roam_keys.specs.declared.sent.KeyModes.{KeyModes}
use Rattle.roam_keys.specs.Sent.{bytes_of_key}

abbrev typed_keys : List Key
typed_keys = Up ∷ Pf3 ∷ Prev ∷ F15 ∷ Pad7 ∷ PadEnter ∷ Return ∷ []

abbrev normal : KeyModes
normal = record { application_cursor = false; application_keypad = false; new_line = false }

plainly : map (bytes_of_key normal) typed_keys
    ≡ (0x1B ∷ 0x5B ∷ 0x41 ∷ []) ∷ (0x1B ∷ 0x4F ∷ 0x52 ∷ []) ∷ (0x1B ∷ 0x5B ∷ 0x35 ∷ 0x7E ∷ [])
    ∷ (0x1B ∷ 0x5B ∷ 0x32 ∷ 0x38 ∷ 0x7E ∷ []) ∷ (0x37 ∷ []) ∷ (0x0D ∷ []) ∷ (0x0D ∷ []) ∷ []
plainly = refl

abbrev all_set : KeyModes
all_set = record { application_cursor = true; application_keypad = true; new_line = true }

with_modes : map (bytes_of_key all_set) typed_keys
    ≡ (0x1B ∷ 0x4F ∷ 0x41 ∷ []) ∷ (0x1B ∷ 0x4F ∷ 0x52 ∷ []) ∷ (0x1B ∷ 0x5B ∷ 0x35 ∷ 0x7E ∷ [])
    ∷ (0x1B ∷ 0x5B ∷ 0x32 ∷ 0x38 ∷ 0x7E ∷ []) ∷ (0x1B ∷ 0x4F ∷ 0x77 ∷ []) ∷ (0x1B ∷ 0x4F ∷ 0x4D ∷ []) ∷ (0x0D ∷ 0x0A ∷ []) ∷ []
with_modes = refl
