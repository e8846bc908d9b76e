-- The names and the numbers of the keys (this project's profile; the keys are those of the VT220 Programmer Reference, chapter 3).
use Rattle.std.specs.Prelude.{ℕ, ◌==◌, List, [], ◌∷◌, codes, Option}
use Rattle.std.specs.List.{find}
use Rattle.std.specs.Str.{bytes_eq}
use Rattle.roam_keys.specs.declared.keys.Key.{Key}
use Rattle.roam_keys.specs.declared.keys.Key.TheVariants.{Char, Up, Down, Right, Left, Pf1, Pf2, Pf3, Pf4, Find, Insert, Remove, Select, Prev, Next, F6, F7, F8, F9, F10, F11, F12, F13, F14, F15, F16, F17, F18, F19, F20, Pad0, Pad1, Pad2, Pad3, Pad4, Pad5, Pad6, Pad7, Pad8, Pad9, PadMinus, PadComma, PadPeriod, PadEnter, Return, Backspace}

-- a key's line in the table of keys
pub record Entry : Type 0 where
  pub number : ℕ
  pub name : List ℕ

-- the table of keys: a number and a name for each key that is no character
abbrev pub entry_of : Key → Entry
entry_of (Char _) = record { number = 0; name = [] }
entry_of Up = record { number = 1; name = codes "up" }
entry_of Down = record { number = 2; name = codes "down" }
entry_of Right = record { number = 3; name = codes "right" }
entry_of Left = record { number = 4; name = codes "left" }
entry_of Pf1 = record { number = 5; name = codes "pf1" }
entry_of Pf2 = record { number = 6; name = codes "pf2" }
entry_of Pf3 = record { number = 7; name = codes "pf3" }
entry_of Pf4 = record { number = 8; name = codes "pf4" }
entry_of Find = record { number = 9; name = codes "find" }
entry_of Insert = record { number = 10; name = codes "insert" }
entry_of Remove = record { number = 11; name = codes "remove" }
entry_of Select = record { number = 12; name = codes "select" }
entry_of Prev = record { number = 13; name = codes "prev" }
entry_of Next = record { number = 14; name = codes "next" }
entry_of F6 = record { number = 15; name = codes "f6" }
entry_of F7 = record { number = 16; name = codes "f7" }
entry_of F8 = record { number = 17; name = codes "f8" }
entry_of F9 = record { number = 18; name = codes "f9" }
entry_of F10 = record { number = 19; name = codes "f10" }
entry_of F11 = record { number = 20; name = codes "f11" }
entry_of F12 = record { number = 21; name = codes "f12" }
entry_of F13 = record { number = 22; name = codes "f13" }
entry_of F14 = record { number = 23; name = codes "f14" }
entry_of F15 = record { number = 24; name = codes "f15" }
entry_of F16 = record { number = 25; name = codes "f16" }
entry_of F17 = record { number = 26; name = codes "f17" }
entry_of F18 = record { number = 27; name = codes "f18" }
entry_of F19 = record { number = 28; name = codes "f19" }
entry_of F20 = record { number = 29; name = codes "f20" }
entry_of Pad0 = record { number = 30; name = codes "pad0" }
entry_of Pad1 = record { number = 31; name = codes "pad1" }
entry_of Pad2 = record { number = 32; name = codes "pad2" }
entry_of Pad3 = record { number = 33; name = codes "pad3" }
entry_of Pad4 = record { number = 34; name = codes "pad4" }
entry_of Pad5 = record { number = 35; name = codes "pad5" }
entry_of Pad6 = record { number = 36; name = codes "pad6" }
entry_of Pad7 = record { number = 37; name = codes "pad7" }
entry_of Pad8 = record { number = 38; name = codes "pad8" }
entry_of Pad9 = record { number = 39; name = codes "pad9" }
entry_of PadMinus = record { number = 40; name = codes "padminus" }
entry_of PadComma = record { number = 41; name = codes "padcomma" }
entry_of PadPeriod = record { number = 42; name = codes "padperiod" }
entry_of PadEnter = record { number = 43; name = codes "padenter" }
entry_of Return = record { number = 44; name = codes "return" }
entry_of Backspace = record { number = 45; name = codes "backspace" }

-- the number of a key in bytes, from 1; 0 for a character
abbrev pub number_of : Key → ℕ
number_of key = (entry_of key).number

-- the name of a key in lines; empty for a character
abbrev pub name_of : Key → List ℕ
name_of key = (entry_of key).name

-- the keys that have a number and a name
abbrev pub named_keys : List Key
named_keys = Up ∷ Down ∷ Right ∷ Left ∷ Pf1 ∷ Pf2 ∷ Pf3 ∷ Pf4 ∷ Find ∷ Insert ∷ Remove ∷ Select ∷ Prev ∷ Next ∷ F6 ∷ F7 ∷ F8 ∷
    F9 ∷ F10 ∷ F11 ∷ F12 ∷ F13 ∷ F14 ∷ F15 ∷ F16 ∷ F17 ∷ F18 ∷ F19 ∷ F20 ∷ Pad0 ∷ Pad1 ∷ Pad2 ∷ Pad3 ∷ Pad4 ∷ Pad5 ∷ Pad6 ∷ Pad7 ∷
    Pad8 ∷ Pad9 ∷ PadMinus ∷ PadComma ∷ PadPeriod ∷ PadEnter ∷ Return ∷ Backspace ∷ []

-- the key of a list that has this number
abbrev pub numbered_in : List Key → ℕ → Option Key
numbered_in keys number = find (λ key. number_of key == number) keys

-- the key of a list that has this name
abbrev pub named_in : List Key → List ℕ → Option Key
named_in keys name = find (λ key. bytes_eq (name_of key) name) keys
