-- Acts: which numbers they may have.
use Rattle.std.specs.Prelude.{◌≤◌, ◌≤ℤ◌, pos, negsuc, Bool, true, ◌&&◌, int_le, nat_le}
use Rattle.std.specs.Char.{IsScalar}
use Rattle.roam_acts.specs.declared.acts.Act.{Act}
use Rattle.roam_acts.specs.declared.acts.Act.TheVariants.{Key, SplitRight, SplitDown, Close, Focus, Next, Grow, Size, View}
use Rattle.roam_keys.specs.declared.keys.Key.{Key as KeyOfKeyboard}
use Rattle.roam_keys.specs.declared.keys.Key.TheVariants.{Char}

-- an act's numbers are in their ranges (this project's profile)
abbrev pub IsInRange : Act → Type 0
IsInRange (Key k) = Unit {0}
IsInRange SplitRight = Unit {0}
IsInRange SplitDown = Unit {0}
IsInRange Close = Unit {0}
IsInRange (Focus p) = (1 ≤ p) × (p ≤ 9)
IsInRange Next = Unit {0}
IsInRange (Grow d) = (negsuc 98 ≤ℤ d) × (d ≤ℤ pos 99)
IsInRange (Size r c) = (r ≤ 9999) × (c ≤ 9999)
IsInRange (View d) = (negsuc 499 ≤ℤ d) × (d ≤ℤ pos 500)

-- the same as a test
abbrev pub is_in_range : Act → Bool
is_in_range (Focus p) = nat_le 1 p && nat_le p 9
is_in_range (Grow d) = int_le (negsuc 98) d && int_le d (pos 99)
is_in_range (Size r c) = nat_le r 9999 && nat_le c 9999
is_in_range (View d) = int_le (negsuc 499) d && int_le d (pos 500)
is_in_range _ = true

-- a key is one that can be typed: its character is a Unicode scalar value (The Unicode Standard, section 3.9), as every `char` is
abbrev pub IsKey : KeyOfKeyboard → Type 0
IsKey (Char c) = IsScalar c
IsKey _ = Unit {0}

-- an act by a key is by one that can be typed
abbrev pub HasKey : Act → Type 0
HasKey (Key k) = IsKey k
HasKey _ = Unit {0}

-- an act that a line or a text can spell
abbrev pub IsAct : Act → Type 0
IsAct act = IsInRange act × HasKey act
