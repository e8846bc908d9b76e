-- Bytes that say nothing beside the screen.
use Rattle.std.specs.Prelude.{ℕ, ◌≡◌, ⊤, ◌&&◌, nat_le, nat_lt, Bool, true, not, List, [], ◌∷◌, ◌++◌, map}
use Rattle.std.specs.List.{flat_map, fold}
use Rattle.memchr.specs.Find.{is_byte3}
use Rattle.roam_text.specs.Log.{Sign, character, settled_part}
use Rattle.roam_text.specs.Functions.{functions}
use Rattle.roam_text.specs.Strings.{strings}
use Rattle.roam_pane_metadata.specs.declared.settings.Settings.{Settings}
use Rattle.roam_pane_metadata.specs.declared.screen_modes.ScreenModes.{ScreenModes}
use Rattle.roam_pane_metadata.specs.Settings.{heard}
use Rattle.roam_pane_metadata.specs.Emissions.{emitted_by}
use Rattle.roam_pane_metadata.specs.Queries.{asked_in}
use Rattle.roam_pane_metadata.specs.ScreenModes.{modes_after}

-- the characters of some bytes with their kinds, if no character, sequence or string is unfinished before them
abbrev pub signs_from : List ℕ → List Sign
signs_from bytes = map character (settled_part bytes)

-- two lists of characters set, take back and ask the same, and have the same control strings
pub record SaySame (a b : List ℕ) : Type 0 where
  pub settings : (s : Settings) → fold heard s (functions (map character a)) ≡ fold heard s (functions (map character b))
  pub texts : strings (map character a) ≡ strings (map character b)
  pub resets : flat_map emitted_by (functions (map character a)) ≡ flat_map emitted_by (functions (map character b))
  pub modes : (m : ScreenModes) → fold modes_after m (functions (map character a)) ≡ fold modes_after m (functions (map character b))
  pub asked : (s : Settings) (m : ScreenModes) → asked_in s m (functions (map character a)) ≡ asked_in s m (functions (map character b))

-- silent bytes: whatever follows them says and asks the same as without them
abbrev pub SaysNothing : List ℕ → Type 0
SaysNothing run = (more : List ℕ) → SaySame (settled_part (run ++ more)) (settled_part more)

-- neither ESC nor BEL, nor C2, with which all C1 controls begin in UTF-8
abbrev pub is_still : ℕ → Bool
is_still b = not (is_byte3 0x1B 0x07 0xC2 b)

-- such bytes alone
abbrev pub AreStill : List ℕ → Type 0
AreStill [] = ⊤
AreStill (b ∷ bytes) = (is_still b ≡ true) × AreStill bytes

-- a byte that numbers its parameters, or parts of one: 30 to 3B (ECMA-48 5.4.2)
abbrev pub is_number : ℕ → Bool
is_number b = nat_le 0x30 b && nat_lt b 0x3C

-- a final byte that counts even with neither a private marker nor an intermediate byte: h and l, SM and RM (ECMA-48 8.3.125 and 8.3.106),
-- and t, a report on the window (xterm)
abbrev pub counts : ℕ → Bool
counts b = is_byte3 0x68 0x6C 0x74 b

-- another final byte of a control sequence: 40 to 7E (ECMA-48 5.4)
abbrev pub is_final : ℕ → Bool
is_final b = nat_le 0x40 b && nat_lt b 0x7F && not (counts b)

-- such bytes alone
abbrev pub AreNumbers : List ℕ → Type 0
AreNumbers [] = ⊤
AreNumbers (b ∷ bytes) = (is_number b ≡ true) × AreNumbers bytes

-- a whole control sequence with neither a private marker nor an intermediate byte, that doesn't count
pub record IsPlainSequence (bytes : List ℕ) : Type 0 where
  pub body : List ℕ
  pub last : ℕ
  pub numbers : AreNumbers body
  pub final : is_final last ≡ true
  pub is : bytes ≡ 0x1B ∷ 0x5B ∷ body ++ last ∷ []
