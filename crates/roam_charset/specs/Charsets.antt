-- The set table: the character that each set has at each code.
use Rattle.std.specs.Prelude.{ℕ, ◌-◌, ◌==◌, ◌&&◌, nat_le, if◌then◌else◌, List, [], ◌∷◌, slice_index}
use Rattle.roam_charset.specs.declared.charsets.Charset.{Charset}
use Rattle.roam_charset.specs.declared.charsets.Charset.TheVariants.{Ascii, UnitedKingdom, DecSpecialGraphics}

-- the characters of DEC Special Graphics at 5/15, and at 6/0 to 7/14 (VT220 Programmer Reference, chapter 2)
abbrev pub special_graphics : List ℕ
special_graphics =
    0x0020 ∷ 0x25C6 ∷ 0x2592 ∷ 0x2409 ∷ 0x240C ∷ 0x240D ∷ 0x240A ∷ 0x00B0
    ∷ 0x00B1 ∷ 0x2424 ∷ 0x240B ∷ 0x2518 ∷ 0x2510 ∷ 0x250C ∷ 0x2514 ∷ 0x253C
    ∷ 0x23BA ∷ 0x23BB ∷ 0x2500 ∷ 0x23BC ∷ 0x23BD ∷ 0x251C ∷ 0x2524 ∷ 0x2534
    ∷ 0x252C ∷ 0x2502 ∷ 0x2264 ∷ 0x2265 ∷ 0x03C0 ∷ 0x2260 ∷ 0x00A3 ∷ 0x00B7 ∷ []

-- the character of DEC Special Graphics at a code
abbrev pub special_graphic : ℕ → ℕ
special_graphic c = if (nat_le 0x5F c && nat_le c 0x7E) then slice_index special_graphics (c - 0x5F) else c

-- the character of a set at a code of 2/1 to 7/14
abbrev pub character_of : Charset → ℕ → ℕ
character_of Ascii c = c
character_of UnitedKingdom c = if c == 0x23 then 0xA3 else c
character_of DecSpecialGraphics c = special_graphic c

-- sets have the codes 2/1 to 7/14; every other character is itself (ECMA-35: sets of 94 characters)
unfoldable pub mapped_by : Charset → ℕ → ℕ
mapped_by set c = if (nat_le 0x21 c && nat_le c 0x7E) then character_of set c else c
