-- Blocks of characters that all take as many columns (UAX #11 and the rules of the crate unicode_width).
use Rattle.std.specs.Prelude.{List, [], ◌∷◌}
use Rattle.ucd_table.specs.Rows.{Range}

-- kana, CJK and Hangul syllables, of two columns
abbrev pub wide_blocks : List Range
wide_blocks = (0x3041, 0x3096) ∷ (0x309B, 0x30FF) ∷ (0x3250, 0xA48C) ∷ (0xAC00, 0xD7A3) ∷ []

-- letters of Latin, Greek and Cyrillic and what lines are drawn with, of one
abbrev pub narrow_blocks : List Range
narrow_blocks = (0xAE, 0x2FF) ∷ (0x370, 0x482) ∷ (0x23F4, 0x25FC) ∷ []

-- combining marks, which join the character before them
abbrev pub joining_blocks : List Range
joining_blocks = (0x300, 0x337) ∷ (0x339, 0x36F) ∷ []
