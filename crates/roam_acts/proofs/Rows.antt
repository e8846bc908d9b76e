-- The definitions at worked rows.
use Rattle.std.proofs.Common.{◌≡◌, true, false, List, [], ◌∷◌, pos, negsuc, length, map, codes, refl}
use Rattle.std.specs.Fmt.{digits}
use Rattle.roam_acts.specs.declared.acts.Act.{Act}
use Rattle.roam_acts.specs.declared.acts.Act.TheVariants.{SplitRight, Close, Focus, Grow, Next, Size, View}
use Rattle.roam_acts.specs.declared.acts.Act.TheVariants as act
use Rattle.roam_keys.specs.declared.keys.Key.TheVariants.{Backspace, Char, F15, Pad7, PadEnter, Pf3, Prev, Up}
use Rattle.roam_acts.specs.Acts.{is_in_range}
use Rattle.roam_acts.specs.Bytes.{acts_text}
use Rattle.roam_acts.specs.Keys.{name_of, named_keys, number_of}
use Rattle.roam_acts.specs.Lines.{line_of}
use Rattle.roam_acts.specs.Senders.{acked_to, start, after_typing}
use Rattle.roam_acts.specs.Takers.{fresh_of}

-- every number from 1 to 45 is a key's
numbers : map number_of named_keys
    ≡ 1 ∷ 2 ∷ 3 ∷ 4 ∷ 5 ∷ 6 ∷ 7 ∷ 8 ∷ 9 ∷ 10 ∷ 11 ∷ 12 ∷ 13 ∷ 14 ∷ 15 ∷ 16 ∷ 17 ∷ 18 ∷ 19 ∷ 20 ∷ 21 ∷ 22 ∷ 23 ∷ 24 ∷ 25 ∷ 26 ∷ 27
    ∷ 28 ∷ 29 ∷ 30 ∷ 31 ∷ 32 ∷ 33 ∷ 34 ∷ 35 ∷ 36 ∷ 37 ∷ 38 ∷ 39 ∷ 40 ∷ 41 ∷ 42 ∷ 43 ∷ 44 ∷ 45 ∷ []
numbers = refl

names : map name_of (Up ∷ Pf3 ∷ Prev ∷ F15 ∷ Pad7 ∷ PadEnter ∷ Backspace ∷ [])
    ≡ codes "up" ∷ codes "pf3" ∷ codes "prev" ∷ codes "f15" ∷ codes "pad7" ∷ codes "padenter" ∷ codes "backspace" ∷ []
names = refl

-- a character, backspace, a split, two growths, a size and a view
abbrev acts : List Act
acts = act.Key (Char 0x10FFFF) ∷ act.Key Backspace ∷ SplitRight ∷ Grow (pos 99) ∷ Grow (negsuc 98) ∷ Size 24 80 ∷ View (negsuc 499) ∷ []

text : acts_text acts
    ≡ 1 ∷ 0 ∷ 0x10 ∷ 0xFF ∷ 0xFF ∷ 2 ∷ 45 ∷ 0x10 ∷ 0x15 ∷ 0 ∷ 99 ∷ 0x15 ∷ 0xFF ∷ 0x9D ∷ 0x16 ∷ 0 ∷ 24 ∷ 0 ∷ 80 ∷ 0x17 ∷ 0xFE ∷ 0x0C ∷ []
text = refl

lines : map line_of acts
    ≡ codes "char 10ffff" ∷ codes "key backspace" ∷ codes "split right" ∷ codes "grow 99" ∷ codes "grow -99" ∷ codes "size 24 80"
    ∷ codes "view -500" ∷ []
unfolding digits
lines = refl

ranges : map is_in_range (Focus 0 ∷ Focus 9 ∷ Focus 10 ∷ Grow (negsuc 99) ∷ Size 9999 0 ∷ Size 0 10000 ∷ View (pos 501) ∷ Close ∷ [])
    ≡ false ∷ true ∷ false ∷ false ∷ true ∷ false ∷ false ∷ true ∷ []
ranges = refl

-- ---- the two ends

three_typed : (acked_to (after_typing (after_typing (after_typing start Next) Close) SplitRight) 2).acts ≡ SplitRight ∷ []
three_typed = refl

-- a number that wasn't typed drops nothing
not_typed : length (acked_to (after_typing start Next) 2).acts ≡ 1
not_typed = refl

-- three were taken: of 3, 4 and 5 the last two are fresh, of 5 alone none, of 1 and 2 none
fresh : (fresh_of 3 3 (Focus 3 ∷ Focus 4 ∷ Focus 5 ∷ []) ≡ Focus 4 ∷ Focus 5 ∷ []) × (fresh_of 3 5 (Focus 5 ∷ []) ≡ []) × (fresh_of 3 1 (Focus 1 ∷ Focus 2 ∷ []) ≡ [])
fresh = (refl, refl, refl)
