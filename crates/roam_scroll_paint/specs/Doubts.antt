-- Cells whose width terminals disagree on, and the cursor's place behind them.
use Rattle.std.specs.Prelude.{◌≡◌, ℕ, zero, suc, ◌+◌, ◌==◌, ◌&&◌, ◌||◌, nat_le, Bool, true, false, if◌then◌else◌, List, [], ◌∷◌, ◌++◌}
use Rattle.roam_cells.specs.Glyph.{Glyph}
use Rattle.roam_cells.specs.Width.{width_of}
use Rattle.roam_screens.specs.Screenshot.{Screenshot}
use Rattle.roam_text.specs.declared.functions.Function.{Function}
use Rattle.roam_text.specs.declared.functions.Function.TheVariants.{Print, Csi}
use Rattle.roam_term.specs.Ground.{shown_at}
use Rattle.roam_paint.specs.Painting.{Places, differs, is_drawn}

-- an emoji modifier, U+1F3FB to U+1F3FF (UTS #51, ED-11)
abbrev pub is_modifier : ℕ → Bool
is_modifier c = nat_le 0x1F3FB c && nat_le c 0x1F3FF

-- a regional indicator, U+1F1E6 to U+1F1FF (UAX #29, Regional_Indicator)
abbrev pub is_regional : ℕ → Bool
is_regional c = nat_le 0x1F1E6 c && nat_le c 0x1F1FF

-- more than one code point, as in a ZWJ sequence or before VS16 (UTS #51, ED-9a and ED-16), an emoji modifier or a regional indicator
unfoldable pub is_doubtful_text : List ℕ → Bool
is_doubtful_text [] = false
is_doubtful_text (c ∷ []) = is_modifier c || is_regional c
is_doubtful_text (c ∷ j ∷ js) = true

-- whether terminals disagree on the width of a cell
abbrev pub is_doubtful : Glyph → Bool
is_doubtful g = is_doubtful_text g.points

-- ---- how many there are

-- of the cells that are drawn before a column of a row
unfoldable pub doubts_in : (ℕ → ℕ → Bool) → Places → ℕ → ℕ → ℕ
doubts_in d new r zero = 0
doubts_in d new r (suc c) = doubts_in d new r c + (if (is_drawn d new r c && is_doubtful (new r c)) then 1 else 0)

-- of the cells that are drawn in the first rows
unfoldable pub doubts_to : (ℕ → ℕ → Bool) → Places → ℕ → ℕ → ℕ
doubts_to d new cols zero = 0
doubts_to d new cols (suc r) = doubts_to d new cols r + doubts_in d new r cols

-- of the cells that differ between two screens
unfoldable pub doubts_between : Screenshot → Screenshot → ℕ
doubts_between old new = doubts_to (differs old new) (shown_at new) new.cols new.rows

-- the bytes of the longest CUP on a screen, ESC [ 200 ; 500 H
abbrev pub longest_placing : ℕ
longest_placing = 10

-- ---- the place behind them

-- a code point after which terminals disagree on the cursor's column: one that joins a cell, an emoji modifier or a regional indicator
abbrev pub is_doubtful_point : ℕ → Bool
is_doubtful_point c = (width_of c == 0) || (is_modifier c || is_regional c)

-- what may come between such a code point and CUP: code points that join its cell, and SGR (ECMA-48 8.3.117)
abbrev pub is_light : Function → Bool
is_light (Print c) = width_of c == 0
is_light (Csi mark params inter last) = last == 0x6D
is_light f = false

-- CUP (ECMA-48 8.3.21)
abbrev pub is_placing : Function → Bool
is_placing (Csi mark params inter last) = last == 0x48
is_placing f = false

-- the first function of any other kind is CUP, if there is one
unfoldable pub is_placed_first : List Function → Bool
is_placed_first [] = true
is_placed_first (f ∷ fs) = if is_light f then is_placed_first fs else is_placing f

-- so it is behind each such code point: no character, erasure or move begins at a column that terminals disagree on
abbrev pub ArePlacedBehind : List Function → Type 0
ArePlacedBehind fs =
    (before after : List Function) (c : ℕ) → fs ≡ before ++ Print c ∷ after → is_doubtful_point c ≡ true → is_placed_first after ≡ true
