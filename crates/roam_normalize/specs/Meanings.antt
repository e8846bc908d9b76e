-- The meaning of control sequences and of the soft hyphen to programs, if this project's profile reads them otherwise.
use Rattle.std.specs.Prelude.{ℕ, ◌==◌, ◌||◌, ◌&&◌, Bool, true, false, nat_lt, nat_le, if◌then◌else◌, List, [], ◌∷◌, ◌++◌}
use Rattle.roam_normalize.specs.Renditions.{is_changed, spelled_out}
use Rattle.roam_normalize.specs.declared.meanings.Kind.{Kind}
use Rattle.roam_normalize.specs.declared.meanings.Kind.TheVariants.{AsItStands, SaveCursor, RestoreCursor, Columns, Rendition}

-- U+2010 HYPHEN, as terminals show U+00AD SOFT HYPHEN; whatever comes before it, it is one character from U+00A0 up, as that is
abbrev pub hyphen : List ℕ
hyphen = 0xE2 ∷ 0x80 ∷ 0x90 ∷ []

-- a control sequence as written
abbrev pub whole : List ℕ → ℕ → List ℕ
whole body last = 0x1B ∷ 0x5B ∷ (body ++ last ∷ [])

-- DECSC and DECRC, ESC 7 and ESC 8 (VT220)
abbrev pub save_cursor : List ℕ
save_cursor = 0x1B ∷ 0x37 ∷ []

abbrev pub restore_cursor : List ℕ
restore_cursor = 0x1B ∷ 0x38 ∷ []

-- the effects of DECCOLM other than the width: full margins, a cleared screen, the cursor at home: CSI r, CSI 2 J, CSI H (VT220)
abbrev pub clearing : List ℕ
clearing = 0x1B ∷ 0x5B ∷ 0x72 ∷ 0x1B ∷ 0x5B ∷ 0x32 ∷ 0x4A ∷ 0x1B ∷ 0x5B ∷ 0x48 ∷ []

-- whether 3 is one of the numbers of these parameters, each begun anew or not: no sub-parameters, no intermediate bytes
abbrev pub has_three : Bool → List ℕ → Bool
has_three anew [] = false
has_three anew (b ∷ []) = anew && b == 0x33
has_three anew (b ∷ c ∷ rest) = (anew && (b == 0x33 && c == 0x3B)) || has_three (b == 0x3B) (c ∷ rest)

-- digits and semicolons alone
abbrev pub are_numbers : List ℕ → Bool
are_numbers [] = true
are_numbers (b ∷ rest) = ((nat_le 0x30 b && nat_lt b 0x3A) || b == 0x3B) && are_numbers rest

-- whether the private modes that a sequence sets or resets have DECCOLM among them: 3
abbrev pub has_columns : List ℕ → Bool
has_columns [] = false
has_columns (mark ∷ numbers) = mark == 0x3F && (are_numbers numbers && has_three true numbers)

-- digits, colons and semicolons alone
abbrev pub are_parameters : List ℕ → Bool
are_parameters [] = true
are_parameters (b ∷ rest) = (nat_le 0x30 b && nat_lt b 0x3C) && are_parameters rest

-- which meaning a control sequence has that has nothing between CSI and its final byte
abbrev pub bare_kind : ℕ → Kind
bare_kind last = if last == 0x73 then SaveCursor else if last == 0x75 then RestoreCursor else AsItStands

-- and one that has something there
abbrev pub full_kind : List ℕ → ℕ → Kind
full_kind body last =
    if (last == 0x68 || last == 0x6C) && has_columns body then Columns else
    if last == 0x6D && (are_parameters body && is_changed body) then Rendition else
    AsItStands

abbrev pub kind_of : List ℕ → ℕ → Kind
kind_of [] last = bare_kind last
kind_of (b ∷ body) last = full_kind (b ∷ body) last

-- its output
abbrev pub text_of : Kind → List ℕ → ℕ → List ℕ
text_of AsItStands body last = whole body last
text_of SaveCursor body last = save_cursor
text_of RestoreCursor body last = restore_cursor
text_of Columns body last = whole body last ++ clearing
text_of Rendition body last = spelled_out body

-- The meaning of a control sequence. CSI s and CSI u without parameters save and restore the cursor (SCOSC and SCORC). A sequence that sets
-- or resets DECCOLM clears the screen. A rendition is spelled out if the profile reads it otherwise. All others stay as written.
unfoldable pub meaning : List ℕ → ℕ → List ℕ
meaning body last = text_of (kind_of body last) body last
