-- The titles of some bytes: the strings that the normalized output leaves out.
use Rattle.std.specs.Prelude.{ℕ, zero, suc, ◌≡◌, ◌≤◌, ◌+◌, ◌==◌, ◌&&◌, ⊤, Bool, true, cond, List, [], ◌∷◌, ◌++◌, length, take, drop, Option, None, Some}
use Rattle.roam_normalize.specs.declared.titles.Title.{Title}
use Rattle.roam_normalize.specs.Normalized.{Front, Held, Taken, TitleScan, OpenTitle, Titled, front, is_title, most_title, title_end, title_scan, with_letter}

-- the title of a scan, if it is a whole one
abbrev pub title_of : TitleScan → List (List ℕ)
title_of OpenTitle = []
title_of (Titled title end) = title ∷ []

-- the title at the front of some bytes, if one is there
abbrev pub front_title : List ℕ → List (List ℕ)
front_title (b ∷ c ∷ rest) = cond (b == 0x1B && c == 0x6B) (title_of (title_scan most_title rest)) []
front_title bytes = []

-- the title at the front, and those of the rest
abbrev pub titles_onward : Front → List ℕ → (List ℕ → List (List ℕ)) → List (List ℕ)
titles_onward Held bytes go = []
titles_onward (Taken count out) bytes go = front_title bytes ++ go (drop count bytes)

-- front by front; fuel is at least the number of bytes
unfoldable pub titles_from : ℕ → List ℕ → List (List ℕ)
titles_from zero bytes = []
titles_from (suc n) bytes = titles_onward (front bytes) bytes (titles_from n)

-- the titles of some bytes, in order
unfoldable pub titles_part : List ℕ → List (List ℕ)
titles_part bytes = titles_from (length bytes) bytes

-- the last of some titles, or an earlier one if there are none
abbrev pub newest : List (List ℕ) → Option (List ℕ) → Option (List ℕ)
newest [] before = before
newest (title ∷ titles) before = newest titles (Some title)

-- bytes of a title alone
abbrev pub AreOfTitle : List ℕ → Type 0
AreOfTitle [] = ⊤
AreOfTitle (b ∷ bytes) = (is_title b ≡ true) × AreOfTitle bytes

-- with bytes of the title in front
abbrev pub with_letters : List ℕ → TitleScan → TitleScan
with_letters [] s = s
with_letters (b ∷ bytes) s = with_letter b (with_letters bytes s)

-- the title behind ESC k, as the code finds it
abbrev pub IsTitleAt : Option Title → List ℕ → Type 0
IsTitleAt None rest = title_scan most_title rest ≡ OpenTitle
IsTitleAt (Some title) rest =
    (title_scan most_title rest ≡ Titled (take title.letters rest) title.end) × (title.letters + title.end ≤ length rest)
    × (title.letters ≤ length rest)

-- how many bytes of the end of a title belong to it; none is known yet if it is unfinished
abbrev pub IsEnd : Option ℕ → Bool → List ℕ → Type 0
IsEnd None full rest = title_end full rest ≡ OpenTitle
IsEnd (Some end) full rest = (title_end full rest ≡ Titled [] end) × (end ≤ length rest)

-- so many bytes of the front were taken; none if they are kept back
abbrev pub IsLength : ℕ → List ℕ → Type 0
IsLength zero bytes = front bytes ≡ Held
IsLength (suc n) bytes = (out : List ℕ) × (front bytes ≡ Taken (suc n) out)
