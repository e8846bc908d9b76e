-- The records that a front end reads from the stream of its terminal: a line each, and for some so many bytes behind it (this project's
-- profile).
use Rattle.std.specs.Prelude.{ℕ, List, [], ◌∷◌, ◌++◌, length, codes, decimal}
use Rattle.roam_display_records.specs.declared.records.Record.{Record}
use Rattle.roam_display_records.specs.declared.records.Record.TheVariants.{Events, Size, Place, Paint, Anew, Screen, Silent, Heard, Refused, Taken, Full}

-- a line: a word, its arguments, and LF
abbrev pub line_of : List ℕ → List ℕ
line_of words = words ++ 0x0A ∷ []

-- a word with a number
abbrev pub numbered : List ℕ → ℕ → List ℕ
numbered word n = word ++ 0x20 ∷ decimal n

-- a word with two numbers
abbrev pub paired : List ℕ → ℕ → ℕ → List ℕ
paired word m n = word ++ (0x20 ∷ decimal m ++ 0x20 ∷ decimal n)

-- a line with the number of bytes behind it, and these bytes
abbrev pub carrying : List ℕ → List ℕ → List ℕ
carrying word bytes = line_of (numbered word (length bytes)) ++ bytes

-- how a record is written; before the first one a LF ends whatever was painted
abbrev pub text_of : Record → List ℕ
text_of Events = 0x0A ∷ line_of (codes "events")
text_of (Size rows cols) = line_of (paired (codes "size") rows cols)
text_of (Place row col) = line_of (paired (codes "part") row col)
text_of (Paint text) = carrying (codes "paint") text.now
text_of (Anew text) = carrying (codes "anew") text.now
text_of (Screen text) = carrying (codes "screen") text.now
text_of (Silent seconds) = line_of (numbered (codes "silent") seconds)
text_of Heard = line_of (codes "heard")
text_of (Refused line words) = line_of (numbered (codes "refused") line ++ 0x20 ∷ words.now)
text_of (Taken lines) = line_of (numbered (codes "taken") lines)
text_of Full = line_of (codes "full")
