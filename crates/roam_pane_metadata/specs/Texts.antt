-- The texts of a program's control strings: the title, and the text for the clipboard (xterm's operating system commands).
use Rattle.std.specs.Prelude.{ℕ, ◌==◌, ◌||◌, ◌&&◌, Bool, true, false, cond, nat_lt, nat_le, if◌then◌else◌, List, [], ◌∷◌, length, take, Option, None, Some, is_some}
use Rattle.std.specs.List.{filter}
use Rattle.base64.specs.Engines.{standard}
use Rattle.base64.specs.GeneralPurpose.{decoded_of}
use Rattle.ucd_category.specs.GeneralCategory.{general_category}
use Rattle.ucd_category.specs.declared.GeneralCategory.{GeneralCategory}
use Rattle.ucd_category.specs.declared.GeneralCategory.TheVariants.{Control, Format, LineSeparator, ParagraphSeparator}
use Rattle.roam_text.specs.declared.strings.StringKind.{StringKind}
use Rattle.roam_text.specs.declared.strings.StringKind.TheVariants.{SystemCommand}
use Rattle.roam_text.specs.Strings.{ControlString}
use Rattle.roam_pane_metadata.specs.Settings.{counted}

-- the longest title, in characters; those after are dropped
abbrev pub longest_title : ℕ
longest_title = 200

-- the most base64 characters of a text for the clipboard
abbrev pub longest_clip : ℕ
longest_clip = 131072

-- the most characters of a control string that is looked at: 52;c; and the longest text for the clipboard
abbrev pub longest_text : ℕ
longest_text = 131077

-- whether a character shows something by itself: no control, no format character and no separator of lines (UAX #44, General_Category)
abbrev pub is_shown : GeneralCategory → Bool
is_shown Control = false
is_shown Format = false
is_shown LineSeparator = false
is_shown ParagraphSeparator = false
is_shown category = true

-- the same, of a code point
abbrev pub is_printable : ℕ → Bool
is_printable c = is_shown (general_category c)

-- the title of a text: 0 or 2, a semicolon, and its characters, of which the first printable ones count (OSC 0 and 2)
abbrev pub title_in : List ℕ → Option (List ℕ)
title_in (number ∷ separator ∷ rest) =
    cond ((number == 0x30 || number == 0x32) && separator == 0x3B) (Some (take longest_title (filter is_printable rest))) None
title_in text = None

-- characters of ASCII alone
abbrev pub are_ascii : List ℕ → Bool
are_ascii [] = true
are_ascii (c ∷ rest) = nat_lt c 0x80 && are_ascii rest

-- whether bytes are base64, with padding (RFC 4648, section 4)
unfoldable pub is_base64 : List ℕ → Bool
is_base64 bytes = is_some (decoded_of standard bytes)

-- a text, if it is base64 and not too long
abbrev pub clip_if_base64 : List ℕ → Option (List ℕ)
clip_if_base64 text = cond (nat_le (length text) longest_clip && are_ascii text) (cond (is_base64 text) (Some text) None) None

-- behind the selection c: a semicolon, and base64
abbrev pub clip_chosen : List ℕ → Option (List ℕ)
clip_chosen [] = None
clip_chosen (separator ∷ text) = cond (separator == 0x3B) (clip_if_base64 text) None

-- behind 52 and a semicolon: the selection c or none, a semicolon, and base64
abbrev pub clip_behind : List ℕ → Option (List ℕ)
clip_behind [] = None
clip_behind (c ∷ text) = if c == 0x3B then clip_if_base64 text else if c == 0x63 then clip_chosen text else None

-- the text that a text is for the clipboard (OSC 52); a question is none
abbrev pub clip_in : List ℕ → Option (List ℕ)
clip_in (five ∷ two ∷ separator ∷ rest) = cond ((five == 0x35 && two == 0x32) && separator == 0x3B) (clip_behind rest) None
clip_in text = None

-- the last title, the last text for the clipboard, in base64, and how many there were of each
pub record Said : Type 0 where
  pub title : Option (List ℕ)
  pub titles : ℕ
  pub clip : Option (List ℕ)
  pub clips : ℕ

-- nothing was said
abbrev pub nothing_said : Said
nothing_said = record { title = None; titles = 0; clip = None; clips = 0 }

-- with a title, if there is one
abbrev pub with_title : Option (List ℕ) → Said → Said
with_title None s = s
with_title (Some title) s = record s { title = Some title; titles = counted s.titles }

-- with a text for the clipboard, if there is one
abbrev pub with_clip : Option (List ℕ) → Said → Said
with_clip None s = s
with_clip (Some clip) s = record s { clip = Some clip; clips = counted s.clips }

-- a title, or else a text for the clipboard
abbrev pub with_either : Option (List ℕ) → Option (List ℕ) → Said → Said
with_either None clip s = with_clip clip s
with_either (Some title) clip s = with_title (Some title) s

-- the effect of the text of an operating system command; one that is too long has none
abbrev pub with_text : List ℕ → Said → Said
with_text text s = cond (nat_le (length text) longest_text) (with_either (title_in text) (clip_in text) s) s

-- the effect of a control string; only operating system commands have one
abbrev pub said_with : StringKind → List ℕ → Said → Said
said_with SystemCommand text s = with_text text s
said_with kind text s = s

-- the same, of a string whole
abbrev pub said_by : Said → ControlString → Said
said_by s string = said_with string.kind string.text s
