-- Acts as lines of text (this project's profile). One space separates words.
use Rattle.std.specs.Prelude.{◌≡◌, ℕ, ◌≤◌, false, List, [], ◌∷◌, ◌++◌, length, decimal}
use Rattle.std.specs.Fmt.{digits, signed_decimal}
use Rattle.std.specs.Str.Parse.{IsNumeral, digits_value}
use Rattle.roam_acts.specs.declared.acts.Act.{Act}
use Rattle.roam_acts.specs.declared.acts.Act.TheVariants.{SplitRight, SplitDown, Close, Focus, Next, Grow, Size, View}
use Rattle.roam_acts.specs.declared.acts.Act.TheVariants as act
use Rattle.roam_keys.specs.declared.keys.Key.{Key}
use Rattle.roam_keys.specs.declared.keys.Key.TheVariants.{Char}
use Rattle.roam_acts.specs.Keys.{name_of}
use Rattle.roam_acts.specs.Kinds.{head_of, kind_of}

-- a number in one to six hexadecimal digits, in either case
abbrev pub IsHexadecimal : List ℕ → ℕ → Type 0
IsHexadecimal text number = IsNumeral 16 text × (length text ≤ 6) × (digits_value 16 text ≡ number)

-- a character's code point, with no more digits than it needs and these in lower case; a key's name
abbrev pub key_argument : Key → List ℕ
key_argument (Char c) = digits 16 false c
key_argument key = name_of key

-- the text behind the head of an act's line; decimals have no plus and no leading zero
abbrev pub argument_of : Act → List ℕ
argument_of (act.Key key) = key_argument key
argument_of SplitRight = []
argument_of SplitDown = []
argument_of Close = []
argument_of (Focus pane) = decimal pane
argument_of Next = []
argument_of (Grow by) = signed_decimal by
argument_of (Size rows cols) = decimal rows ++ 0x20 ∷ decimal cols
argument_of (View by) = signed_decimal by

-- the line that is written for an act
abbrev pub line_of : Act → List ℕ
line_of a = head_of (kind_of a) ++ argument_of a

-- the text that may follow the head of a key's line: a code point has more than one spelling, a name has one
abbrev pub IsKeyArgument : Key → List ℕ → Type 0
IsKeyArgument (Char c) text = IsHexadecimal text c
IsKeyArgument key text = text ≡ name_of key

-- the text that may follow the head of an act's line: the written one, or another spelling of a code point
abbrev pub IsArgument : Act → List ℕ → Type 0
IsArgument (act.Key key) text = IsKeyArgument key text
IsArgument a text = text ≡ argument_of a

-- a line spells an act
abbrev pub Spells : List ℕ → Act → Type 0
Spells line a = (text : List ℕ) × (line ≡ head_of (kind_of a) ++ text) × IsArgument a text
