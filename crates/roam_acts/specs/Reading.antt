-- The reading of acts by the code, step by step. No public clause cites it: the grammars of Bytes and Lines define reading.
use Rattle.std.specs.Prelude.{ℕ, ℤ, zero, suc, ◌+◌, ◌==◌, Bool, ◌&&◌, List, [], ◌∷◌, take, drop, slice_index, nat_le, nat_lt, length, int_le, pos, negsuc, Option, Some, None, if◌then◌else◌}
use Rattle.std.specs.Fmt.{signed_decimal}
use Rattle.std.specs.List.{position}
use Rattle.std.specs.Option.{option_map}
use Rattle.std.specs.Str.{bytes_eq}
use Rattle.std.specs.Str.Parse.{signed_digits_value}
use Rattle.std.specs.Int.{w16, cast_signed}
use Rattle.byteorder.specs.Endian.{big_number}
use lib.Utf8.{scalar}
use Rattle.roam_tokens.specs.Numbers.{id_in}
use Rattle.roam_acts.specs.declared.acts.Act.{Act}
use Rattle.roam_acts.specs.declared.acts.Act.TheVariants as act
use Rattle.roam_keys.specs.declared.keys.Key.TheVariants as key
use Rattle.roam_acts.specs.declared.kinds.Kind.{Kind}
use Rattle.roam_acts.specs.declared.kinds.Kind.TheVariants.{Char, Named, SplitRight, SplitDown, Close, Focus, Next, Grow, Size, View}
use Rattle.roam_acts.specs.Acts.{is_in_range}
use Rattle.roam_acts.specs.Keys.{named_in, named_keys, numbered_in}
use Rattle.roam_acts.specs.Kinds.{head_of, headed_in, kinds, tagged_in, width_of}

-- ---- bytes

-- the act of a character, if the number is a scalar value
abbrev pub character : ℕ → Option Act
character c = if scalar c then Some (act.Key (key.Char c)) else None

-- the act that has these fields
abbrev pub act_of_fields : Kind → List ℕ → Option Act
act_of_fields Char fields = character (big_number 4 fields)
act_of_fields Named fields = option_map act.Key (numbered_in named_keys (slice_index fields 0))
act_of_fields SplitRight fields = Some act.SplitRight
act_of_fields SplitDown fields = Some act.SplitDown
act_of_fields Close fields = Some act.Close
act_of_fields Focus fields = Some (act.Focus (slice_index fields 0))
act_of_fields Next fields = Some act.Next
act_of_fields Grow fields = Some (act.Grow (cast_signed w16 (big_number 2 fields)))
act_of_fields Size fields = Some (act.Size (big_number 2 fields) (big_number 2 (drop 2 fields)))
act_of_fields View fields = Some (act.View (cast_signed w16 (big_number 2 fields)))

-- an act and the rest behind it, if the act is in its ranges
abbrev pub act_in_range : Option Act → List ℕ → Option (Act × List ℕ)
act_in_range None rest = None
act_in_range (Some a) rest = if is_in_range a then Some (a, rest) else None

-- the act whose tag was read, and what follows it
abbrev pub after_tag : Option Kind → List ℕ → Option (Act × List ℕ)
after_tag None rest = None
after_tag (Some kind) rest =
    if nat_lt (length rest) (width_of kind) then None
    else act_in_range (act_of_fields kind (take (width_of kind) rest)) (drop (width_of kind) rest)

-- the act at the front, and the rest behind it
abbrev pub first_act : List ℕ → Option (Act × List ℕ)
first_act [] = None
first_act (tag ∷ rest) = after_tag (tagged_in kinds tag) rest

-- an act, and the acts that one reads after it
abbrev pub and_then : (List ℕ → Option (List Act)) → Option (Act × List ℕ) → Option (List Act)
and_then read None = None
and_then read (Some p) = option_map (λ acts. p.0 ∷ acts) (read p.1)

-- no acts, if nothing is left
abbrev pub nothing_left : List ℕ → Option (List Act)
nothing_left [] = Some []
nothing_left (_ ∷ _) = None

-- so many acts that fill the bytes
unfoldable pub acts_in : ℕ → List ℕ → Option (List Act)
acts_in zero bytes = nothing_left bytes
acts_in (suc count) bytes = and_then (acts_in count) (first_act bytes)

-- ---- lines

-- a number, if it is a scalar value
abbrev pub only_scalar : Option ℕ → Option ℕ
only_scalar None = None
only_scalar (Some c) = if scalar c then Some c else None

-- the scalar value that one to six hexadecimal digits write
abbrev pub scalar_in : List ℕ → Option ℕ
scalar_in text = if nat_le (length text) 6 then only_scalar (id_in text) else None

-- a number of 16 bits that is written so and not otherwise
abbrev pub is_integer : ℤ → List ℕ → Bool
is_integer z text = int_le (negsuc 32767) z && int_le z (pos 32767) && bytes_eq (signed_decimal z) text

-- the number of 16 bits that a text writes
abbrev pub integer_in : List ℕ → Option ℤ
integer_in text = if is_integer (signed_digits_value 10 text) text then Some (signed_digits_value 10 text) else None

-- a number without a sign
abbrev pub natural : Option ℤ → Option ℕ
natural None = None
natural (Some (pos n)) = Some n
natural (Some (negsuc _)) = None

-- the act by a pane's number; a number above a pane's fits no pane
abbrev pub focus_of : Option ℕ → Option Act
focus_of None = None
focus_of (Some pane) = if nat_le pane 9 then Some (act.Focus pane) else None

-- the act by two numbers
abbrev pub size_of : Option ℕ → Option ℕ → Option Act
size_of (Some rows) (Some cols) = Some (act.Size rows cols)
size_of (Some _) None = None
size_of None _ = None

-- the act of two numbers, the first of the stated length
abbrev pub size_at : Option ℕ → List ℕ → Option Act
size_at None text = None
size_at (Some space) text = size_of (natural (integer_in (take space text))) (natural (integer_in (drop (space + 1) text)))

-- an act without further fields
abbrev pub bare : Act → List ℕ → Option Act
bare a [] = Some a
bare a (_ ∷ _) = None

-- the act of the text behind its kind's head
abbrev pub act_of_argument : Kind → List ℕ → Option Act
act_of_argument Char text = option_map (λ c. act.Key (key.Char c)) (scalar_in text)
act_of_argument Named text = option_map act.Key (named_in named_keys text)
act_of_argument SplitRight text = bare act.SplitRight text
act_of_argument SplitDown text = bare act.SplitDown text
act_of_argument Close text = bare act.Close text
act_of_argument Focus text = focus_of (natural (integer_in text))
act_of_argument Next text = bare act.Next text
act_of_argument Grow text = option_map act.Grow (integer_in text)
act_of_argument Size text = size_at (position (λ byte. byte == 0x20) text) text
act_of_argument View text = option_map act.View (integer_in text)

-- an act, if it is in its ranges
abbrev pub only_ranged : Option Act → Option Act
only_ranged None = None
only_ranged (Some a) = if is_in_range a then Some a else None

-- the act behind a kind's head
abbrev pub after_head : Option Kind → List ℕ → Option Act
after_head None line = None
after_head (Some kind) line = only_ranged (act_of_argument kind (drop (length (head_of kind)) line))

-- the act of a line
abbrev pub act_in : List ℕ → Option Act
act_in line = after_head (headed_in kinds line) line
