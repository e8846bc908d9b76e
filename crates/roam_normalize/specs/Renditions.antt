-- SGR in the form that this project's profile reads: parameters alone, sixteen at most (ECMA-48 8.3.117; ISO 8613-6 for colons).
use Rattle.std.specs.Prelude.{ℕ, zero, suc, ◌+◌, ◌==◌, ◌||◌, ◌&&◌, Bool, true, false, cond, nat_lt, not, if◌then◌else◌, List, [], ◌∷◌, ◌++◌, length, take, drop}
use Rattle.roam_normalize.specs.declared.renditions.Field.{Field}
use Rattle.roam_normalize.specs.declared.renditions.Field.TheVariants.{Plain, Colour, LineColour, NoLineColour, Parted}

-- SGR with these parameters
abbrev pub rendition : List ℕ → List ℕ
rendition parameters = 0x1B ∷ 0x5B ∷ (parameters ++ 0x6D ∷ [])

-- how many bytes so many fields take, one at least, between separators
abbrev pub fields_length : ℕ → ℕ → List ℕ → ℕ
fields_length separator fields [] = 0
fields_length separator zero (b ∷ rest) = 0
fields_length separator (suc more) (b ∷ rest) =
    if b == separator then cond (more == 0) 0 (suc (fields_length separator more rest)) else suc (fields_length separator (suc more) rest)

-- the first field
abbrev pub first_field : ℕ → List ℕ → List ℕ
first_field separator bytes = take (fields_length separator 1 bytes) bytes

-- the text behind the first field and its separator
abbrev pub after_field : ℕ → List ℕ → List ℕ
after_field separator bytes = drop (fields_length separator 1 bytes + 1) bytes

-- how many separators there are
abbrev pub count_of : ℕ → List ℕ → ℕ
count_of separator [] = 0
count_of separator (b ∷ rest) = cond (b == separator) (suc (count_of separator rest)) (count_of separator rest)

-- The kind of a field of two characters: 38 and 48 set a colour; 58 sets that of an underline and 59 resets it, which the profile doesn't
-- have.
abbrev pub two_kind : ℕ → ℕ → Field
two_kind a b =
    if (a == 0x33 || a == 0x34) && b == 0x38 then Colour else
    if a == 0x35 && b == 0x38 then LineColour else
    if a == 0x35 && b == 0x39 then NoLineColour else
    Plain

-- a number without its leading zeros, which add nothing to its value (ECMA-48 5.4.2)
abbrev pub without_zeros : List ℕ → List ℕ
without_zeros [] = []
without_zeros (b ∷ rest) = if b == 0x30 then without_zeros rest else b ∷ rest

-- the same of a number without leading zeros
abbrev pub number_kind : List ℕ → Field
number_kind (a ∷ b ∷ []) = two_kind a b
number_kind number = Plain

-- the same of any field without a colon
abbrev pub whole_kind : List ℕ → Field
whole_kind field = number_kind (without_zeros field)

-- a field with a colon has sub-parameters
abbrev pub field_kind : List ℕ → Field
field_kind field = cond (nat_lt 0 (count_of 0x3A field)) Parted (whole_kind field)

-- how many parameters belong together: with 5 three, with 2 five, otherwise so many
abbrev pub number_together : ℕ → List ℕ → ℕ
number_together otherwise (b ∷ []) = if b == 0x35 then 3 else if b == 0x32 then 5 else otherwise
number_together otherwise number = otherwise

abbrev pub together : ℕ → List ℕ → ℕ
together otherwise field = number_together otherwise (without_zeros field)

-- more fields than any sequence has
abbrev pub all_fields : ℕ
all_fields = 256

-- The number of fields in the group of the first one. If 38 or 48 isn't followed by 5 or 2, all later fields belong to it.
abbrev pub group_size : Field → List ℕ → ℕ
group_size Colour next = together all_fields next
group_size LineColour next = together 1 next
group_size kind next = 1

-- the second field
abbrev pub next_field : List ℕ → List ℕ
next_field bytes = first_field 0x3B (after_field 0x3B bytes)

-- the kind of the first parameter
abbrev pub first_kind : List ℕ → Field
first_kind bytes = field_kind (first_field 0x3B bytes)

-- how many bytes the first field and those that it takes along have
abbrev pub group_length : List ℕ → ℕ
group_length bytes = fields_length 0x3B (group_size (first_kind bytes) (next_field bytes)) bytes

-- colons as semicolons
abbrev pub with_semicolons : List ℕ → List ℕ
with_semicolons [] = []
with_semicolons (b ∷ rest) = cond (b == 0x3A) 0x3B b ∷ with_semicolons rest

-- 2 and its sub-parameters, red, green and blue, or a colour space, empty or not, these, and what doesn't matter here (ISO 8613-6)
abbrev pub mixed_text : ℕ → List ℕ → List ℕ
mixed_text layer parts =
    if count_of 0x3A parts == 2 then rendition (layer ∷ 0x38 ∷ 0x3B ∷ 0x32 ∷ 0x3B ∷ with_semicolons parts) else
    if nat_lt 2 (count_of 0x3A parts) then
    rendition (layer ∷ 0x38 ∷ 0x3B ∷ 0x32 ∷ 0x3B
    ∷ with_semicolons (take (fields_length 0x3A 3 (after_field 0x3A parts)) (after_field 0x3A parts)))
    else []

-- the sub-parameters of 38 or 48, of which this is the first digit: 5 and an index, or 2 and a mixture
abbrev pub way_text : ℕ → List ℕ → List ℕ
way_text layer (way ∷ colon ∷ parts) =
    if not (colon == 0x3A) then [] else
    if way == 0x32 then mixed_text layer parts else
    if way == 0x35 && count_of 0x3A parts == 0 then rendition (layer ∷ 0x38 ∷ 0x3B ∷ 0x35 ∷ 0x3B ∷ with_semicolons parts) else
    []
way_text layer parts = []

-- the same, whatever zeros lead the first of them
abbrev pub colour_text : ℕ → List ℕ → List ℕ
colour_text layer parts = way_text layer (without_zeros parts)

-- a number whose value is 0; an empty one has no value of its own
abbrev pub is_zero : List ℕ → Bool
is_zero [] = false
is_zero (b ∷ rest) = length (without_zeros (b ∷ rest)) == 0

-- the sub-parameter of 4: 0 is no line, others are lines of some form, all of which are shown as one
abbrev pub line_text : List ℕ → List ℕ
line_text form = cond (is_zero form) (rendition (0x32 ∷ 0x34 ∷ [])) (rendition (0x34 ∷ []))

-- a field with sub-parameters that begins with 38 or 48; others say nothing
abbrev pub wide_text : ℕ → List ℕ → List ℕ
wide_text layer (eight ∷ colon ∷ parts) =
    cond ((layer == 0x33 || layer == 0x34) && (eight == 0x38 && colon == 0x3A)) (colour_text layer parts) []
wide_text layer parts = []

-- a field with sub-parameters: of 4, 38 or 48; others say nothing
abbrev pub number_parted_text : List ℕ → List ℕ
number_parted_text (first ∷ second ∷ rest) =
    cond (first == 0x34 && second == 0x3A) (line_text rest) (wide_text first (second ∷ rest))
number_parted_text field = []

abbrev pub parted_text : List ℕ → List ℕ
parted_text field = number_parted_text (without_zeros field)

-- the output for a field and its group
abbrev pub group_text : Field → List ℕ → List ℕ
group_text Plain group = rendition group
group_text Colour group = rendition group
group_text LineColour group = []
group_text NoLineColour group = []
group_text Parted group = parted_text group

-- each parameter with those that belong to it, in a rendition of its own; fuel is above the number of bytes
unfoldable pub spelled_from : ℕ → List ℕ → List ℕ
spelled_from zero bytes = []
spelled_from (suc n) bytes =
    group_text (first_kind bytes) (take (group_length bytes) bytes)
    ++ cond (nat_lt (group_length bytes) (length bytes)) (spelled_from n (drop (group_length bytes + 1) bytes)) []

unfoldable pub spelled_out : List ℕ → List ℕ
spelled_out bytes = spelled_from (suc (length bytes)) bytes

-- a colour of a line, or none
abbrev pub is_of_lines : Field → Bool
is_of_lines LineColour = true
is_of_lines NoLineColour = true
is_of_lines kind = false

-- a parameter sets the colour of an underline
unfoldable pub has_lines_from : ℕ → List ℕ → Bool
has_lines_from zero bytes = false
has_lines_from (suc n) bytes =
    is_of_lines (first_kind bytes)
    || (nat_lt (group_length bytes) (length bytes) && has_lines_from n (drop (group_length bytes + 1) bytes))

unfoldable pub has_lines : List ℕ → Bool
has_lines bytes = has_lines_from (suc (length bytes)) bytes

-- the most semicolons of parameters that the profile keeps all of
abbrev pub most_semicolons : ℕ
most_semicolons = 15

-- whether a rendition has to be spelled out: it has sub-parameters, more than sixteen parameters, or colours of lines
abbrev pub is_changed : List ℕ → Bool
is_changed bytes = nat_lt 0 (count_of 0x3A bytes) || (nat_lt most_semicolons (count_of 0x3B bytes) || has_lines bytes)

-- the two characters that 58 and 59 have
abbrev pub is_pair : ℕ → ℕ → Bool
is_pair first second = first == 0x35 && (second == 0x38 || second == 0x39)

-- A rendition may need spelling out: a colon, 58 or 59 in some number, or too many semicolons, given the byte before and the semicolons
-- before.
abbrev pub may_change : ℕ → ℕ → List ℕ → Bool
may_change before semicolons [] = nat_lt most_semicolons semicolons
may_change before semicolons (b ∷ rest) =
    cond (b == 0x3A || is_pair before b) true (may_change b (cond (b == 0x3B) (suc semicolons) semicolons) rest)
