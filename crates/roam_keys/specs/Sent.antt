-- The bytes that a key sends (VT220 Programmer Reference, chapter 3: the codes of the keyboard).
use Rattle.std.specs.Prelude.{ℕ, List, [], ◌∷◌, ◌++◌, codes, if◌then◌else◌}
use Rattle.std.specs.Char.{encode_utf8}
use Rattle.roam_keys.specs.declared.keys.Key.{Key}
use Rattle.roam_keys.specs.declared.keys.Key.TheVariants.{Char, Up, Down, Right, Left, Pf1, Pf2, Pf3, Pf4, Find, Insert, Remove, Select, Prev, Next, F6, F7, F8, F9, F10, F11, F12, F13, F14, F15, F16, F17, F18, F19, F20, Pad0, Pad1, Pad2, Pad3, Pad4, Pad5, Pad6, Pad7, Pad8, Pad9, PadMinus, PadComma, PadPeriod, PadEnter, Return, Backspace}
use Rattle.roam_keys.specs.declared.sent.KeyModes.{KeyModes}

-- ESC O and a final byte
abbrev pub single_shift : ℕ → List ℕ
single_shift final = 0x1B ∷ 0x4F ∷ final ∷ []

-- ESC [, a number and ~
abbrev pub numbered_sequence : List ℕ → List ℕ
numbered_sequence digits = 0x1B ∷ 0x5B ∷ (digits ++ 0x7E ∷ [])

-- a cursor key: ESC [ and a final byte, and under DECCKM ESC O and that byte
abbrev pub cursor_key : KeyModes → ℕ → List ℕ
cursor_key modes final = if modes.application_cursor then single_shift final else 0x1B ∷ 0x5B ∷ final ∷ []

-- a key of the keypad: a character, and in application mode ESC O and a final byte
abbrev pub keypad_key : KeyModes → ℕ → ℕ → List ℕ
keypad_key modes final character = if modes.application_keypad then single_shift final else character ∷ []

-- the return key: CR, and under LNM CR LF
abbrev pub return_key : KeyModes → List ℕ
return_key modes = if modes.new_line then 0x0D ∷ 0x0A ∷ [] else 0x0D ∷ []

-- the bytes that a key sends under the modes of a keyboard
abbrev pub bytes_of_key : KeyModes → Key → List ℕ
bytes_of_key modes (Char c) = encode_utf8 c
bytes_of_key modes Up = cursor_key modes 0x41
bytes_of_key modes Down = cursor_key modes 0x42
bytes_of_key modes Right = cursor_key modes 0x43
bytes_of_key modes Left = cursor_key modes 0x44
bytes_of_key modes Pf1 = single_shift 0x50
bytes_of_key modes Pf2 = single_shift 0x51
bytes_of_key modes Pf3 = single_shift 0x52
bytes_of_key modes Pf4 = single_shift 0x53
bytes_of_key modes Find = numbered_sequence (codes "1")
bytes_of_key modes Insert = numbered_sequence (codes "2")
bytes_of_key modes Remove = numbered_sequence (codes "3")
bytes_of_key modes Select = numbered_sequence (codes "4")
bytes_of_key modes Prev = numbered_sequence (codes "5")
bytes_of_key modes Next = numbered_sequence (codes "6")
bytes_of_key modes F6 = numbered_sequence (codes "17")
bytes_of_key modes F7 = numbered_sequence (codes "18")
bytes_of_key modes F8 = numbered_sequence (codes "19")
bytes_of_key modes F9 = numbered_sequence (codes "20")
bytes_of_key modes F10 = numbered_sequence (codes "21")
bytes_of_key modes F11 = numbered_sequence (codes "23")
bytes_of_key modes F12 = numbered_sequence (codes "24")
bytes_of_key modes F13 = numbered_sequence (codes "25")
bytes_of_key modes F14 = numbered_sequence (codes "26")
bytes_of_key modes F15 = numbered_sequence (codes "28")
bytes_of_key modes F16 = numbered_sequence (codes "29")
bytes_of_key modes F17 = numbered_sequence (codes "31")
bytes_of_key modes F18 = numbered_sequence (codes "32")
bytes_of_key modes F19 = numbered_sequence (codes "33")
bytes_of_key modes F20 = numbered_sequence (codes "34")
bytes_of_key modes Pad0 = keypad_key modes 0x70 0x30
bytes_of_key modes Pad1 = keypad_key modes 0x71 0x31
bytes_of_key modes Pad2 = keypad_key modes 0x72 0x32
bytes_of_key modes Pad3 = keypad_key modes 0x73 0x33
bytes_of_key modes Pad4 = keypad_key modes 0x74 0x34
bytes_of_key modes Pad5 = keypad_key modes 0x75 0x35
bytes_of_key modes Pad6 = keypad_key modes 0x76 0x36
bytes_of_key modes Pad7 = keypad_key modes 0x77 0x37
bytes_of_key modes Pad8 = keypad_key modes 0x78 0x38
bytes_of_key modes Pad9 = keypad_key modes 0x79 0x39
bytes_of_key modes PadMinus = keypad_key modes 0x6D 0x2D
bytes_of_key modes PadComma = keypad_key modes 0x6C 0x2C
bytes_of_key modes PadPeriod = keypad_key modes 0x6E 0x2E
bytes_of_key modes PadEnter = if modes.application_keypad then single_shift 0x4D else return_key modes
bytes_of_key modes Return = return_key modes
bytes_of_key modes Backspace = 0x7F ∷ []
