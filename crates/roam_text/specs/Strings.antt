-- The control strings that count, and their texts (ECMA-48 5.6). ControlStrings says how far each goes, and Functions how the signs behind
-- it are read.
use Rattle.std.specs.Prelude.{ℕ, ◌+◌, ◌==◌, zero, suc, Bool, true, false, cond, if◌then◌else◌, List, [], ◌∷◌, ◌++◌, length, Option, None, Some}
use Rattle.roam_text.specs.declared.kinds.Kind.{Kind}
use Rattle.roam_text.specs.declared.kinds.Kind.TheVariants.{Bell, Escape, Upper, StringOpening, CommandOpening, StringTerminator}
use Rattle.roam_text.specs.declared.strings.StringKind.{StringKind}
use Rattle.roam_text.specs.declared.strings.StringKind.TheVariants.{DeviceControl, StartOfString, SystemCommand, PrivacyMessage, ApplicationProgram}
use Rattle.roam_text.specs.declared.strings.StringEnd.{StringEnd}
use Rattle.roam_text.specs.declared.strings.StringEnd.TheVariants.{Bell as EndBell, Terminator, EscapedTerminator}
use Rattle.roam_text.specs.declared.strings.StringStep.{StringStep}
use Rattle.roam_text.specs.declared.strings.StringStep.TheVariants.{Nothing, Opened, Added, Ended, BrokenOff}
use Rattle.roam_text.specs.declared.strings.StringSteps.{StringSteps}
use Rattle.roam_text.specs.Kinds.{kind_of}
use Rattle.roam_text.specs.Log.{Item, Sign, Character, characters, signs}
use Rattle.roam_text.specs.Inside.{front_while, rest_while}
use Rattle.roam_text.specs.ControlStrings.{in_control_string}
use Rattle.roam_text.specs.ControlSequences.{body_of, intermediates}
use Rattle.roam_text.specs.EscapeSequences.{in_escape_sequence}
use Rattle.roam_text.specs.Functions.{front}

-- which string a C1 control opens: DCS 90, SOS 98, OSC 9D, PM 9E, APC 9F (ECMA-48 5.3)
abbrev pub string_kind : ℕ → StringKind
string_kind c =
    if c == 0x98 then StartOfString else
    if c == 0x9D then SystemCommand else
    if c == 0x9E then PrivacyMessage else
    if c == 0x9F then ApplicationProgram else
    DeviceControl

-- a control string that counts: its introducer, its characters, and its end (ECMA-48 5.6)
pub record ControlString : Type 0 where
  pub kind : StringKind
  pub text : List ℕ
  pub ending : StringEnd

-- a control string that was opened, and whose end isn't known yet
pub record OpenString : Type 0 where
  pub kind : StringKind
  pub text : List ℕ

-- the control strings of some signs that count, in order, and the one that is open after them
pub record Strings : Type 0 where
  pub ended : List ControlString
  pub begun : Option OpenString

-- none at all
abbrev pub no_strings : Strings
no_strings = record { ended = []; begun = None }

-- this one alone, which counts
abbrev pub one_string : StringKind → List ℕ → StringEnd → Strings
one_string kind text ending = record { ended = record { kind = kind; text = text; ending = ending } ∷ []; begun = None }

-- this one alone, which is open
abbrev pub open_alone : StringKind → List ℕ → Strings
open_alone kind text = record { ended = []; begun = Some (record { kind = kind; text = text }) }

-- ESC ends a string, which counts if 5C is the next character: the two are ST (ECMA-48 5.3)
abbrev pub after_escape : StringKind → List ℕ → List ℕ → Strings
after_escape kind text [] = open_alone kind text
after_escape kind text (c ∷ rest) = cond (c == 0x5C) (one_string kind text EscapedTerminator) no_strings

-- the end of a string with this text: it counts after BEL, ST, and ESC with 5C, and not after CAN, SUB or any other ESC
abbrev pub string_end : StringKind → List ℕ → List Sign → Strings
string_end kind text [] = open_alone kind text
string_end kind text (Character Bell c ∷ rest) = one_string kind text EndBell
string_end kind text (Character StringTerminator c ∷ rest) = one_string kind text Terminator
string_end kind text (Character Escape c ∷ rest) = after_escape kind text (characters rest)
string_end kind text (s ∷ rest) = no_strings

-- the rest of a string whose text so far is this; BEL ends it too if bell is true
abbrev pub string_from : Bool → StringKind → List ℕ → List Sign → Strings
string_from bell kind text rest =
    string_end kind (text ++ characters (front_while (in_control_string bell) rest)) (rest_while (in_control_string bell) rest)

-- the string that a C1 control opens; others open none
abbrev pub opened : Kind → ℕ → List Sign → Strings
opened StringOpening c rest = string_from false (string_kind c) [] rest
opened CommandOpening c rest = string_from true SystemCommand [] rest
opened k c rest = no_strings

-- the string that ESC and a byte of 40 to 5F open
abbrev pub spelled : Option (List ℕ) → List Sign → Strings
spelled (Some []) (Character (Upper b) c ∷ rest) = opened (kind_of (b + 64)) (b + 64) rest
spelled inter rest = no_strings

-- the string of the front that begins with a sign
abbrev pub front_strings : Sign → List Sign → Strings
front_strings (Character Escape c) rest =
    spelled (intermediates (body_of (front_while in_escape_sequence rest))) (rest_while in_escape_sequence rest)
front_strings (Character StringOpening c) rest = opened StringOpening c rest
front_strings (Character CommandOpening c) rest = opened CommandOpening c rest
front_strings s rest = no_strings

-- the first that is there
abbrev pub first_open : Option OpenString → Option OpenString → Option OpenString
first_open None o = o
first_open (Some s) o = Some s

-- the strings of a front, and those of the signs after it
abbrev pub followed_by : Strings → Strings → Strings
followed_by a b = record { ended = a.ended ++ b.ended; begun = first_open a.begun b.begun }

-- front by front; fuel is at least the number of signs
unfoldable pub strings_from : ℕ → List Sign → Strings
strings_from zero signs = no_strings
strings_from (suc n) [] = no_strings
strings_from (suc n) (s ∷ rest) = followed_by (front_strings s rest) (strings_from n (front s rest).left)

-- the control strings of some signs
unfoldable pub strings : List Sign → Strings
strings signs = strings_from (length signs) signs

-- the control strings of a log, and the one that is open after it
abbrev pub strings_by : List Item → Strings
strings_by log = strings (signs log)

-- the control strings of a log that count, in order
abbrev pub strings_of : List Item → List ControlString
strings_of log = (strings_by log).ended

-- the control string that is open after a log
abbrev pub open_string : List Item → Option OpenString
open_string log = (strings_by log).begun

-- a string that is open, with one character more
abbrev pub with_character : ℕ → Option OpenString → Option OpenString
with_character c None = None
with_character c (Some s) = Some (record { kind = s.kind; text = s.text ++ c ∷ [] })

-- a string that was open counts, ended so
abbrev pub ended_so : StringEnd → Option OpenString → List ControlString
ended_so ending None = []
ended_so ending (Some s) = record { kind = s.kind; text = s.text; ending = ending } ∷ []

-- the strings after one step
abbrev pub after_step : StringStep → Strings → Strings
after_step Nothing s = s
after_step (Opened kind) s = record { ended = s.ended; begun = Some (record { kind = kind; text = [] }) }
after_step (Added c) s = record { ended = s.ended; begun = with_character c s.begun }
after_step (Ended ending) s = record { ended = s.ended ++ ended_so ending s.begun; begun = None }
after_step BrokenOff s = record { ended = s.ended; begun = None }

-- the strings after the steps of a byte
abbrev pub after_steps : StringSteps → Strings → Strings
after_steps steps s = after_step steps.later (after_step steps.first s)
