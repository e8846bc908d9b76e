-- The control strings that the signs to come will add, by the phase of their reader.
use Rattle.std.specs.Prelude.{ℕ, ◌≡◌, ◌+◌, ◌==◌, Bool, true, false, cond, List, [], ◌++◌, None}
use Rattle.roam_text.specs.declared.kinds.Kind.{Kind}
use Rattle.roam_text.specs.declared.kinds.Kind.TheVariants.{C0Control, Bell, Cancel, Escape, Intermediate, Digit, Colon, Separator, PrivateMarker, Upper, Delete, StringOpening, CommandOpening, SequenceIntroducer, StringTerminator}
use Rattle.roam_text.specs.declared.strings.StringKind.{StringKind}
use Rattle.roam_text.specs.declared.strings.StringKind.TheVariants.{SystemCommand}
use Rattle.roam_text.specs.declared.strings.StringEnd.TheVariants.{Bell as EndBell, Terminator, EscapedTerminator}
use Rattle.roam_text.specs.declared.strings.StringStep.{StringStep}
use Rattle.roam_text.specs.declared.strings.StringStep.TheVariants.{Nothing, Opened, Added, Ended, BrokenOff}
use Rattle.roam_text.specs.declared.strings.StringPhase.{StringPhase}
use Rattle.roam_text.specs.declared.strings.StringPhase.TheVariants.{Ground, InEscapeSequence, InControlSequence, InControlString, AfterEscape}
use Rattle.roam_text.specs.declared.strings.StringMove.{StringMove}
use Rattle.roam_text.specs.Kinds.{kind_of}
use Rattle.roam_text.specs.Log.{Item, Sign, bytes_of, characters, signs, unfinished_part}
use Rattle.roam_text.specs.Inside.{front_while, rest_while}
use Rattle.roam_text.specs.ControlStrings.{control_string}
use Rattle.roam_text.specs.ControlSequences.{in_control_sequence, end_control_sequence, body_of, intermediates}
use Rattle.roam_text.specs.EscapeSequences.{in_escape_sequence, end_escape_sequence, escape_sequence}
use Rattle.roam_text.specs.Strings.{ControlString, Strings, string_kind, after_escape, string_from, spelled, followed_by, strings, strings_of}

-- after ESC, and nothing else of the sequence yet
abbrev pub escape_strings : List Sign → Strings
escape_strings rest =
    followed_by (spelled (intermediates (body_of (front_while in_escape_sequence rest))) (rest_while in_escape_sequence rest))
    (strings (escape_sequence rest).left)

-- after an intermediate byte of an escape sequence, which opens no string then
abbrev pub late_escape_strings : List Sign → Strings
late_escape_strings rest = strings (end_escape_sequence None (rest_while in_escape_sequence rest)).left

-- inside a control sequence, which opens none
abbrev pub sequence_strings : List Sign → Strings
sequence_strings rest = strings (end_control_sequence None (rest_while in_control_sequence rest)).left

-- the strings to come in this phase, if this text of an open string was read
abbrev pub strings_in : StringPhase → List ℕ → List Sign → Strings
strings_in Ground text rest = strings rest
strings_in (InEscapeSequence true) text rest = escape_strings rest
strings_in (InEscapeSequence false) text rest = late_escape_strings rest
strings_in InControlSequence text rest = sequence_strings rest
strings_in (InControlString kind bell) text rest =
    followed_by (string_from bell kind text rest) (strings (control_string bell rest).left)
strings_in (AfterEscape kind) text rest = followed_by (after_escape kind text (characters rest)) (escape_strings rest)

-- a phase, and nothing done
abbrev pub quietly : StringPhase → StringMove
quietly phase = record { phase = phase; step = Nothing }

-- after a C1 control
abbrev pub moved_by_c1 : Kind → ℕ → StringMove
moved_by_c1 StringOpening c = record { phase = InControlString (string_kind c) false; step = Opened (string_kind c) }
moved_by_c1 CommandOpening c = record { phase = InControlString SystemCommand true; step = Opened SystemCommand }
moved_by_c1 SequenceIntroducer c = quietly InControlSequence
moved_by_c1 k c = quietly Ground

-- after a character that belongs to no sequence
abbrev pub moved_from_ground : Kind → ℕ → StringMove
moved_from_ground Escape c = quietly (InEscapeSequence true)
moved_from_ground StringOpening c = moved_by_c1 StringOpening c
moved_from_ground CommandOpening c = moved_by_c1 CommandOpening c
moved_from_ground SequenceIntroducer c = moved_by_c1 SequenceIntroducer c
moved_from_ground k c = quietly Ground

-- the move after a final byte of 40 to 5F of an escape sequence, bare if it has no intermediate byte
abbrev pub moved_by_upper : Bool → ℕ → StringMove
moved_by_upper true b = moved_by_c1 (kind_of (b + 64)) (b + 64)
moved_by_upper false b = quietly Ground

-- after a character inside an escape sequence
abbrev pub moved_in_escape_sequence : Bool → Kind → ℕ → StringMove
moved_in_escape_sequence bare (C0Control b) c = quietly (InEscapeSequence bare)
moved_in_escape_sequence bare Bell c = quietly (InEscapeSequence bare)
moved_in_escape_sequence bare Delete c = quietly (InEscapeSequence bare)
moved_in_escape_sequence bare (Intermediate b) c = quietly (InEscapeSequence false)
moved_in_escape_sequence bare (Upper b) c = moved_by_upper bare b
moved_in_escape_sequence bare (Cancel b) c = quietly Ground
moved_in_escape_sequence bare k c = moved_from_ground k c

-- after a character inside a control sequence
abbrev pub moved_in_control_sequence : Kind → ℕ → StringMove
moved_in_control_sequence (C0Control b) c = quietly InControlSequence
moved_in_control_sequence Bell c = quietly InControlSequence
moved_in_control_sequence (Intermediate b) c = quietly InControlSequence
moved_in_control_sequence (Digit b) c = quietly InControlSequence
moved_in_control_sequence Colon c = quietly InControlSequence
moved_in_control_sequence Separator c = quietly InControlSequence
moved_in_control_sequence (PrivateMarker b) c = quietly InControlSequence
moved_in_control_sequence Delete c = quietly InControlSequence
moved_in_control_sequence k c = moved_from_ground k c

-- after a character inside a control string
abbrev pub moved_in_control_string : StringKind → Bool → Kind → ℕ → StringMove
moved_in_control_string kind bell Escape c = quietly (AfterEscape kind)
moved_in_control_string kind bell (Cancel b) c = record { phase = Ground; step = BrokenOff }
moved_in_control_string kind bell StringTerminator c = record { phase = Ground; step = Ended Terminator }
moved_in_control_string kind true Bell c = record { phase = Ground; step = Ended EndBell }
moved_in_control_string kind bell k c = record { phase = InControlString kind bell; step = Added c }

-- the open string is cancelled, unless another one was opened
abbrev pub broken_off : StringStep → StringStep
broken_off (Opened kind) = Opened kind
broken_off step = BrokenOff

-- after the character behind an ESC inside a control string
abbrev pub moved_after_escape : Kind → ℕ → StringMove
moved_after_escape k c = cond (c == 0x5C) (record { phase = Ground; step = Ended EscapedTerminator })
    (record { phase = (moved_in_escape_sequence true k c).phase; step = broken_off (moved_in_escape_sequence true k c).step })

-- after a character
abbrev pub moved : StringPhase → Kind → ℕ → StringMove
moved Ground k c = moved_from_ground k c
moved (InEscapeSequence bare) k c = moved_in_escape_sequence bare k c
moved InControlSequence k c = moved_in_control_sequence k c
moved (InControlString kind bell) k c = moved_in_control_string kind bell k c
moved (AfterEscape kind) k c = moved_after_escape k c

-- after a character, by its code
abbrev pub moved_by : StringPhase → ℕ → StringMove
moved_by phase c = moved phase (kind_of c) c

-- the state of a reader of control strings
pub record StringView : Type 0 where
  pub pending : List ℕ
  pub phase : StringPhase

-- these strings come first
abbrev pub behind_strings : List ControlString → Strings → Strings
behind_strings first s = record { ended = first ++ s.ended; begun = s.begun }

-- The reader has read this log. It keeps the unfinished character, and determines the additions of the signs to come to the strings and to
-- the text of an open one.
pub record Follows (reader : StringView) (log : List Item) : Type 0 where
  pub pending : reader.pending ≡ unfinished_part (bytes_of log)
  pub before : List ControlString
  pub text : List ℕ
  pub to_come : (rest : List Sign) → strings (signs log ++ rest) ≡ behind_strings before (strings_in reader.phase text rest)

-- the reader of a log is between characters and outside all sequences and strings: later bytes are read as if there were none before
pub record NoStringOpen (log : List Item) : Type 0 where
  pub whole : unfinished_part (bytes_of log) ≡ []
  pub to_come : (rest : List Sign) → strings (signs log ++ rest) ≡ behind_strings (strings_of log) (strings rest)
