-- The control strings of some logs, computed from the definitions.
use Rattle.std.proofs.Common.{◌≡◌, ℕ, List, [], ◌∷◌, map, None, Some, refl}
use Rattle.roam_text.specs.declared.strings.StringKind.{StringKind}
use Rattle.roam_text.specs.declared.strings.StringKind.TheVariants.{DeviceControl, StartOfString, SystemCommand, PrivacyMessage, ApplicationProgram}
use Rattle.roam_text.specs.declared.strings.StringEnd.{StringEnd}
use Rattle.roam_text.specs.declared.strings.StringEnd.TheVariants.{Bell as EndBell, Terminator, EscapedTerminator}
use Rattle.roam_text.specs.Log.{Byte, is_unfinished, settled_part, settled_from, gained_characters}
use Rattle.roam_text.specs.Strings.{ControlString, strings, strings_from, strings_by}

abbrev text : StringKind → List ℕ → StringEnd → ControlString
text kind characters ending = record { kind = kind; text = characters; ending = ending }

-- an operating system command that BEL ends
an_operating_system_command_that_bel_ends : strings_by (map Byte (0x1B ∷ 0x5D ∷ 0x30 ∷ 0x3B ∷ 0x68 ∷ 0x69 ∷ 0x07 ∷ 0x78 ∷ []))
    ≡ record { ended = text SystemCommand (0x30 ∷ 0x3B ∷ 0x68 ∷ 0x69 ∷ []) EndBell ∷ []; begun = None }
unfolding strings strings_from gained_characters settled_part settled_from is_unfinished
an_operating_system_command_that_bel_ends = refl

-- one that ESC 5C ends
one_that_esc_5c_ends : strings_by (map Byte (0x1B ∷ 0x5D ∷ 0x32 ∷ 0x3B ∷ 0x61 ∷ 0x1B ∷ 0x5C ∷ []))
    ≡ record { ended = text SystemCommand (0x32 ∷ 0x3B ∷ 0x61 ∷ []) EscapedTerminator ∷ []; begun = None }
unfolding strings strings_from gained_characters settled_part settled_from is_unfinished
one_that_esc_5c_ends = refl

-- one that ST ends as one character, opened by OSC as one
one_that_st_ends_as_one_character_opened_by_osc_as_one : strings_by (map Byte (0xC2 ∷ 0x9D ∷ 0x35 ∷ 0xC3 ∷ 0xA9 ∷ 0xC2 ∷ 0x9C ∷ []))
    ≡ record { ended = text SystemCommand (0x35 ∷ 0xE9 ∷ []) Terminator ∷ []; begun = None }
unfolding strings strings_from gained_characters settled_part settled_from is_unfinished
one_that_st_ends_as_one_character_opened_by_osc_as_one = refl

-- BEL belongs to every other string
bel_belongs_to_every_other_string : strings_by (map Byte (0x1B ∷ 0x50 ∷ 0x71 ∷ 0x07 ∷ 0x61 ∷ 0x1B ∷ 0x5C ∷ []))
    ≡ record { ended = text DeviceControl (0x71 ∷ 0x07 ∷ 0x61 ∷ []) EscapedTerminator ∷ []; begun = None }
unfolding strings strings_from gained_characters settled_part settled_from is_unfinished
bel_belongs_to_every_other_string = refl

-- each opening has its kind
each_opening_has_its_kind : strings_by (map Byte (0x1B ∷ 0x58 ∷ 0xC2 ∷ 0x9C ∷ 0x1B ∷ 0x5E ∷ 0xC2 ∷ 0x9C ∷ 0x1B ∷ 0x5F ∷ 0xC2 ∷ 0x9C ∷ 0xC2 ∷ 0x90 ∷ 0xC2 ∷ 0x9C ∷ []))
    ≡ record { ended = text StartOfString ([]) Terminator ∷ text PrivacyMessage ([]) Terminator ∷ text ApplicationProgram ([]) Terminator ∷ text DeviceControl ([]) Terminator ∷ []; begun = None }
unfolding strings strings_from gained_characters settled_part settled_from is_unfinished
each_opening_has_its_kind = refl

-- CAN and SUB break a string off
can_and_sub_break_a_string_off : strings_by (map Byte (0x1B ∷ 0x5D ∷ 0x30 ∷ 0x3B ∷ 0x61 ∷ 0x18 ∷ 0x07 ∷ 0x1B ∷ 0x5D ∷ 0x31 ∷ 0x1A ∷ 0x1B ∷ 0x5C ∷ []))
    ≡ record { ended = []; begun = None }
unfolding strings strings_from gained_characters settled_part settled_from is_unfinished
can_and_sub_break_a_string_off = refl

-- another ESC breaks it off, and may open another
another_esc_breaks_it_off_and_may_open_another : strings_by (map Byte (0x1B ∷ 0x5D ∷ 0x30 ∷ 0x3B ∷ 0x61 ∷ 0x1B ∷ 0x5D ∷ 0x31 ∷ 0x07 ∷ 0x1B ∷ 0x50 ∷ 0x61 ∷ 0x1B ∷ 0x5B ∷ 0x6D ∷ []))
    ≡ record { ended = text SystemCommand (0x31 ∷ []) EndBell ∷ []; begun = None }
unfolding strings strings_from gained_characters settled_part settled_from is_unfinished
another_esc_breaks_it_off_and_may_open_another = refl

-- an ESC behind which nothing has come yet leaves it open
an_esc_behind_which_nothing_has_come_yet_leaves_it_open : strings_by (map Byte (0x1B ∷ 0x5D ∷ 0x30 ∷ 0x1B ∷ []))
    ≡ record { ended = []; begun = Some (record { kind = SystemCommand; text = 0x30 ∷ [] }) }
unfolding strings strings_from gained_characters settled_part settled_from is_unfinished
an_esc_behind_which_nothing_has_come_yet_leaves_it_open = refl

-- a character between ESC and 5C cancels the string
what_stands_between_esc_and_5c_breaks_it_off : strings_by (map Byte (0x1B ∷ 0x5D ∷ 0x30 ∷ 0x1B ∷ 0x00 ∷ 0x5C ∷ []))
    ≡ record { ended = []; begun = None }
unfolding strings strings_from gained_characters settled_part settled_from is_unfinished
what_stands_between_esc_and_5c_breaks_it_off = refl

-- ill-formed bytes are U+FFFD in it
ill_formed_bytes_are_ufffd_in_it : strings_by (map Byte (0x1B ∷ 0x5D ∷ 0xE2 ∷ 0x82 ∷ 0x41 ∷ 0x07 ∷ []))
    ≡ record { ended = text SystemCommand (0xFFFD ∷ 0x41 ∷ []) EndBell ∷ []; begun = None }
unfolding strings strings_from gained_characters settled_part settled_from is_unfinished
ill_formed_bytes_are_ufffd_in_it = refl

-- an intermediate byte makes ESC 5D no opening
an_intermediate_byte_makes_esc_5d_no_opening : strings_by (map Byte (0x1B ∷ 0x20 ∷ 0x5D ∷ 0x30 ∷ 0x07 ∷ []))
    ≡ record { ended = []; begun = None }
unfolding strings strings_from gained_characters settled_part settled_from is_unfinished
an_intermediate_byte_makes_esc_5d_no_opening = refl

-- one inside a control sequence ends that
one_inside_a_control_sequence_ends_that : strings_by (map Byte (0x1B ∷ 0x5B ∷ 0x31 ∷ 0x1B ∷ 0x5D ∷ 0x30 ∷ 0x07 ∷ []))
    ≡ record { ended = text SystemCommand (0x30 ∷ []) EndBell ∷ []; begun = None }
unfolding strings strings_from gained_characters settled_part settled_from is_unfinished
one_inside_a_control_sequence_ends_that = refl
