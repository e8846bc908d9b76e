-- The bytes of a keyboard under the modes of a terminal.
use Rattle.roam_keys.specs.declared.sent.KeyModes.{KeyModes}
use Rattle.roam_controls.specs.declared.modes.Modes.{Modes}

-- the modes that change what keys send: DECCKM, DECKPAM and LNM (VT220 Programmer Reference)
abbrev pub key_modes : Modes → KeyModes
key_modes modes = record { application_cursor = modes.cursor_keys; application_keypad = modes.application_keypad; new_line = modes.newline }
