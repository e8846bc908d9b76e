-- The table of control functions: the command of each function, group by group.
use Rattle.std.specs.Prelude.{ℕ, ◌==◌, if◌then◌else◌, Bool, true, false, List, [], ◌∷◌, Option, Some, None}
use Rattle.roam_text.specs.declared.functions.Function.{Function}
use Rattle.roam_text.specs.declared.functions.Function.TheVariants.{Print, C0, C1, Esc, Csi, Size}
use Rattle.roam_controls.specs.declared.commands.Command.{Command}
use Rattle.roam_controls.specs.declared.commands.Command.TheVariants.{Nothing, Prints, Moves, Erases, Edits, Shifts, Sets, Reports, Repeats}
use Rattle.roam_controls.specs.declared.motions.Motion.{Motion}
use Rattle.roam_controls.specs.declared.edits.Edit.{Edit}
use Rattle.roam_controls.specs.declared.erasures.Erasure.{Erasure}
use Rattle.roam_controls.specs.declared.shifts.Shift.{Shift}
use Rattle.roam_controls.specs.declared.settings.Setting.{Setting}
use Rattle.roam_controls.specs.declared.reports.Report.{Report}
use Rattle.roam_controls.specs.Motions.{c0_motion, c1_motion, motion_of}
use Rattle.roam_controls.specs.Edits.{edit_of, hash_edit}
use Rattle.roam_controls.specs.Erasures.{erasure_of, private_erasure}
use Rattle.roam_controls.specs.Parameters.{first, count}
use Rattle.roam_controls.specs.Shifts.{c0_shift, c1_shift, locking_shift, designation_of}
use Rattle.roam_controls.specs.Settings.{c1_setting, setting_of, private_setting, quoted_setting, exclaimed_setting, escape_setting}
use Rattle.roam_controls.specs.Reports.{report_of, private_report, secondary_report}

-- the command of a group, else another command
abbrev pub or_move : Option Motion → Command → Command
or_move (Some motion) other = Moves motion
or_move None other = other

abbrev pub or_erase : Option Erasure → Command → Command
or_erase (Some erasure) other = Erases erasure
or_erase None other = other

abbrev pub or_edit : Option Edit → Command → Command
or_edit (Some edit) other = Edits edit
or_edit None other = other

abbrev pub or_shift : Option Shift → Command → Command
or_shift (Some shift) other = Shifts shift
or_shift None other = other

abbrev pub or_set : Option Setting → Command → Command
or_set (Some setting) other = Sets setting
or_set None other = other

abbrev pub or_report : Option Report → Command → Command
or_report (Some report) other = Reports report
or_report None other = other

-- a C0 control (ECMA-48, section 5.2)
abbrev pub c0_command : ℕ → Command
c0_command b = or_move (c0_motion b) (or_shift (c0_shift b) Nothing)

-- a C1 control (ECMA-48, section 5.3)
abbrev pub c1_command : ℕ → Command
c1_command b = or_move (c1_motion b) (or_shift (c1_shift b) (or_set (c1_setting b) Nothing))

-- an escape sequence with an intermediate byte: those of designations and #
abbrev pub marked_escape : ℕ → ℕ → Command
marked_escape i b = or_shift (designation_of i b) (or_edit (hash_edit i b) Nothing)

-- an escape sequence, of its intermediate bytes and its final byte (ECMA-35, section 13)
abbrev pub escape_command : List ℕ → ℕ → Command
escape_command [] b = or_shift (locking_shift b) (or_set (escape_setting b) Nothing)
escape_command (i ∷ []) b = marked_escape i b
escape_command (i ∷ j ∷ more) b = Nothing

-- REP (ECMA-48, section 8.3.103)
abbrev pub repeat_of : List ℕ → ℕ → Command
repeat_of params b = if b == 0x62 then Repeats (count (first params)) else Nothing

-- a control sequence with neither private marker nor intermediate byte (ECMA-48, section 5.4)
abbrev pub plain_command : List ℕ → ℕ → Command
plain_command params b =
    or_set (setting_of params b) (or_move (motion_of params b) (or_erase (erasure_of params b)
    (or_edit (edit_of params b) (or_report (report_of params b) (repeat_of params b)))))

-- with a private marker: those of the VT220 are ? and >
abbrev pub marked_command : ℕ → List ℕ → ℕ → Command
marked_command marker params b =
    if marker == 0x3F then or_set (private_setting b) (or_erase (private_erasure params b) (or_report (private_report params b) Nothing))
    else if marker == 0x3E then or_report (secondary_report params b) Nothing
    else Nothing

-- with an intermediate byte: that of DECSTR is !, that of DECSCA "
abbrev pub intermediate_command : ℕ → List ℕ → ℕ → Command
intermediate_command i params b =
    if i == 0x21 then or_set (exclaimed_setting b) Nothing
    else if i == 0x22 then or_set (quoted_setting params b) Nothing
    else Nothing

abbrev pub sequence_command : Option ℕ → List ℕ → List ℕ → ℕ → Command
sequence_command None params [] b = plain_command params b
sequence_command (Some marker) params [] b = marked_command marker params b
sequence_command None params (i ∷ []) b = intermediate_command i params b
sequence_command (Some marker) params (i ∷ []) b = Nothing
sequence_command marker params (i ∷ j ∷ more) b = Nothing

-- the command of a function; one that is not listed has none
abbrev pub command_of : Function → Command
command_of (Print c) = Prints c
command_of (C0 b) = c0_command b
command_of (C1 b) = c1_command b
command_of (Esc inter b) = escape_command inter.items b
command_of (Csi marker params inter b) = sequence_command marker params.items inter.items b
command_of (Size r c) = Nothing

-- the parameters that settings read; other functions have none
abbrev pub parameters_of : Function → List ℕ
parameters_of (Csi marker params inter b) = params.items
parameters_of (Print c) = []
parameters_of (C0 b) = []
parameters_of (C1 b) = []
parameters_of (Esc inter b) = []
parameters_of (Size r c) = []

-- whether REP forgets its character by a command (this project's profile)
abbrev pub forgets : Command → Bool
forgets (Prints c) = false
forgets Nothing = true
forgets (Moves motion) = true
forgets (Erases erasure) = true
forgets (Edits edit) = true
forgets (Shifts shift) = true
forgets (Sets setting) = true
forgets (Reports report) = true
forgets (Repeats n) = false
