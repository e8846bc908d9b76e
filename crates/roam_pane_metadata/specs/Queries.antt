-- Questions of a program that its screen can't answer: colours, the state of a mode, the size, and the terminal's name (xterm's control
-- sequences and operating system commands; DECRQM of the VT510).
use Rattle.std.specs.Prelude.{ℕ, ◌==◌, ◌&&◌, Bool, true, false, cond, if◌then◌else◌, List, [], ◌∷◌, ◌++◌, map, Option, None, Some}
use Rattle.std.specs.List.{flat_map}
use Rattle.std.specs.Option.{option_to_list}
use Rattle.roam_text.specs.declared.functions.Function.{Function}
use Rattle.roam_text.specs.declared.functions.Function.TheVariants.{Esc, Csi}
use Rattle.roam_text.specs.declared.strings.StringKind.{StringKind}
use Rattle.roam_text.specs.declared.strings.StringKind.TheVariants.{SystemCommand}
use Rattle.roam_text.specs.declared.strings.StringEnd.{StringEnd}
use Rattle.roam_text.specs.declared.strings.StringEnd.TheVariants.{Bell}
use Rattle.roam_text.specs.Log.{Byte}
use Rattle.roam_text.specs.Functions.{functions_of}
use Rattle.roam_text.specs.Strings.{ControlString, strings_of}
use Rattle.roam_pane_metadata.specs.declared.settings.Settings.{Settings}
use Rattle.roam_pane_metadata.specs.declared.settings.Tracking.{Tracking}
use Rattle.roam_pane_metadata.specs.declared.settings.Tracking.TheVariants.{Off, Buttons, Drags, Motion}
use Rattle.roam_pane_metadata.specs.declared.screen_modes.ScreenModes.{ScreenModes}
use Rattle.roam_pane_metadata.specs.declared.queries.Query.{Query}
use Rattle.roam_pane_metadata.specs.declared.queries.Query.TheVariants.{Foreground, Background, Frames, Pastes, PrivateMode, AnsiMode, Size, Version}
use Rattle.roam_pane_metadata.specs.declared.queries.QueryForm.{QueryForm}
use Rattle.roam_pane_metadata.specs.declared.queries.QueryForm.TheVariants.{Nothing, Mode, AnsiForm, Window, Name}
use Rattle.roam_pane_metadata.specs.declared.queries.ModeState.{ModeState}
use Rattle.roam_pane_metadata.specs.declared.queries.ModeState.TheVariants.{Unknown, Set, Reset}
use Rattle.roam_pane_metadata.specs.Settings.{fresh_settings, heard}
use Rattle.roam_pane_metadata.specs.ScreenModes.{fresh_modes, modes_after}
use Rattle.roam_pane_metadata.specs.InOrder.{in_order, later_in_order, next_in_order}

-- ---- the state of a mode, as DECRPM reports it (VT510)

abbrev pub state_of : Bool → ModeState
state_of true = Set
state_of false = Reset

-- the private mode that asked for these reports of the mouse; 0 if none did (xterm, mouse tracking)
abbrev pub tracking_mode : Tracking → ℕ
tracking_mode Off = 0
tracking_mode Buttons = 1000
tracking_mode Drags = 1002
tracking_mode Motion = 1003

-- the state of a private mode; those that the terminal doesn't have are unknown (DEC VT220; xterm, DECSET)
abbrev pub mode_state : Settings → ScreenModes → ℕ → ModeState
mode_state s m n =
    if n == 1 then state_of m.cursor_keys else
    if n == 5 then state_of m.reverse_screen else
    if n == 6 then state_of m.origin else
    if n == 7 then state_of m.autowrap else
    if n == 25 then state_of m.cursor_visible else
    if n == 1000 then state_of (tracking_mode s.tracking == 1000) else
    if n == 1002 then state_of (tracking_mode s.tracking == 1002) else
    if n == 1003 then state_of (tracking_mode s.tracking == 1003) else
    if n == 1004 then state_of s.focus_reports else
    if n == 1006 then state_of s.sgr_reports else
    if n == 47 then state_of s.alternate_screen else
    if n == 1047 then state_of s.alternate_screen else
    if n == 1049 then state_of s.alternate_screen else
    Unknown

-- the state of a mode of ECMA-48: IRM 4, LNM 20; all others are unknown (ECMA-48, section 7)
abbrev pub ansi_mode_state : ScreenModes → ℕ → ModeState
ansi_mode_state m n = if n == 4 then state_of m.insert else if n == 20 then state_of m.newline else Unknown

-- ---- questions by control functions

-- the question of a control sequence: the state of a mode of ECMA-48 or of a private one (DECRQM, CSI n $ p and CSI ? n $ p), a report on
-- the window (xterm, CSI n t), or the name (XTVERSION, CSI > q)
abbrev pub query_form_of : Option ℕ → List ℕ → ℕ → QueryForm
query_form_of None [] last = cond (last == 0x74) Window Nothing
query_form_of None (b ∷ []) last = cond (b == 0x24 && last == 0x70) AnsiForm Nothing
query_form_of (Some mark) [] last = cond (mark == 0x3E && last == 0x71) Name Nothing
query_form_of (Some mark) (b ∷ []) last = cond (mark == 0x3F && (b == 0x24 && last == 0x70)) Mode Nothing
query_form_of mark inter last = Nothing

-- the question about a private mode, under these settings and modes
abbrev pub mode_asked : Settings → ScreenModes → ℕ → Query
mode_asked s m n =
    if n == 2004 then Pastes s.bracketed_paste else if n == 2026 then Frames m.update else PrivateMode n (mode_state s m n)

-- with its parameters; 18 asks for the size of the text area in characters (xterm, window manipulation)
abbrev pub asked : QueryForm → List ℕ → Settings → ScreenModes → Option Query
asked Mode (n ∷ []) s m = Some (mode_asked s m n)
asked AnsiForm (n ∷ []) s m = Some (AnsiMode n (ansi_mode_state m n))
asked Window (n ∷ more) s m = cond (n == 18) (Some Size) None
asked Name (n ∷ []) s m = cond (n == 0) (Some Version) None
asked query_form params s m = None

-- the questions of a function under these settings and modes
abbrev pub asked_by : Settings → ScreenModes → Function → List Query
asked_by s m (Csi mark params inter last) = option_to_list (asked (query_form_of mark inter.items last) params.items s m)
asked_by s m f = []

-- the questions of some functions, each under the settings and modes of those before it
abbrev pub asked_in : Settings → ScreenModes → List Function → List Query
asked_in s m [] = []
asked_in s m (f ∷ fs) = asked_by s m f ++ asked_in (heard s f) (modes_after m f) fs

-- ---- questions by control strings

-- a colour: 10 is that of text, 11 that of the background
abbrev pub colour_asked : ℕ → Bool → Option Query
colour_asked digit bell =
    if digit == 0x30 then Some (Foreground bell) else if digit == 0x31 then Some (Background bell) else None

-- the question of an operating system command: 1, a digit, a semicolon and ? (OSC 10 and 11)
abbrev pub query_in : Bool → List ℕ → Option Query
query_in bell (one ∷ digit ∷ separator ∷ mark ∷ []) =
    cond (one == 0x31 && (separator == 0x3B && mark == 0x3F)) (colour_asked digit bell) None
query_in bell text = None

-- whether BEL ended it, by which its answer ends too
abbrev pub is_bell : StringEnd → Bool
is_bell Bell = true
is_bell ending = false

-- the questions of a control string of this kind and text, ended so; others than operating system commands ask nothing
abbrev pub asked_with : StringKind → List ℕ → StringEnd → List Query
asked_with SystemCommand text ending = option_to_list (query_in (is_bell ending) text)
asked_with kind text ending = []

abbrev pub asked_by_string : ControlString → List Query
asked_by_string string = asked_with string.kind string.text string.ending

-- ---- both, in the order in which they were asked

-- those of the control functions of some bytes
abbrev pub by_functions : List ℕ → List Query
by_functions bytes = asked_in fresh_settings fresh_modes (functions_of (map Byte bytes))

-- those of their control strings
abbrev pub by_strings : List ℕ → List Query
by_strings bytes = flat_map asked_by_string (strings_of (map Byte bytes))

-- the questions of a byte behind some others: it ends a control function, or a control string, or neither
abbrev pub asked_next : List ℕ → ℕ → List Query
asked_next before b = next_in_order by_functions by_strings before b

-- the questions of bytes behind some others, byte after byte
abbrev pub asked_after : List ℕ → List ℕ → List Query
asked_after before more = later_in_order by_functions by_strings before more

-- the questions of the program that wrote these bytes
abbrev pub queries_of : List ℕ → List Query
queries_of bytes = in_order by_functions by_strings bytes
