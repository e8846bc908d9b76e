-- The state of a terminal, and what one function makes of it.
use Rattle.std.specs.Prelude.{ℕ, ◌-◌, ◌*◌, ◌==◌, ◌++◌, ◌&&◌, ◌||◌, not, Bool, false, unwrap_or, if◌then◌else◌, List, [], ◌∷◌, length, fold, replicate, Option, Some, None}
use Rattle.roam_cells.specs.Glyph.{Glyph, blank}
use Rattle.roam_cells.specs.Width.{width_of}
use Rattle.roam_charset.specs.Charsets.{mapped_by}
use Rattle.roam_charset.specs.Sets.{started_sets, in_use, spent}
use Rattle.roam_charset.specs.declared.sets.Sets.{Sets as GraphicSets}
use Rattle.roam_text.specs.declared.functions.Function.{Function}
use Rattle.roam_text.specs.declared.functions.Function.TheVariants.{Print, C0, C1, Esc, Csi, Size}
use Rattle.roam_text.specs.Log.{Item}
use Rattle.roam_text.specs.Functions.{functions_of}
use Rattle.roam_grid.specs.Screen.{Screen, start}
use Rattle.roam_grid.specs.Writing.{put_on, put_all, joined_on}
use Rattle.roam_grid.specs.Cursor.{after_restoring}
use Rattle.roam_grid.specs.Frames.{after_restart, all_blank, leaving, after_resizing}
use Rattle.roam_rows.specs.Sizing.{sized_rows}
use Rattle.roam_history.specs.Histories.{Scrollback, empty, keeping}
use Rattle.roam_history.specs.Fitting.{after_refit}
use Rattle.roam_grid.specs.Scrolling.{with_margins}
use Rattle.roam_grid.specs.Tabbing.{stop_set, stop_cleared, stops_cleared}
use Rattle.roam_grid.specs.declared.writing.Writing.{Writing}
use Rattle.roam_controls.specs.declared.commands.Command.{Command}
use Rattle.roam_controls.specs.declared.commands.Command.TheVariants.{Nothing, Prints, Moves, Erases, Edits, Shifts, Sets, Reports, Repeats}
use Rattle.roam_controls.specs.declared.settings.Setting.{Setting}
use Rattle.roam_controls.specs.declared.settings.Setting.TheVariants.{Mode, PrivateMode, Rendition, Margins, Guard, Keypad, Save, Restore, SoftReset, Reset, SetStop, ClearStop, ClearStops}
use Rattle.roam_controls.specs.declared.modes.Modes.{Modes}
use Rattle.roam_cells.specs.Inks.{InkValue}
use Rattle.roam_term.specs.declared.pens.Saved.{Saved}
use Rattle.roam_controls.specs.Commands.{command_of, parameters_of, forgets}
use Rattle.roam_term.specs.Edits.{edited_by}
use Rattle.roam_term.specs.Erasures.{erased_by}
use Rattle.roam_term.specs.Leaving.{top_rows, left_by_put, left_by_puts, left_by_motion, left_by_edit}
use Rattle.roam_controls.specs.Modes.{started_modes, with_mode, with_private_mode, soft_reset_modes}
use Rattle.roam_term.specs.Motions.{moved_by}
use Rattle.roam_term.specs.Pens.{plain_pen, nothing_saved}
use Rattle.roam_controls.specs.Renditions.{styled_by}
use Rattle.roam_term.specs.Reports.{answer_to}
use Rattle.roam_term.specs.Settings.{margins_set, after_private_mode}
use Rattle.roam_term.specs.Shifts.{shifted_by}

-- all of a terminal that a later function can depend on
pub record Live : Type 0 where
  -- the screen that is shown, with cursor, pending wrap, margins and tab stops
  pub screen : Screen
  -- the cells of the screen that is not shown, and whether the alternate screen is the one shown
  pub other : List Glyph
  pub alternate : Bool
  pub pen : InkValue
  pub modes : Modes
  pub sets : GraphicSets
  -- the states that DECSC saved on the main and on the alternate screen
  pub saved : Option Saved
  pub saved_alternate : Option Saved
  -- the character that REP repeats
  pub printed : Option ℕ

-- the state of a terminal: the live state, the last rows that scrolled off, and all answers
pub record Terminal : Type 0 where
  pub live : Live
  pub history : Scrollback
  pub answers : List ℕ

-- ---- printing

abbrev pub glyph_in : ℕ → InkValue → Glyph
glyph_in c pen = record { points = c ∷ []; style = pen.style; guarded = pen.guarded }

abbrev pub writing_under : Modes → Writing
writing_under modes = record { wraps = modes.autowrap; inserts = modes.insert }

-- a character as its set has it: one of width 0 joins, another is written, and is what REP repeats
abbrev pub written_on : ℕ → Live → Live
written_on c s =
    if width_of c == 0 then record s { screen = joined_on c s.screen }
    else record s { screen = put_on (glyph_in c s.pen) (writing_under s.modes) s.screen; printed = Some c }

-- a printed character spends a single shift
unfoldable pub printed_on : ℕ → Live → Live
printed_on c s = written_on (mapped_by (in_use s.sets) c) (record s { sets = spent s.sets })

-- one character after another
abbrev pub printed_all : Live → List ℕ → Live
printed_all s [] = s
printed_all s (c ∷ cs) = printed_all (printed_on c s) cs

-- a character is written so many times more, as it was mapped; only those of width 1 or 2 are kept for that
abbrev pub written_again : ℕ → ℕ → Live → Live
written_again n c s =
    if width_of c == 0 then s
    else record s { screen = put_all (replicate n (glyph_in c s.pen)) (writing_under s.modes) s.screen }

-- REP (ECMA-48, section 8.3.103): no effect if no character is kept
abbrev pub repeated_on : ℕ → Option ℕ → Live → Live
repeated_on n None s = s
repeated_on n (Some c) s = written_again n c s

-- ---- what DECSC keeps

-- the state that DECSC saves (VT220 Programmer Reference)
abbrev pub keepsake : Live → Saved
keepsake s =
    record { row = s.screen.row; col = s.screen.col; pending = s.screen.pending; pen = s.pen; sets = s.sets; origin = s.modes.origin }

-- it is kept for the screen that is shown
abbrev pub saved_on : Live → Live
saved_on s =
    if s.alternate then record s { saved_alternate = Some (keepsake s) }
    else record s { saved = Some (keepsake s) }

-- the saved state of the screen that is shown, and else the start's values
abbrev pub kept_of : Live → Saved
kept_of s = unwrap_or (if s.alternate then s.saved_alternate else s.saved) nothing_saved

-- DECRC (VT220 Programmer Reference): a kept wrap pends only in the last column under DECAWM
abbrev pub restored_to : Saved → Live → Live
restored_to k s =
    record s {
      screen = after_restoring k.row k.col (k.pending && s.modes.autowrap) s.screen;
      pen = k.pen;
      sets = k.sets;
      modes = record s.modes { origin = k.origin };
    }

-- ---- the alternate screen

-- the modes that choose the screen that is shown (47, 1047 and 1049 of xterm)
abbrev pub is_alternate_mode : ℕ → Bool
is_alternate_mode p = p == 47 || p == 1047 || p == 1049

-- the screen that wasn't shown is shown; cursor, margins and tab stops stay, and no wrap pends
abbrev pub screens_switched : Live → Live
screens_switched s =
    record s { screen = record s.screen { cells = s.other; pending = false }; other = s.screen.cells; alternate = not s.alternate }

-- the screen that is shown is blank
abbrev pub screen_blanked : Live → Live
screen_blanked s = record s { screen = all_blank s.screen }

-- 47 and 1047 show the alternate screen; 1049 first does DECSC, and then blanks it
abbrev pub alternate_shown : ℕ → Live → Live
alternate_shown p s = if p == 1049 then screen_blanked (screens_switched (saved_on s)) else screens_switched s

-- 47 shows the main screen; 1047 first blanks the alternate one, and 1049 then does DECRC
abbrev pub main_shown : ℕ → Live → Live
main_shown p s =
    if p == 1047 then screens_switched (screen_blanked s)
    else if p == 1049 then restored_to (kept_of (screens_switched s)) (screens_switched s)
    else screens_switched s

-- if the chosen screen is shown already, nothing happens
abbrev pub screen_chosen : Bool → ℕ → Live → Live
screen_chosen alternate p s =
    if (alternate && not s.alternate) then alternate_shown p s
    else if (not alternate && s.alternate) then main_shown p s
    else s

-- ---- resets

-- DECSTR (this project's profile): cursor, pending wrap and the modes that it doesn't name stay
abbrev pub soft_reset : Live → Live
soft_reset s =
    record s {
      screen = with_margins 0 (s.screen.rows - 1) s.screen;
      pen = plain_pen;
      modes = soft_reset_modes s.modes;
      sets = started_sets;
      saved = None;
      saved_alternate = None;
    }

-- RIS (ECMA-48, section 8.3.105): all is as at the start, but for the size
abbrev pub reset : Live → Live
reset s =
    record {
      screen = after_restart s.screen;
      other = replicate (length s.other) blank;
      alternate = false;
      pen = plain_pen;
      modes = started_modes;
      sets = started_sets;
      saved = None;
      saved_alternate = None;
      printed = None;
    }

-- ---- the table

-- a mode, and a private mode with its effect on the screen at once
abbrev pub mode_set : Bool → Live → ℕ → Live
mode_set on s p = record s { modes = with_mode on p s.modes }

abbrev pub private_mode_set : Bool → Live → ℕ → Live
private_mode_set on s p =
    if is_alternate_mode p then screen_chosen on p s
    else record s { modes = with_private_mode on p s.modes; screen = after_private_mode on p s.screen }

-- the effect of a setting on the live state; modes are set in the order of their numbers' places
abbrev pub set_by : Setting → List ℕ → Live → Live
set_by (Mode on) params s = fold (mode_set on) s params
set_by (PrivateMode on) params s = fold (private_mode_set on) s params
set_by Rendition params s = record s { pen = record s.pen { style = styled_by params s.pen.style } }
set_by (Margins top bottom) params s = record s { screen = margins_set top bottom s.modes.origin s.screen }
set_by (Guard on) params s = record s { pen = record s.pen { guarded = on } }
set_by (Keypad application) params s = record s { modes = record s.modes { application_keypad = application } }
set_by Save params s = saved_on s
set_by Restore params s = restored_to (kept_of s) s
set_by SoftReset params s = soft_reset s
set_by Reset params s = reset s
set_by SetStop params s = record s { screen = stop_set s.screen }
set_by ClearStop params s = record s { screen = stop_cleared s.screen }
set_by ClearStops params s = record s { screen = stops_cleared s.screen }

-- the effect of a command on the live state, without the character that REP remembers
abbrev pub performed_by : Command → List ℕ → Live → Live
performed_by Nothing params s = s
performed_by (Prints c) params s = printed_on c s
performed_by (Moves motion) params s = record s { screen = moved_by motion s.modes s.screen }
performed_by (Erases erasure) params s = record s { screen = erased_by erasure s.screen }
performed_by (Edits edit) params s = record s { screen = edited_by edit s.screen }
performed_by (Shifts shift) params s = record s { sets = shifted_by shift s.sets }
performed_by (Sets setting) params s = set_by setting params s
performed_by (Reports report) params s = s
performed_by (Repeats n) params s = repeated_on n s.printed s

-- any function but a printed character and REP makes REP forget (this project's profile)
abbrev pub remembering : Bool → Live → Live
remembering forgotten s = if forgotten then record s { printed = None } else s

-- the answer of a command
abbrev pub answered_by : Command → Live → List ℕ
answered_by (Reports report) s = answer_to report s.modes s.screen
answered_by Nothing s = []
answered_by (Prints c) s = []
answered_by (Moves motion) s = []
answered_by (Erases erasure) s = []
answered_by (Edits edit) s = []
answered_by (Shifts shift) s = []
answered_by (Sets setting) s = []
answered_by (Repeats n) s = []

-- ---- another size

-- another size of the screen that is shown, after rows have scrolled off at its top so that the cursor's row stays; the other screen is cut
-- or padded at the bottom and the right (this project's profile)
abbrev pub sized_to : ℕ → ℕ → Live → Live
sized_to rows cols s =
    record s {
      screen = after_resizing rows cols (leaving rows s.screen) s.screen;
      other = (sized_rows rows cols 0 (record { rows = s.screen.rows; cols = s.screen.cols; cells = s.other; first = 0 })).cells;
      printed = None;
    }

-- ---- the rows that leave for the history

-- those of the main screen alone
abbrev pub on_main : Bool → List (List Glyph) → List (List Glyph)
on_main alternate rows = if alternate then [] else rows

-- a character as its set has it
abbrev pub left_by_character : ℕ → Live → List (List Glyph)
left_by_character c s = if width_of c == 0 then [] else left_by_put (glyph_in c s.pen) (writing_under s.modes) s.screen

-- REP
abbrev pub left_by_repeat : ℕ → Option ℕ → Live → List (List Glyph)
left_by_repeat n None s = []
left_by_repeat n (Some c) s =
    if width_of c == 0 then []
    else left_by_puts (replicate n (glyph_in c s.pen)) (writing_under s.modes) s.screen

-- the rows that a command makes leave the screen that is shown
abbrev pub left_by : Command → Live → List (List Glyph)
left_by (Prints c) s = left_by_character (mapped_by (in_use s.sets) c) s
left_by (Moves motion) s = left_by_motion motion s.screen
left_by (Edits edit) s = left_by_edit edit s.screen
left_by (Repeats n) s = left_by_repeat n s.printed s
left_by Nothing s = []
left_by (Erases erasure) s = []
left_by (Shifts shift) s = []
left_by (Sets setting) s = []
left_by (Reports report) s = []

-- ---- one function, and all of them

-- the effect of a command on the live state
abbrev pub commanded_by : Command → List ℕ → Live → Live
commanded_by command params s = remembering (forgets command) (performed_by command params s)

-- the effect of a function on the live state
unfoldable pub changed_by : Function → Live → Live
changed_by (Size rows cols) s = sized_to rows cols s
changed_by (Print c) s = commanded_by (command_of (Print c)) (parameters_of (Print c)) s
changed_by (C0 b) s = commanded_by (command_of (C0 b)) (parameters_of (C0 b)) s
changed_by (C1 b) s = commanded_by (command_of (C1 b)) (parameters_of (C1 b)) s
changed_by (Esc inter b) s = commanded_by (command_of (Esc inter b)) (parameters_of (Esc inter b)) s
changed_by (Csi marker params inter b) s =
    commanded_by (command_of (Csi marker params inter b)) (parameters_of (Csi marker params inter b)) s

-- the answer of a function, on the state before it
unfoldable pub answer : Function → Live → List ℕ
answer f s = answered_by (command_of f) s

-- the rows that a function makes leave for the history, the oldest first, on the state before it
unfoldable pub rows_left : Function → Live → List (List Glyph)
rows_left (Size rows cols) s = on_main s.alternate (top_rows (leaving rows s.screen) s.screen)
rows_left (Print c) s = on_main s.alternate (left_by (command_of (Print c)) s)
rows_left (C0 b) s = on_main s.alternate (left_by (command_of (C0 b)) s)
rows_left (C1 b) s = on_main s.alternate (left_by (command_of (C1 b)) s)
rows_left (Esc inter b) s = on_main s.alternate (left_by (command_of (Esc inter b)) s)
rows_left (Csi marker params inter b) s = on_main s.alternate (left_by (command_of (Csi marker params inter b)) s)

-- rows come in as the newest, and the last are kept
abbrev pub with_rows : List (List Glyph) → Scrollback → Scrollback
with_rows rows h = keeping h.lines h.cols (h.rows ++ rows)

-- a size brings the kept rows to its columns
abbrev pub fitted_by : Function → Scrollback → Scrollback
fitted_by (Size rows cols) h = after_refit cols h
fitted_by (Print c) h = h
fitted_by (C0 b) h = h
fitted_by (C1 b) h = h
fitted_by (Esc inter b) h = h
fitted_by (Csi marker params inter b) h = h

-- the history after a function, of the state before it
unfoldable pub history_after : Function → Live → Scrollback → Scrollback
history_after f s h = fitted_by f (with_rows (rows_left f s) h)

abbrev pub after : Function → Terminal → Terminal
after f t = record { live = changed_by f t.live; history = history_after f t.live t.history; answers = t.answers ++ answer f t.live }

abbrev pub run : Terminal → List Function → Terminal
run t [] = t
run t (f ∷ fs) = run (after f t) fs

-- the effect of functions one after another on the live state and the history, and their answers
abbrev pub live_after : Live → List Function → Live
live_after l [] = l
live_after l (f ∷ fs) = live_after (changed_by f l) fs

abbrev pub kept_by : Live → List Function → Scrollback → Scrollback
kept_by l [] h = h
kept_by l (f ∷ fs) h = kept_by (changed_by f l) fs (history_after f l h)

abbrev pub answers_after : Live → List Function → List ℕ
answers_after l [] = []
answers_after l (f ∷ fs) = answer f l ++ answers_after (changed_by f l) fs

-- ---- the start

abbrev pub started_live : ℕ → ℕ → Live
started_live rows cols =
    record {
      screen = start rows cols;
      other = replicate (rows * cols) blank;
      alternate = false;
      pen = plain_pen;
      modes = started_modes;
      sets = started_sets;
      saved = None;
      saved_alternate = None;
      printed = None;
    }

abbrev pub started_terminal : ℕ → ℕ → ℕ → Terminal
started_terminal rows cols lines = record { live = started_live rows cols; history = empty lines cols; answers = [] }

-- the terminal that a log makes, of a size and with so many lines of history
unfoldable pub term : ℕ → ℕ → ℕ → List Item → Terminal
term rows cols lines log = run (started_terminal rows cols lines) (functions_of log)

-- all that was answered to a log
unfoldable pub reports : ℕ → ℕ → ℕ → List Item → List ℕ
reports rows cols lines log = (term rows cols lines log).answers
