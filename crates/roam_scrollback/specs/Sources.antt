-- A terminal as the source of the rows that leave it: each row that leaves the top of the main screen, once and in order, with its flag of
-- autowrap. None leaves the other screen (this project's profile).
use Rattle.std.specs.Prelude.{◌≡◌, ℕ, ◌==◌, ◌&&◌, Bool, true, false, is_none, List, [], ◌∷◌, ◌++◌, length, replicate, Option, Some, None, if◌then◌else◌}
use Rattle.std.specs.List.{list_any}
use Rattle.roam_cells.specs.Glyph.{Glyph}
use Rattle.roam_cells.specs.Width.{width_of}
use Rattle.roam_controls.specs.Commands.{command_of}
use Rattle.roam_controls.specs.Parameters.{first}
use Rattle.roam_controls.specs.declared.commands.Command.{Command}
use Rattle.roam_controls.specs.declared.commands.Command.TheVariants.{Repeats}
use Rattle.roam_grid.specs.Frames.{leaving}
use Rattle.roam_grid.specs.Screen.{Screen}
use Rattle.roam_grid.specs.Writing.{put_on}
use Rattle.roam_grid.specs.declared.writing.Writing.{Writing}
use Rattle.roam_scrollback.specs.Lines.{LeftRow, rows_with, LinesView, Writes}
use Rattle.roam_scrollback.specs.Wraps.{no_wraps, wraps_put, wraps_by, wraps_on_main, wraps_sized}
use Rattle.roam_scrollback.specs.declared.wraps.Wrap.{Wrap}
use Rattle.roam_term.specs.Leaving.{top_rows, left_by_put}
use Rattle.roam_term.specs.Terminal.{Live, glyph_in, writing_under, on_main, left_by, changed_by, live_after, started_live}
use Rattle.roam_text.specs.Functions.{functions_of}
use Rattle.roam_text.specs.Log.{Item}
use Rattle.roam_text.specs.Stands.{Stands as Reads, View}
use Rattle.roam_text.specs.declared.functions.Function.{Function}
use Rattle.roam_text.specs.declared.functions.Function.TheVariants.{Csi, Size}

-- the live state of the terminal, and the flags of autowrap of the main screen's rows
pub record SurfaceView : Type 0 where
  pub live : Live
  pub wraps : List Wrap

-- the view of a source: the reader, the live state of the terminal, and the flags of autowrap of the main screen's rows
pub record SourceView : Type 0 where
  pub reader : View
  pub live : Live
  pub wraps : List Wrap

-- ---- cells that are written one after another

abbrev pub wraps_puts : List Glyph → Writing → Screen → List Wrap → List Wrap
wraps_puts [] w s wraps = wraps
wraps_puts (x ∷ xs) w s wraps = wraps_puts xs w (put_on x w s) (wraps_put x w s wraps)

abbrev pub rows_by_puts : List Glyph → Writing → Screen → List Wrap → List LeftRow
rows_by_puts [] w s wraps = []
rows_by_puts (x ∷ xs) w s wraps = rows_with (left_by_put x w s) wraps ++ rows_by_puts xs w (put_on x w s) (wraps_put x w s wraps)

-- REP (ECMA-48, section 8.3.103)
abbrev pub wraps_again : ℕ → Option ℕ → Live → List Wrap → List Wrap
wraps_again n None s wraps = wraps
wraps_again n (Some c) s wraps =
    if (width_of c == 0) then wraps else wraps_puts (replicate n (glyph_in c s.pen)) (writing_under s.modes) s.screen wraps

abbrev pub rows_again : ℕ → Option ℕ → Live → List Wrap → List LeftRow
rows_again n None s wraps = []
rows_again n (Some c) s wraps =
    if (width_of c == 0) then [] else rows_by_puts (replicate n (glyph_in c s.pen)) (writing_under s.modes) s.screen wraps

-- ---- one function after another

abbrev pub wraps_commanded : Command → Live → List Wrap → List Wrap
wraps_commanded (Repeats n) s wraps = wraps_on_main s.alternate (wraps_again n s.printed s wraps) wraps
wraps_commanded command s wraps = wraps_by command s wraps

abbrev pub rows_commanded : Command → Live → List Wrap → List LeftRow
rows_commanded (Repeats n) s wraps = if s.alternate then [] else rows_again n s.printed s wraps
rows_commanded command s wraps = rows_with (on_main s.alternate (left_by command s)) wraps

-- from which rows autowrap went on after a function
unfoldable pub wraps_after : Function → Live → List Wrap → List Wrap
wraps_after (Size rows cols) s wraps = wraps_sized rows cols s wraps
wraps_after f s wraps = wraps_commanded (command_of f) s wraps

-- the rows that leave by it, the topmost first, on the state before it
unfoldable pub rows_leaving : Function → Live → List Wrap → List LeftRow
rows_leaving (Size rows cols) s wraps = rows_with (on_main s.alternate (top_rows (leaving rows s.screen) s.screen)) wraps
rows_leaving f s wraps = rows_commanded (command_of f) s wraps

abbrev pub wraps_through : Live → List Function → List Wrap → List Wrap
wraps_through l [] wraps = wraps
wraps_through l (f ∷ fs) wraps = wraps_through (changed_by f l) fs (wraps_after f l wraps)

abbrev pub rows_through : Live → List Function → List Wrap → List LeftRow
rows_through l [] wraps = []
rows_through l (f ∷ fs) wraps = rows_leaving f l wraps ++ rows_through (changed_by f l) fs (wraps_after f l wraps)

-- all rows of the screen that is shown, from the top; from none of the other screen's autowrap is known to have gone on
abbrev pub rows_shown : Live → List Wrap → List LeftRow
rows_shown s wraps = rows_with (top_rows s.screen.rows s.screen) (if s.alternate then no_wraps else wraps)

-- whether a function erases what left: ED with 3 (xterm's control sequences), which leaves the screen as it is
abbrev pub clears : Function → Bool
clears (Csi marker params inter b) = is_none marker && (length inter.items == 0) && (b == 0x4A) && (first params.items == 3)
clears f = false

-- the last of some functions erases what left, and none before it
pub record ClearsLast (fs : List Function) : Type 0 where
  pub front : List Function
  pub last : Function
  pub is : fs ≡ front ++ last ∷ []
  pub before : list_any clears front ≡ false
  pub clears : clears last ≡ true

-- the last of some functions erases what left, or none does
abbrev pub IsCleared : Bool → List Function → Type 0
IsCleared true fs = ClearsLast fs
IsCleared false fs = list_any clears fs ≡ false

-- ---- whole logs

-- every row that left a terminal of a size by a log of its bytes and sizes, the first one first
unfoldable pub left_through : ℕ → ℕ → List Item → List LeftRow
left_through rows cols log = rows_through (started_live rows cols) (functions_of log) no_wraps

-- a source models a size and a log
pub record IsSource (t : SourceView) (rows cols : ℕ) (log : List Item) : Type 0 where
  pub reads : Reads t.reader log
  pub live : t.live ≡ live_after (started_live rows cols) (functions_of log)
  pub wraps : t.wraps ≡ wraps_through (started_live rows cols) (functions_of log) no_wraps

-- The items between one log and a later one: their functions, the effect on a source, and the rows that leave, which are written. The
-- result is true if the last function erases the rows that left.
pub record Gives (old new : SourceView) (lines lines' : LinesView) (is_cleared : Bool) (log later : List Item) : Type 0 where
  pub more : List Function
  pub functions : functions_of later ≡ functions_of log ++ more
  pub live : new.live ≡ live_after old.live more
  pub wraps : new.wraps ≡ wraps_through old.live more old.wraps
  pub written : Writes lines lines' (rows_through old.live more old.wraps)
  pub cleared : IsCleared is_cleared more

-- items make one source of another, and write the rows that leave
pub record Sheds (old new : SourceView) (lines lines' : LinesView) (is_cleared : Bool) (items : List Item) : Type 0 where
  pub reads : (log : List Item) → Reads old.reader log → Reads new.reader (log ++ items)
  pub gives : (log : List Item) → Reads old.reader log → Gives old new lines lines' is_cleared log (log ++ items)

-- A source of one log is a source of a later one. The rows that left by the later log are those of the first, and then the written ones.
pub record Continues (new : SourceView) (lines lines' : LinesView) (rows cols : ℕ) (log later : List Item) : Type 0 where
  pub source : IsSource new rows cols later
  pub more : List LeftRow
  pub left : left_through rows cols later ≡ left_through rows cols log ++ more
  pub written : Writes lines lines' more

-- each row that left is written once and in order, however the log is cut
abbrev pub RowsAreThoseThatLeft : Type 0
RowsAreThoseThatLeft =
    (old new : SourceView) (lines lines' : LinesView) (is_cleared : Bool) (items : List Item) (rows cols : ℕ) (log : List Item)
    → Sheds old new lines lines' is_cleared items → IsSource old rows cols log
    → Continues new lines lines' rows cols log (log ++ items)
