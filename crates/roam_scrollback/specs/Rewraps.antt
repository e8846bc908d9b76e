-- The main screen at another size, with its text whole. The kept rows that left and the screen's rows are text, which wraps at the new
-- width (this project's profile).
use Rattle.std.specs.Prelude.{◌≡◌, ◌⊎◌, ℕ, zero, suc, ◌+◌, ◌-◌, ◌/◌, ◌^◌, ◌==◌, ◌&&◌, ◌<◌, ◌≤◌, max, min, not, Bool, true, false, List, [], ◌∷◌, ◌++◌, codes, drop, length, map, take, None, if◌then◌else◌}
use Rattle.roam_cells.specs.Glyph.{Glyph, IsStyle}
use Rattle.roam_cells.specs.Limits.{IsSize}
use Rattle.roam_cells.specs.Place.{cell_at, row_of}
use Rattle.roam_charset.specs.Sets.{set_in}
use Rattle.roam_charset.specs.declared.charsets.Charset.TheVariants.{Ascii}
use Rattle.roam_charset.specs.declared.sets.Element.TheVariants.{G0}
use Rattle.roam_controls.specs.declared.modes.Modes.{Modes}
use Rattle.roam_grid.specs.Screen.{Screen}
use Rattle.roam_repaint.specs.Repainted.{MayPend, column_after}
use Rattle.roam_repaint.specs.Repainting.{Repaint, repaint_text}
use Rattle.roam_rewrap.specs.Lines.{TextRow, lines_of}
use Rattle.roam_rewrap.specs.Windows.{LeavesRangeAt, ReflowView, reflowed, shown_rows}
use Rattle.roam_rewrap.specs.declared.places.ScreenPosition.{ScreenPosition}
use Rattle.roam_screens.specs.Screenshot.{IsScreenshot}
use Rattle.roam_scrollback.specs.Lines.{LinesView, Writes, left_of}
use Rattle.roam_scrollback.specs.RowText.{text_cells, used}
use Rattle.roam_scrollback.specs.Sources.{SourceView}
use Rattle.roam_scrollback.specs.Wraps.{is_on, wrap_at, wraps_of}
use Rattle.roam_scrollback.specs.declared.wraps.Wrap.{Wrap}
use Rattle.roam_term.specs.Ground.{shown_at}
use Rattle.roam_term.specs.Terminal.{Live, live_after, sized_to}
use Rattle.roam_text.specs.Functions.{functions_of}
use Rattle.roam_text.specs.Log.{Item, Byte, Resized}
use Rattle.roam_text.specs.Resting.{AtRest}
use Rattle.roam_text.specs.Stands.{IsAtRest, Stands as Reads}
use Rattle.roam_text.specs.declared.functions.Function.{Function}

-- ---- the screen as text

-- how many columns come before the cursor: all of them if a wrap is pending
abbrev pub columns_before : Screen → ℕ
columns_before s = if s.pending then s.cols else s.col

-- whether the cursor is in a row, and a line ends there
abbrev pub ends_at_cursor : Screen → List Wrap → ℕ → Bool
ends_at_cursor s wraps r = (r == s.row) && not (is_on (wrap_at wraps r))

-- the cells of a row as far as they are text; those before the cursor are
unfoldable pub screen_cells : Screen → List Wrap → ℕ → List Glyph
screen_cells s wraps r =
    if ends_at_cursor s wraps r then take (max (used (row_of s.cols s.cells r)) (columns_before s)) (row_of s.cols s.cells r)
    else text_cells (wrap_at wraps r) (row_of s.cols s.cells r)

abbrev pub screen_row : Screen → List Wrap → ℕ → TextRow
screen_row s wraps r = record { goes_on = is_on (wrap_at wraps r); cells = screen_cells s wraps r }

-- the first rows
abbrev pub screen_text : ℕ → Screen → List Wrap → List TextRow
screen_text zero s wraps = []
screen_text (suc n) s wraps = screen_text n s wraps ++ screen_row s wraps n ∷ []

-- so many rows of a screen are text: the cursor's is, and those below them are blank
pub record IsHeight (s : Screen) (height : ℕ) : Type 0 where
  pub cursor : s.row < height
  pub within : height ≤ s.rows
  pub below : (r : ℕ) → height ≤ r → r < s.rows → used (row_of s.cols s.cells r) ≡ 0

-- ---- the text that brings a terminal there

-- IRM and DECSCNM are reset (ECMA-48 7.2.10; DECSCNM, VT220 Programmer Reference)
abbrev pub opening : List ℕ
opening = 0x1B ∷ codes "[4l" ++ 0x1B ∷ codes "[?5l"

-- and set again if they were
abbrev pub closing : Modes → List ℕ
closing modes = (if modes.insert then 0x1B ∷ codes "[4h" else []) ++ (if modes.reverse_screen then 0x1B ∷ codes "[?5h" else [])

-- The guard is off, and rows count from the first. The text paints a screen, and sets its cursor and style. A wrap is pending if one can
-- be.
pub record IsRewrapText (l : Live) (reflow : ReflowView) (text : List ℕ) : Type 0 where
  pub unguarded : l.pen.guarded ≡ false
  pub origin : l.modes.origin ≡ false
  pub repaint : Repaint
  pub painted : IsScreenshot repaint.shot
  pub styled : IsStyle repaint.style
  pub shot : repaint.shot ≡ reflow.shot
  pub style : repaint.style ≡ l.pen.style
  pub wraps : repaint.wraps ≡ l.modes.autowrap
  pub asked : repaint.pending ≡ true → reflow.pending ≡ true
  pub pends : repaint.pending ≡ true → MayPend repaint
  pub due : reflow.pending ≡ true → MayPend repaint → repaint.pending ≡ true
  pub is : text ≡ opening ++ (repaint_text repaint ++ closing l.modes)

-- ---- the whole

-- the effect of a size and then of a text on a source, except for the ends of its rows
pub record Follows (old new : SourceView) (items : List Item) (log : List Item) : Type 0 where
  pub reads : Reads new.reader (log ++ items)
  pub more : List Function
  pub functions : functions_of (log ++ items) ≡ functions_of log ++ more
  pub live : new.live ≡ live_after old.live more

-- the kept rows from one on and the screen are text
abbrev pub text_from : ℕ → ℕ → List TextRow → Live → List Wrap → List TextRow
text_from first height kept l wraps = drop first (kept ++ screen_text height l.screen wraps)

-- whether a line begins behind some rows: there are none, or the last of them ends its line
abbrev pub begins_line : List TextRow → Bool
begins_line [] = true
begins_line (row ∷ []) = not row.goes_on
begins_line (row ∷ next ∷ rows) = begins_line (next ∷ rows)

-- how many rows of a width so many cells take at least, as far as 64 bits hold them
abbrev pub rows_of : ℕ → ℕ → ℕ
rows_of cells cols = max 1 (min (cells + (cols - 1)) (2 ^ 64 - 1) / cols)

-- the cells of the line with which rows begin
abbrev pub head_cells : List TextRow → ℕ
head_cells [] = 0
head_cells (row ∷ rows) = length row.cells + (if row.goes_on then head_cells rows else 0)

-- how many rows of a width the lines behind it take at least
abbrev pub rows_behind : ℕ → List TextRow → ℕ
rows_behind cols [] = 0
rows_behind cols (row ∷ []) = 0
rows_behind cols (row ∷ next ∷ rows) =
    (if row.goes_on then 0 else rows_of (head_cells (next ∷ rows)) cols) + rows_behind cols (next ∷ rows)

-- how many rows of a width all lines take at least
abbrev pub rows_counted : ℕ → List TextRow → ℕ
rows_counted cols rows = rows_of (head_cells rows) cols + rows_behind cols rows

-- Rows come back from one on: a line begins there, its rows and those behind them fill a screen, and from no later line on they do. Or it
-- is the oldest row.
pub record FillsFrom (text : List TextRow) (kept rows cols first : ℕ) : Type 0 where
  pub line : begins_line (take first text) ≡ true
  pub fills : (first ≡ 0) ⊎ (rows ≤ rows_counted cols (drop first text))
  pub latest : (later : ℕ) → first < later → later ≤ kept → begins_line (take later text) ≡ true → rows_counted cols (drop later text) < rows

-- The screen of a terminal with its main screen at another size, the number of kept rows that stay away and that come back, and the text
-- that paints that screen.
pub record IsPrepared (l : Live) (wraps : List Wrap) (kept : List TextRow) (rows cols first back : ℕ) (reflow : ReflowView)
    (text : List ℕ) : Type 0 where
  pub height : ℕ
  pub is_height : IsHeight l.screen height
  pub counted : first + back ≡ length kept
  pub blank : height < l.screen.rows → back ≡ 0
  pub full : height ≡ l.screen.rows → FillsFrom (kept ++ screen_text height l.screen wraps) (length kept) rows cols first
  pub is : reflow ≡ reflowed (text_from first height kept l wraps)
      (record { row = back + l.screen.row; col = columns_before l.screen }) rows cols l.modes.cursor_visible
  pub brings : IsRewrapText l reflow text

-- ---- a terminal that keeps its size

-- no text leads to a terminal's screen: the guard is on (DECSCA), or rows count from a margin (DECOM; VT220 Programmer Reference)
abbrev pub HasNoText : Live → Type 0
HasNoText l = (l.pen.guarded ≡ true) ⊎ (l.modes.origin ≡ true)

-- text makes no screen at a size, or 64 bits do not hold the cursor's line or its cells (this project's profile)
abbrev pub HasNoReflow : List TextRow → ScreenPosition → ℕ → ℕ → Bool → Type 0
HasNoReflow text cursor rows cols visible =
    LeavesRangeAt text cursor ⊎ (¬ IsScreenshot (reflowed text cursor rows cols visible).shot)

-- the kept rows that come back and the screen's rows make no screen at a size
pub record HasNoScreen (l : Live) (wraps : List Wrap) (kept : List TextRow) (rows cols : ℕ) : Type 0 where
  pub height : ℕ
  pub is_height : IsHeight l.screen height
  pub first : ℕ
  pub back : ℕ
  pub counted : first + back ≡ length kept
  pub blank : height < l.screen.rows → back ≡ 0
  pub full : height ≡ l.screen.rows → FillsFrom (kept ++ screen_text height l.screen wraps) (length kept) rows cols first
  pub none : HasNoReflow (text_from first height kept l wraps)
      (record { row = back + l.screen.row; col = columns_before l.screen }) rows cols l.modes.cursor_visible

-- there is no text or no screen of a terminal for a size
abbrev pub IsUnprepared : Live → List Wrap → List TextRow → ℕ → ℕ → Type 0
IsUnprepared l wraps kept rows cols = HasNoText l ⊎ HasNoScreen l wraps kept rows cols

-- a source is refused a size: that is no size of a screen, or there is no text or no screen of the source for it
abbrev pub IsRefused : SourceView → List TextRow → ℕ → ℕ → Type 0
IsRefused s kept rows cols = (¬ IsSize rows cols) ⊎ IsUnprepared s.live s.wraps kept rows cols

-- ---- a terminal at another size

-- A source is brought to another size. The newest kept rows are taken back, and they and the screen's rows wrap at the new width. The rows
-- that leave then are written, and the text makes a terminal of that size what this one becomes.
pub record IsRewrapped (old new : SourceView) (lines lines' : LinesView) (rows cols back : ℕ) (text : List ℕ) : Type 0 where
  pub main : old.live.alternate ≡ false
  pub single : old.live.sets.single ≡ None
  pub rests : (log : List Item) → Reads old.reader log → AtRest log
  pub first : ℕ
  pub reflow : ReflowView
  pub prepared : IsPrepared old.live old.wraps lines.kept rows cols first back reflow text
  pub follows : (log : List Item) → Reads old.reader log → Follows old new (Resized rows cols ∷ map Byte text) log
  pub wraps : new.wraps ≡ wraps_of cols (shown_rows rows reflow.off reflow.rows)
  pub written : Writes (record lines { kept = take first lines.kept }) lines' (map left_of (take reflow.off reflow.rows))

-- A source can't take the text of a screen yet. It is within a sequence or a character; or its main screen is shown, and the next character
-- isn't ASCII.
abbrev pub IsLater : SourceView → Type 0
IsLater s =
    (¬ IsAtRest s.reader)
    ⊎ ((s.live.alternate ≡ false) × (¬ ((set_in s.live.sets.locked s.live.sets ≡ Ascii) × (s.live.sets.single ≡ None))))

-- ---- the law

-- a terminal at the new size, with a screen painted; all else is as it was
pub record IsBroughtTo (old : Live) (rows cols : ℕ) (r : Repaint) (new : Live) : Type 0 where
  pub cells : List Glyph
  pub is : new ≡ record {
    screen =
        record {
          rows = rows;
          cols = cols;
          cells = cells;
          row = r.shot.cursor_row - 1;
          col = column_after r;
          pending = r.pending;
          top = 0;
          bottom = rows - 1;
          stops = old.screen.stops;
        };
    other = (sized_to rows cols old).other;
    alternate = false;
    pen = old.pen;
    modes = old.modes;
    sets = record old.sets { g0 = Ascii; locked = G0 };
    saved = old.saved;
    saved_alternate = old.saved_alternate;
    printed = None;
  }
  pub places : (i j : ℕ) → i < rows → j < cols → cell_at cols cells i j ≡ shown_at r.shot i j

-- a source that was brought to another size shows its text there
abbrev pub RewrapShows : Type 0
RewrapShows =
    (old new : SourceView) (lines lines' : LinesView) (rows cols back : ℕ) (text : List ℕ) (log : List Item) → Reads old.reader log
    → (is : IsRewrapped old new lines lines' rows cols back text) → IsBroughtTo old.live rows cols is.prepared.brings.repaint new.live

-- No line is cut, and no cell is lost or doubled. The rows that leave, those on the screen and those below it that don't fit have the lines
-- of the kept rows that came back and of the old screen.
abbrev pub RewrapKeepsLines : Type 0
RewrapKeepsLines =
    (old new : SourceView) (lines lines' : LinesView) (rows cols back : ℕ) (text : List ℕ)
    → (is : IsRewrapped old new lines lines' rows cols back text)
    → lines_of (take is.reflow.off is.reflow.rows
    ++ (shown_rows rows is.reflow.off is.reflow.rows ++ drop rows (drop is.reflow.off is.reflow.rows)))
    ≡ lines_of (text_from is.first is.prepared.height lines.kept old.live old.wraps)

-- a wrap is pending behind the text of a rewrap exactly if the cursor is behind all columns of its row, and lines wrap
abbrev pub RewrapPends : Type 0
RewrapPends =
    (l : Live) (wraps : List Wrap) (kept : List TextRow) (rows cols first back : ℕ) (reflow : ReflowView) (text : List ℕ)
    → (prepared : IsPrepared l wraps kept rows cols first back reflow text)
    → prepared.brings.repaint.pending ≡ (reflow.pending && l.modes.autowrap)

-- whether there are rows, and the last of them ends its line or has cells
abbrev pub EndsInText : List TextRow → Type 0
EndsInText [] = ⊥
EndsInText (row ∷ []) = row.goes_on ≡ true → 0 < length row.cells
EndsInText (row ∷ next ∷ rows) = EndsInText (next ∷ rows)

-- rows that come back from a line on, and not from the oldest row, fill the new screen
abbrev pub RewrapFills : Type 0
RewrapFills =
    (l : Live) (wraps : List Wrap) (kept : List TextRow) (rows cols first back : ℕ) (reflow : ReflowView) (text : List ℕ)
    → (prepared : IsPrepared l wraps kept rows cols first back reflow text) → prepared.height ≡ l.screen.rows → 0 < first → 2 ≤ cols
    → EndsInText (text_from first prepared.height kept l wraps) → rows ≤ length reflow.rows

-- ---- the same text on another terminal

-- a terminal of the new size that shows its main screen, with the modes and the pen of another one, and no single shift waiting
pub record IsLike (l : Live) (rows cols : ℕ) (t : Live) : Type 0 where
  pub main : t.alternate ≡ false
  pub single : t.sets.single ≡ None
  pub modes : t.modes ≡ l.modes
  pub pen : t.pen ≡ l.pen
  pub height : t.screen.rows ≡ rows
  pub width : t.screen.cols ≡ cols

-- a text is read as functions, and these paint a screen on a terminal; all else is as it was
pub record Leads (t : Live) (r : Repaint) (text : List ℕ) (log : List Item) : Type 0 where
  pub functions : List Function
  pub read : functions_of (log ++ map Byte text) ≡ functions_of log ++ functions
  pub cells : List Glyph
  pub is : live_after t functions ≡ record t {
    screen =
        record t.screen {
          cells = cells;
          row = r.shot.cursor_row - 1;
          col = column_after r;
          pending = r.pending;
          top = 0;
          bottom = t.screen.rows - 1;
        };
    sets = record t.sets { g0 = Ascii; locked = G0 };
    printed = None;
  }
  pub places : (i j : ℕ) → i < t.screen.rows → j < t.screen.cols → cell_at t.screen.cols cells i j ≡ shown_at r.shot i j

-- the text of a rewrap leads any such terminal to the same screen, whatever it shows
abbrev pub TextLeads : Type 0
TextLeads =
    (l : Live) (wraps : List Wrap) (kept : List TextRow) (rows cols first back : ℕ) (reflow : ReflowView) (text : List ℕ)
    → (prepared : IsPrepared l wraps kept rows cols first back reflow text) → (t : Live) → IsLike l rows cols t → (log : List Item)
    → AtRest log → Leads t prepared.brings.repaint text log
