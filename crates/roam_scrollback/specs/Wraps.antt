-- How each of the main screen's 200 rows ends, from 0. This moves with the row. A row goes on from the moment at which a character goes to
-- the next row. It ends once a line ends in it, its end or the whole next row is erased, or a new row comes in (this project's profile).
use Rattle.std.specs.Prelude.{ℕ, ◌+◌, ◌-◌, ◌==◌, ◌&&◌, Bool, true, false, List, ◌++◌, map, take, drop, set, min, length, nat_lt, replicate, slice_index_or, if◌then◌else◌}
use Rattle.roam_cells.specs.Glyph.{Glyph}
use Rattle.roam_cells.specs.Limits.{most_rows}
use Rattle.roam_cells.specs.Width.{width_of}
use Rattle.roam_cells.specs.declared.extents.Extent.{Extent}
use Rattle.roam_cells.specs.declared.extents.Extent.TheVariants.{ToEnd, ToStart, All}
use Rattle.roam_charset.specs.Charsets.{mapped_by}
use Rattle.roam_charset.specs.Sets.{in_use}
use Rattle.roam_controls.specs.declared.commands.Command.{Command}
use Rattle.roam_controls.specs.declared.commands.Command.TheVariants.{Prints, Moves, Erases, Edits, Sets}
use Rattle.roam_controls.specs.declared.edits.Edit.{Edit}
use Rattle.roam_controls.specs.declared.edits.Edit.TheVariants.{InsertLines, DeleteLines, ScrollUp, ScrollDown, Align}
use Rattle.roam_controls.specs.declared.erasures.Erasure.{Erasure}
use Rattle.roam_controls.specs.declared.erasures.Erasure.TheVariants.{InPage, InLine}
use Rattle.roam_controls.specs.declared.motions.Motion.{Motion}
use Rattle.roam_controls.specs.declared.motions.Motion.TheVariants.{LineFeed, Index, NextLine, ReverseIndex}
use Rattle.roam_controls.specs.declared.settings.Setting.TheVariants.{Reset}
use Rattle.roam_grid.specs.Editing.{is_between_margins}
use Rattle.roam_grid.specs.Frames.{leaving}
use Rattle.roam_grid.specs.Screen.{Screen}
use Rattle.roam_grid.specs.Writing.{columns}
use Rattle.roam_grid.specs.declared.writing.Writing.{Writing}
use Rattle.roam_rewrap.specs.Lines.{TextRow}
use Rattle.roam_scrollback.specs.declared.wraps.Wrap.{Wrap}
use Rattle.roam_scrollback.specs.declared.wraps.Wrap.TheVariants.{Ends, Full, Early}
use Rattle.roam_term.specs.Terminal.{Live, glyph_in, writing_under}

-- whether autowrap went on from a row that ends so
abbrev pub is_on : Wrap → Bool
is_on Ends = false
is_on Full = true
is_on Early = true

-- how a row ends
abbrev pub wrap_at : List Wrap → ℕ → Wrap
wrap_at wraps r = slice_index_or wraps r Ends

-- from no row
unfoldable pub no_wraps : List Wrap
no_wraps = replicate most_rows Ends

-- ---- rows that move

-- n rows go out at the front, and as many come in at the end
abbrev pub part_up : ℕ → List Wrap → List Wrap
part_up n part = drop n part ++ replicate (min n (length part)) Ends

-- n rows come in at the front, and as many go out at the end
abbrev pub part_down : ℕ → List Wrap → List Wrap
part_down n part = replicate (min n (length part)) Ends ++ take (length part - n) part

-- the rows from one up to another, and of them alone
abbrev pub between : ℕ → ℕ → List Wrap → List Wrap
between from to wraps = take (to + 1 - from) (drop from wraps)

abbrev pub in_between : ℕ → ℕ → List Wrap → List Wrap → List Wrap
in_between from to part wraps = take from wraps ++ (part ++ drop (to + 1) wraps)

unfoldable pub moved_up : ℕ → ℕ → ℕ → List Wrap → List Wrap
moved_up from to n wraps = in_between from to (part_up n (between from to wraps)) wraps

unfoldable pub moved_down : ℕ → ℕ → ℕ → List Wrap → List Wrap
moved_down from to n wraps = in_between from to (part_down n (between from to wraps)) wraps

-- ---- rows that end

-- the first n rows stay as they are, and all others end
unfoldable pub first_kept : ℕ → List Wrap → List Wrap
first_kept n wraps = take n wraps ++ replicate (length wraps - n) Ends

-- the first n rows end, and all others stay as they are
unfoldable pub first_ended : ℕ → List Wrap → List Wrap
first_ended n wraps = replicate (min n (length wraps)) Ends ++ drop n wraps

-- ---- motions of the cursor

-- down: on the bottom margin the rows between the margins go up (IND, ECMA-48)
abbrev pub wraps_indexed : Screen → List Wrap → List Wrap
wraps_indexed s wraps = if (s.row == s.bottom) then moved_up s.top s.bottom 1 wraps else wraps

-- up: on the top margin they go down (RI, ECMA-48 8.3.104)
abbrev pub wraps_reverse_indexed : Screen → List Wrap → List Wrap
wraps_reverse_indexed s wraps = if (s.row == s.top) then moved_down s.top s.bottom 1 wraps else wraps

-- to the next row, and the cursor's ends so
unfoldable pub wraps_next : Wrap → Screen → List Wrap → List Wrap
wraps_next wrap s wraps = wraps_indexed s (set wraps s.row wrap)

-- ---- characters

-- whether a cell of so many columns goes to the next row before it is written (DECAWM, VT220 Programmer Reference)
abbrev pub is_wrapped : ℕ → Writing → Screen → Bool
is_wrapped width w s = if s.pending then true else (width == 2) && (s.col + 1 == s.cols) && w.wraps

-- a row from which it goes is full if a wrap is pending; else a cell of two columns leaves the last column
unfoldable pub wraps_put : Glyph → Writing → Screen → List Wrap → List Wrap
wraps_put x w s wraps = if is_wrapped (columns x) w s then wraps_next (if s.pending then Full else Early) s wraps else wraps

-- a character as its set has it: one of width 0 is written nowhere
abbrev pub wraps_by_character : ℕ → Live → List Wrap → List Wrap
wraps_by_character c s wraps =
    if (width_of c == 0) then wraps else wraps_put (glyph_in c s.pen) (writing_under s.modes) s.screen wraps

-- ---- the table

abbrev pub wraps_by_motion : Motion → Screen → List Wrap → List Wrap
wraps_by_motion LineFeed s wraps = wraps_next Ends s wraps
wraps_by_motion Index s wraps = wraps_next Ends s wraps
wraps_by_motion NextLine s wraps = wraps_next Ends s wraps
wraps_by_motion ReverseIndex s wraps = wraps_reverse_indexed s wraps
wraps_by_motion motion s wraps = wraps

abbrev pub wraps_by_edit : Edit → Screen → List Wrap → List Wrap
wraps_by_edit (InsertLines n) s wraps = if is_between_margins s then moved_down s.row s.bottom n wraps else wraps
wraps_by_edit (DeleteLines n) s wraps = if is_between_margins s then moved_up s.row s.bottom n wraps else wraps
wraps_by_edit (ScrollUp n) s wraps = moved_up s.top s.bottom n wraps
wraps_by_edit (ScrollDown n) s wraps = moved_down s.top s.bottom n wraps
wraps_by_edit Align s wraps = no_wraps
wraps_by_edit edit s wraps = wraps

-- a row ends, and the one above no longer goes on in it
abbrev pub row_cleared : ℕ → List Wrap → List Wrap
row_cleared r wraps = set (set wraps r Ends) (r - 1) Ends

-- rows that are erased whole with the one above them, and the cursor's row if its end is
abbrev pub wraps_by_page : Extent → Screen → List Wrap → List Wrap
wraps_by_page ToEnd s wraps = first_kept (if s.col == 0 then s.row - 1 else s.row) wraps
wraps_by_page ToStart s wraps = first_ended s.row wraps
wraps_by_page All s wraps = no_wraps

abbrev pub wraps_by_line : Extent → Screen → List Wrap → List Wrap
wraps_by_line ToStart s wraps = wraps
wraps_by_line ToEnd s wraps = if s.col == 0 then row_cleared s.row wraps else set wraps s.row Ends
wraps_by_line All s wraps = row_cleared s.row wraps

abbrev pub wraps_by_erasure : Erasure → Screen → List Wrap → List Wrap
wraps_by_erasure (InPage extent) s wraps = wraps_by_page extent s wraps
wraps_by_erasure (InLine extent) s wraps = wraps_by_line extent s wraps
wraps_by_erasure erasure s wraps = wraps

-- the functions of the other screen leave the main screen's rows alone
abbrev pub wraps_on_main : Bool → List Wrap → List Wrap → List Wrap
wraps_on_main alternate later wraps = if alternate then wraps else later

-- the effect of one command on the flags, except for REP
abbrev pub wraps_by : Command → Live → List Wrap → List Wrap
wraps_by (Prints c) s wraps = wraps_on_main s.alternate (wraps_by_character (mapped_by (in_use s.sets) c) s wraps) wraps
wraps_by (Moves motion) s wraps = wraps_on_main s.alternate (wraps_by_motion motion s.screen wraps) wraps
wraps_by (Erases erasure) s wraps = wraps_on_main s.alternate (wraps_by_erasure erasure s.screen wraps) wraps
wraps_by (Edits edit) s wraps = wraps_on_main s.alternate (wraps_by_edit edit s.screen wraps) wraps
wraps_by (Sets Reset) s wraps = no_wraps
wraps_by command s wraps = wraps

-- another size: rows leave the main screen if it is shown, those below the last are cut, and in other columns none goes on
abbrev pub wraps_sized : ℕ → ℕ → Live → List Wrap → List Wrap
wraps_sized rows cols s wraps =
    if (cols == s.screen.cols) then first_kept rows (wraps_on_main s.alternate (part_up (leaving rows s.screen) wraps) wraps) else no_wraps

-- ---- rows of text

-- how a row of text ends at a width: one that goes on and is shorter left its last column to a wide character
abbrev pub wrap_of : ℕ → TextRow → Wrap
wrap_of cols row = if row.goes_on then (if nat_lt (length row.cells) cols then Early else Full) else Ends

-- rows of text from the top
unfoldable pub wraps_of : ℕ → List TextRow → List Wrap
wraps_of cols rows = map (wrap_of cols) rows ++ replicate (most_rows - length rows) Ends
