-- A terminal whose rows are reported, with the filter before it.
use Rattle.std.specs.Prelude.{◌≡◌, ℕ, ◌||◌, nat_lt, Bool, false, if◌then◌else◌, List, [], ◌∷◌, ◌++◌, length, map, Option, Some, None}
use Rattle.std.specs.List.{flat_map, fold}
use Rattle.roam_rewrap.specs.Lines.{TextRow}
use Rattle.roam_scrollback.specs.Lines.{LeftRow, LinesView, Writes, most_kept, newest, no_lines, text_row}
use Rattle.roam_scrollback.specs.Sources.{SourceView, IsCleared, IsSource, left_through, rows_shown, rows_through, wraps_through}
use Rattle.roam_scrollback.specs.declared.wraps.Wrap.{Wrap}
use Rattle.roam_normalize.specs.Normalized.{normalized_part, held_part}
use Rattle.roam_scrollback_stream.specs.Records.{Part, Tells, part_text, screen_text}
use Rattle.roam_term.specs.Terminal.{Live, live_after}
use Rattle.roam_text.specs.Functions.{functions_of}
use Rattle.roam_text.specs.Log.{Item}
use Rattle.roam_text.specs.Stands.{Stands as Reads}
use Rattle.roam_text.specs.declared.functions.Function.{Function}

-- the view of a terminal: its number, the terminal, the bytes that its filter keeps back, if it has one, and the last rows that left, as
-- text
pub record PaneView : Type 0 where
  pub number : ℕ
  pub source : SourceView
  pub held : Option (List ℕ)
  pub kept : List TextRow

-- the output, and the lines that are made for it
pub record TellingsView : Type 0 where
  pub out : List ℕ
  pub lines : LinesView

-- the bytes for the terminal of a piece, and the bytes kept back then
abbrev pub fed_for : Option (List ℕ) → List ℕ → List ℕ
fed_for None piece = piece
fed_for (Some held) piece = normalized_part (held ++ piece)

abbrev pub held_for : Option (List ℕ) → List ℕ → Option (List ℕ)
held_for None piece = None
held_for (Some held) piece = Some (held_part (held ++ piece))

-- the filter keeps bytes back
abbrev pub is_holding : Option (List ℕ) → Bool
is_holding None = false
is_holding (Some held) = nat_lt 0 (length held)

-- the rows that are kept behind lines: none once what left is erased, or a row was lost
abbrev pub kept_behind : Bool → LinesView → List TextRow
kept_behind cleared lines = if (cleared || nat_lt 0 lines.lost) then [] else lines.kept

-- A part of the items behind a log. Its rows are those that left by it. It reports that the earlier rows are erased exactly if the last of
-- its functions erases them.
pub record IsPart (rows cols : ℕ) (log : List Item) (part : Part) : Type 0 where
  pub came : List Function
  pub functions : functions_of (log ++ part.items) ≡ functions_of log ++ came
  pub left : left_through rows cols (log ++ part.items) ≡ left_through rows cols log ++ part.rows
  pub cleared : IsCleared part.is_cleared came

-- the parts of the items between one log and a later one, in order
abbrev pub ArePartsOf : ℕ → ℕ → List Item → List Item → List Part → Type 0
ArePartsOf rows cols log later [] = later ≡ log
ArePartsOf rows cols log later (part ∷ parts) = IsPart rows cols log part × ArePartsOf rows cols (log ++ part.items) later parts

-- a terminal of one log is one of the log with more items, and the rows that left by them were reported
pub record Told (new : SourceView) (n : ℕ) (out out' : List ℕ) (rows cols : ℕ) (log later : List Item) : Type 0 where
  pub source : IsSource new rows cols later
  pub more : List LeftRow
  pub left : left_through rows cols later ≡ left_through rows cols log ++ more
  pub tells : Tells n out out' more
  pub parts : ArePartsOf rows cols log later tells.parts

-- the same for every log that it models
abbrev pub TellsAll : SourceView → SourceView → ℕ → List ℕ → List ℕ → List Item → Type 0
TellsAll old new n out out' items =
    (rows cols : ℕ) (log : List Item) → IsSource old rows cols log → Told new n out out' rows cols log (log ++ items)

-- ---- from whatever a terminal is, as behind another size with its text whole

-- a part, and the functions that made its rows leave
pub record Piece : Type 0 where
  pub part : Part
  pub came : List Function

abbrev pub came_in : Piece → List Function
came_in piece = piece.came

-- the rows that are kept behind a piece: none once what left is erased, or a row was lost; else the newest
abbrev pub kept_after : List TextRow → Piece → List TextRow
kept_after kept piece =
    if (piece.part.is_cleared || nat_lt 0 piece.part.lines.lost) then [] else newest most_kept (kept ++ map text_row piece.part.rows)

-- A piece of the items behind a log, from a terminal in a state. Its rows are those that leave by it. It reports that the earlier rows are
-- erased exactly if the last of its functions erases them.
pub record IsPiece (l : Live) (wraps : List Wrap) (log : List Item) (piece : Piece) : Type 0 where
  pub functions : functions_of (log ++ piece.part.items) ≡ functions_of log ++ piece.came
  pub rows : piece.part.rows ≡ rows_through l piece.came wraps
  pub cleared : IsCleared piece.part.is_cleared piece.came

-- the pieces of the items between one log and a later one, in order
abbrev pub ArePieces : Live → List Wrap → List Item → List Item → List Piece → Type 0
ArePieces l wraps log later [] = later ≡ log
ArePieces l wraps log later (piece ∷ pieces) =
    IsPiece l wraps log piece
    × ArePieces (live_after l piece.came) (wraps_through l piece.came wraps) (log ++ piece.part.items) later pieces

-- the items behind a log were read, the rows that left by them were reported, and the newest rows are kept, piece by piece
pub record ToldFrom (old : SourceView) (before : List TextRow) (new : SourceView) (after : List TextRow) (n : ℕ) (out out' : List ℕ)
    (log later : List Item) : Type 0 where
  pub reads : Reads new.reader later
  pub pieces : List Piece
  pub are : ArePieces old.live old.wraps log later pieces
  pub live : new.live ≡ live_after old.live (flat_map came_in pieces)
  pub wraps : new.wraps ≡ wraps_through old.live (flat_map came_in pieces) old.wraps
  pub text : out' ≡ out ++ flat_map (λ (piece : Piece). part_text n piece.part) pieces
  pub kept : after ≡ fold kept_after before pieces

-- for every log that its reader has read
abbrev pub TellsFrom : SourceView → List TextRow → SourceView → List TextRow → ℕ → List ℕ → List ℕ → List Item → Type 0
TellsFrom old kept new kept' n out out' items =
    (log : List Item) → Reads old.reader log → ToldFrom old kept new kept' n out out' log (log ++ items)

-- all rows of the shown screen were reported
pub record ShowsAll (source : SourceView) (n : ℕ) (out out' : List ℕ) : Type 0 where
  pub lines : LinesView
  pub written : Writes no_lines lines (rows_shown source.live source.wraps)
  pub all_of : lines.lost ≡ 0
  pub text : out' ≡ out ++ screen_text n lines
