-- The records about rows: a line each, some with bytes behind it.
use Rattle.std.specs.Prelude.{◌≡◌, ℕ, ◌==◌, Bool, List, [], ◌++◌, length, codes, decimal, if◌then◌else◌}
use Rattle.std.specs.List.{flat_map}
use Rattle.roam_rewrap.specs.Lines.{TextRow}
use Rattle.roam_scrollback.specs.Lines.{LeftRow, LinesView, Writes, lines_behind}
use Rattle.roam_scrollback.specs.declared.rewraps.NotRewrapped.{NotRewrapped}
use Rattle.roam_scrollback.specs.declared.rewraps.NotRewrapped.TheVariants.{Later, NoMemory, OtherScreen, Refused}
use Rattle.roam_text.specs.Log.{Item}

-- the record of a terminal's lines: their number and bytes; empty for none
abbrev pub rows_text : ℕ → LinesView → List ℕ
rows_text n lines =
    if (lines.count == 0) then []
    else codes "rows " ++ decimal n ++ codes " " ++ decimal lines.count ++ codes " " ++ decimal (length lines.text) ++ codes "\n" ++ lines.text

-- so many rows behind them that there was no memory for
abbrev pub lost_text : ℕ → LinesView → List ℕ
lost_text n lines = if (lines.lost == 0) then [] else codes "lost " ++ decimal n ++ codes " " ++ decimal lines.lost ++ codes "\n"

-- the record that the earlier rows are erased
abbrev pub cleared_text : ℕ → Bool → List ℕ
cleared_text n cleared = if cleared then codes "cleared " ++ decimal n ++ codes "\n" else []

-- all rows of a screen
abbrev pub screen_text : ℕ → LinesView → List ℕ
screen_text n lines =
    codes "screen " ++ decimal n ++ codes " " ++ decimal lines.count ++ codes " " ++ decimal (length lines.text) ++ codes "\n" ++ lines.text

-- a word and a terminal
abbrev pub named_text : List ℕ → ℕ → List ℕ
named_text word n = word ++ decimal n ++ codes "\n"

-- why a terminal was not brought to another size
abbrev pub refusal_word : NotRewrapped → List ℕ
refusal_word Later = codes "later "
refusal_word OtherScreen = codes "other "
refusal_word Refused = codes "none "
refusal_word NoMemory = codes "none "

-- so many rows that were reported are back on the screen, or are reported anew behind this
abbrev pub back_text : ℕ → ℕ → List ℕ
back_text n back = if (back == 0) then [] else codes "back " ++ decimal n ++ codes " " ++ decimal back ++ codes "\n"

-- the text that brings another terminal to the new size
abbrev pub brought_text : ℕ → List ℕ → List ℕ
brought_text n text = codes "text " ++ decimal n ++ codes " " ++ decimal (length text) ++ codes "\n" ++ text

-- a terminal's items, the rows that left by them, the rows kept before them, the lines, and true if the earlier rows are erased
pub record Part : Type 0 where
  pub items : List Item
  pub rows : List LeftRow
  pub before : List TextRow
  pub lines : LinesView
  pub written : Writes (lines_behind before) lines rows
  pub is_cleared : Bool

abbrev pub part_text : ℕ → Part → List ℕ
part_text n part = rows_text n part.lines ++ (lost_text n part.lines ++ cleared_text n part.is_cleared)

abbrev pub rows_of : Part → List LeftRow
rows_of part = part.rows

-- the rows of a terminal were reported, in parts
pub record Tells (n : ℕ) (old new : List ℕ) (rows : List LeftRow) : Type 0 where
  pub parts : List Part
  pub text : new ≡ old ++ flat_map (part_text n) parts
  pub all_of : flat_map rows_of parts ≡ rows
