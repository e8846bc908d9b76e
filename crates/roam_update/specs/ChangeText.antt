-- A diff, and the one text that it has (this project's profile). Numbers are big-endian; a text is a list of bytes.
use Rattle.std.specs.Prelude.{All, ◌≡◌, ℕ, zero, suc, ◌+◌, ◌*◌, ◌^◌, ◌<◌, Bool, true, ◌&&◌, ◌==◌, nat_le, List, [], ◌∷◌, ◌++◌, length, drop, slice_index, Option, Some, None, option_and_then, if◌then◌else◌}
use Rattle.std.specs.List.{flat_map}
use Rattle.byteorder.specs.Endian.{big_bytes, big_number}
use Rattle.roam_cells.specs.Glyph.{Glyph}
use Rattle.roam_cells.specs.Limits.{IsSize}
use Rattle.roam_update.specs.Runs.{Run, AreApart}
use Rattle.roam_update.specs.CellText.{IsPlain, bit, cells_text, cells_read, is_short_style}
use Rattle.roam_update.specs.Styles.{Form, Whole, is_used_up}
use Rattle.roam_update.specs.Tested.{is_size}
use Rattle.roam_update.specs.declared.change_text.Head.{Head}

-- a size, a cursor, whether it is visible, and cells for some places in maximal runs
pub record Change : Type 0 where
  pub rows : ℕ
  pub cols : ℕ
  pub cursor_row : ℕ
  pub cursor_col : ℕ
  pub visible : Bool
  pub runs : List Run

-- A diff that has a text: its size is one of a screen, its cursor has two bytes for each number, its runs stay on the screen, rise and do
-- not touch, and a screen may show its cells.
pub record IsChange (x : Change) : Type 0 where
  pub size : IsSize x.rows x.cols
  pub row : x.cursor_row < 2 ^ 16
  pub col : x.cursor_col < 2 ^ 16
  pub apart : AreApart 0 (x.rows * x.cols) x.runs
  pub plain : All (λ (run : Run). All IsPlain run.cells) x.runs

-- the text of a run: its first place, its length, its cells
abbrev pub run_text : Form → Run → List ℕ
run_text f run = big_bytes 4 run.first ++ (big_bytes 4 (length run.cells) ++ cells_text f run.cells)

-- the texts of runs, one after the other
abbrev pub runs_text : Form → List Run → List ℕ
runs_text f runs = flat_map (run_text f) runs

-- the text before the runs: rows, columns, the cursor's row and column, its visibility, the number of runs
abbrev pub head_text : Head → List ℕ
head_text h =
    big_bytes 2 h.rows
    ++ (big_bytes 2 h.cols ++ (big_bytes 2 h.cursor_row ++ (big_bytes 2 h.cursor_col ++ (bit h.visible ∷ big_bytes 4 h.runs))))

-- the head of a diff, before its runs
abbrev pub head_of : Change → Head
head_of x =
    record { rows = x.rows; cols = x.cols; cursor_row = x.cursor_row; cursor_col = x.cursor_col; visible = x.visible; runs = length x.runs }

-- the text of a diff
abbrev pub change_text : Change → List ℕ
change_text x = head_text (head_of x) ++ runs_text Whole x.runs

-- each cell's colours have two bytes each
abbrev pub AreShort : List Run → Type 0
AreShort runs = All (λ (run : Run). All (λ (g : Glyph). is_short_style g.style ≡ true) run.cells) runs

-- the grammar: a diff and its text
pub record Spells (x : Change) (text : List ℕ) : Type 0 where
  pub change : IsChange x
  pub short : AreShort x.runs
  pub spelled : text ≡ change_text x

-- whether a run may begin a text: not before `least`, of one place or more, and not past the end
abbrev pub may_begin : ℕ → ℕ → List ℕ → Bool
may_begin least end text =
    nat_le 8 (length text)
    && (nat_le least (big_number 4 text)
    && (nat_le 1 (big_number 4 (drop 4 text)) && nat_le (big_number 4 text + big_number 4 (drop 4 text)) end))

-- the whole text of n runs that rise and do not touch, behind which all styles of a table have been used
unfoldable pub runs_read : Form → ℕ → ℕ → ℕ → List ℕ → Option (List Run)
runs_read f zero least end text = if (length text == 0) && is_used_up f then Some [] else None
runs_read f (suc n) least end text =
    if may_begin least end text then
    option_and_then
    (λ cs. option_and_then (λ rs. Some (record { first = big_number 4 text; cells = cs.value } ∷ rs))
    (runs_read cs.form n (big_number 4 text + big_number 4 (drop 4 text) + 1) end cs.rest))
    (cells_read f (big_number 4 (drop 4 text)) (drop 8 text))
    else None

-- the numbers in the first 13 bytes of a text
abbrev pub head_at : List ℕ → Head
head_at text =
    record {
      rows = big_number 2 text;
      cols = big_number 2 (drop 2 text);
      cursor_row = big_number 2 (drop 4 text);
      cursor_col = big_number 2 (drop 6 text);
      visible = slice_index text 8 == 1;
      runs = big_number 4 (drop 9 text);
    }

-- whether a diff may begin with these bytes: there are 13, the ninth is 0 or 1, and the size is one of a screen
abbrev pub has_head : List ℕ → Bool
has_head text = nat_le 13 (length text) && (nat_le (slice_index text 8) 1 && is_size (big_number 2 text) (big_number 2 (drop 2 text)))

-- the diff of a head and runs
abbrev pub change_of : Head → List Run → Change
change_of h runs =
    record { rows = h.rows; cols = h.cols; cursor_row = h.cursor_row; cursor_col = h.cursor_col; visible = h.visible; runs = runs }

-- the runs behind a head
abbrev pub body_read : Head → List ℕ → Option (List Run)
body_read h text = runs_read Whole h.runs 0 (h.rows * h.cols) (drop 13 text)

-- the diff that a text spells
abbrev pub change_read : List ℕ → Option Change
change_read text =
    if has_head text then option_and_then (λ runs. Some (change_of (head_at text) runs)) (body_read (head_at text) text) else None
