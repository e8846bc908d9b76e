-- A diff that says each style once, in a table, and the one text that it has (this project's profile). Numbers are big-endian; a text is
-- a list of bytes.
use Rattle.std.specs.Prelude.{◌≡◌, ℕ, zero, suc, ◌*◌, Bool, ◌&&◌, ◌==◌, nat_le, List, [], ◌∷◌, ◌++◌, length, drop, slice_index, Option, Some, None, option_and_then, if◌then◌else◌}
use Rattle.std.specs.List.{flat_map}
use Rattle.byteorder.specs.Endian.{big_bytes, big_number}
use Rattle.roam_cells.specs.declared.styles.Style.{Style}
use Rattle.roam_cells.specs.declared.styles.Colour.{Colour}
use Rattle.roam_cells.specs.declared.styles.Colour.TheVariants.{Default, Index, Rgb}
use Rattle.roam_update.specs.CellText.{bit, flags, style_of}
use Rattle.roam_update.specs.ChangeText.{Change, IsChange, runs_text, runs_read, head_of, change_of}
use Rattle.roam_update.specs.Runs.{Run}
use Rattle.roam_update.specs.Styles.{Numbered, has_style, styles_used}
use Rattle.roam_update.specs.Tested.{is_size}
use Rattle.roam_update.specs.declared.change_text.Head.{Head}

-- a colour in four bytes: its kind, and up to three numbers
abbrev pub colour_text : Colour → List ℕ
colour_text Default = 0 ∷ 0 ∷ 0 ∷ 0 ∷ []
colour_text (Index n) = 1 ∷ 0 ∷ 0 ∷ n ∷ []
colour_text (Rgb r g b) = 2 ∷ r ∷ g ∷ b ∷ []

-- a style in nine bytes: the flags and two colours
abbrev pub entry_text : Style → List ℕ
entry_text s = flags s ∷ (colour_text s.foreground ++ colour_text s.background)

-- the styles of a table, one after the other
abbrev pub table_text : List Style → List ℕ
table_text table = flat_map entry_text table

-- the text before the table: rows, columns, the cursor's row and column, its visibility
abbrev pub front_text : Head → List ℕ
front_text h =
    big_bytes 2 h.rows ++ (big_bytes 2 h.cols ++ (big_bytes 2 h.cursor_row ++ (big_bytes 2 h.cursor_col ++ (bit h.visible ∷ []))))

-- a head, a table, a number of runs and their text, one after the other
abbrev pub joined_text : Head → List Style → ℕ → List ℕ → List ℕ
joined_text h table n runs = front_text h ++ (big_bytes 3 (length table) ++ (table_text table ++ (big_bytes 4 n ++ runs)))

-- the text of a diff with a table
abbrev pub text_with : List Style → Change → List ℕ
text_with table x = joined_text (head_of x) table (length x.runs) (runs_text (Numbered table 0) x.runs)

-- the text of a diff: the table has exactly the styles of its cells, each once, in order of first use
abbrev pub tabled_text : Change → List ℕ
tabled_text x = text_with (styles_used [] x.runs) x

-- the grammar: a diff and its text
pub record SpellsTabled (x : Change) (text : List ℕ) : Type 0 where
  pub change : IsChange x
  pub spelled : text ≡ tabled_text x

-- ---- reading

-- the colour of four bytes
abbrev pub colour_at : ℕ → ℕ → ℕ → ℕ → Option Colour
colour_at kind a b c =
    if (kind == 0) && ((a == 0) && ((b == 0) && (c == 0))) then Some Default
    else if (kind == 1) && ((a == 0) && (b == 0)) then Some (Index c)
    else if kind == 2 then Some (Rgb a b c)
    else None

-- the style of nine bytes
abbrev pub entry_read : List ℕ → Option Style
entry_read text =
    option_and_then
    (λ fore.
    option_and_then (λ back. Some (style_of (slice_index text 0) fore back))
    (colour_at (slice_index text 5) (slice_index text 6) (slice_index text 7) (slice_index text 8)))
    (colour_at (slice_index text 1) (slice_index text 2) (slice_index text 3) (slice_index text 4))

-- a table at the front of a text, and the rest of it
pub record Table : Type 0 where
  pub styles : List Style
  pub rest : List ℕ

-- the style of the nine bytes at the front of a text, if it isn't one of these
abbrev pub entry_beside : List Style → List ℕ → Option Style
entry_beside before text =
    if nat_le 9 (length text) then option_and_then (λ s. if has_style before s then None else Some s) (entry_read text) else None

-- these styles and n more at the front of a text, none of which is among those before
unfoldable pub table_read : ℕ → List Style → List ℕ → Option Table
table_read zero before text = Some (record { styles = before; rest = text })
table_read (suc n) before text =
    option_and_then (λ s. table_read n (before ++ s ∷ []) (drop 9 text)) (entry_beside before text)

-- whether a diff may begin with these bytes: there are 12, the ninth is 0 or 1, and the size is one of a screen
abbrev pub has_front : List ℕ → Bool
has_front text = nat_le 12 (length text) && (nat_le (slice_index text 8) 1 && is_size (big_number 2 text) (big_number 2 (drop 2 text)))

-- the numbers in the first nine bytes of a text
abbrev pub front_at : List ℕ → Head
front_at text =
    record {
      rows = big_number 2 text;
      cols = big_number 2 (drop 2 text);
      cursor_row = big_number 2 (drop 4 text);
      cursor_col = big_number 2 (drop 6 text);
      visible = slice_index text 8 == 1;
      runs = 0;
    }

-- the runs behind a table
abbrev pub numbered_read : ℕ → Table → Option (List Run)
numbered_read end table =
    if nat_le 4 (length table.rest) then runs_read (Numbered table.styles 0) (big_number 4 table.rest) 0 end (drop 4 table.rest) else None

-- the table behind the front of a text
abbrev pub table_in : List ℕ → Option Table
table_in text = table_read (big_number 3 (drop 9 text)) [] (drop 12 text)

-- the diff that a text spells
abbrev pub tabled_read : List ℕ → Option Change
tabled_read text =
    if has_front text then
    option_and_then
    (λ table.
    option_and_then (λ runs. Some (change_of (front_at text) runs))
    (numbered_read (big_number 2 text * big_number 2 (drop 2 text)) table)) (table_in text)
    else None
