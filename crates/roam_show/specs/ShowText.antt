-- The output of `roam show`.
use Rattle.std.specs.Prelude.{ℕ, zero, suc, List, [], ◌∷◌, ◌++◌, map, codes, decimal, encode_utf8_all, if◌then◌else◌}
use Rattle.hex.specs.Hex.{encode_lower}
use Rattle.roam_term.specs.Limits.{pane_lines}
use Rattle.roam_cells.specs.Glyph.{Glyph}
use Rattle.roam_screens.specs.Screenshot.{Screenshot, row_text}
use Rattle.roam_text.specs.Log.{Byte}
use Rattle.roam_term.specs.Terminal.{reports}
use Rattle.roam_term.specs.Picture.{picture}

-- a row's characters in UTF-8 between bars
abbrev pub row_line : List ℕ → List ℕ
row_line text = 124 ∷ encode_utf8_all text ++ 124 ∷ 10 ∷ []

-- the first n rows of a screen
unfoldable pub first_rows : ℕ → ℕ → List Glyph → List ℕ
first_rows zero cols cells = []
first_rows (suc n) cols cells = first_rows n cols cells ++ row_line (row_text cols cells n)

-- the cursor's row and column from 1, and whether it is shown
abbrev pub cursor_line : Screenshot → List ℕ
cursor_line s = codes "cursor " ++ decimal s.cursor_row ++ codes " " ++ decimal s.cursor_col
    ++ (if s.visible then codes " shown\n" else codes " hidden\n")

abbrev pub screen_text : Screenshot → List ℕ
screen_text s = first_rows s.rows s.cols s.cells ++ cursor_line s

-- the answered bytes in lower-case hexadecimal, or a dash
abbrev pub output_line : List ℕ → List ℕ
output_line [] = codes "output -\n"
output_line (b ∷ bs) = codes "output " ++ encode_lower (b ∷ bs) ++ 10 ∷ []

-- the text for the bytes of a pane, on a terminal of this size with all lines of history, not scrolled back
unfoldable pub show_text : ℕ → ℕ → List ℕ → List ℕ
show_text rows cols log =
    screen_text (picture rows cols pane_lines (map Byte log) 0) ++ output_line (reports rows cols pane_lines (map Byte log))
