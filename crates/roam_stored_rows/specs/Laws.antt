-- What a row's text is in its logical line.
use Rattle.std.specs.Prelude.{◌≡◌, Bool, true, List, ◌++◌}
use Rattle.std.specs.List.{All, flat_map}
use Rattle.roam_stored_rows.specs.Finding.{line_from, text_of}
use Rattle.roam_stored_rows.specs.Rows.{StoredRow, is_on}

-- In a logical line, the text from a row on stands behind the texts of the rows before it: a match that begins in a row is a match of the
-- whole line, at that place.
abbrev pub RowsAreInLines : Type 0
RowsAreInLines = (folded : Bool) (before after : List StoredRow) → All (λ row. is_on row.wrap ≡ true) before
    → line_from folded (before ++ after) ≡ flat_map (text_of folded) before ++ line_from folded after
