-- Laws of the text that `roam show` writes.
use Rattle.std.proofs.Common.{◌≡◌, ℕ, suc, ◌+◌, ◌<◌, List, [], ◌∷◌, ◌++◌, length, map, take, get_or, encode_utf8_all, encode_utf8, append-nil, refl, ◌∙◌, ap, add-one}
use Rattle.std.proofs.lemmas.List.{take_more}
use Rattle.std.proofs.lemmas.Str.{encodes-append}
use Rattle.roam_cells.specs.Glyph.{Glyph}
use Rattle.roam_screens.specs.Screenshot.{row_text}
use Rattle.roam_text.specs.Log.{Byte}
use Rattle.roam_show.specs.ShowText.{first_rows, row_line}

-- one more character
pub encoded_more : (xs : List ℕ) (i d : ℕ) → i < length xs → encode_utf8_all (take (i + 1) xs) ≡ encode_utf8_all (take i xs) ++ encode_utf8 (get_or xs i d)
encoded_more xs i d l =
    ap encode_utf8_all (take_more xs i d l) ∙ (encodes-append (take i xs) (get_or xs i d ∷ []) ∙ ap (λ t. encode_utf8_all (take i xs) ++ t) (append-nil (encode_utf8 (get_or xs i d))))

pub first_rows-none : (cols : ℕ) (cells : List Glyph) → first_rows 0 cols cells ≡ []
unfolding first_rows
first_rows-none cols cells = refl

-- one more row
rows_at_suc : (n cols : ℕ) (cells : List Glyph) → first_rows (suc n) cols cells ≡ first_rows n cols cells ++ row_line (row_text cols cells n)
unfolding first_rows
rows_at_suc n cols cells = refl

pub first_rows-more : (n cols : ℕ) (cells : List Glyph) → first_rows (n + 1) cols cells ≡ first_rows n cols cells ++ row_line (row_text cols cells n)
first_rows-more n cols cells = ap (λ k. first_rows k cols cells) (add-one n) ∙ rows_at_suc n cols cells

pub map-append : (xs ys : List ℕ) → map Byte (xs ++ ys) ≡ map Byte xs ++ map Byte ys
map-append [] ys = refl
map-append (x ∷ xs) ys = ap (λ l. Byte x ∷ l) (map-append xs ys)
