-- Rows that are kept, of those that left.
use Rattle.std.proofs.Common.{◌≡◌, ◌≤◌, ◌<◌, ◌+◌, ◌-◌, ℕ, true, List, [], ◌∷◌, ◌++◌, inl, inr, length, length-append, length-drop, map, drop, replicate, sym, ap, ◌∙◌, arith, append_assoc}
use Rattle.std.proofs.lemmas.List.{append-nil, drop-append-le, drop-drop, map-append}
use Rattle.std.proofs.lemmas.Bool.{cases_lt}
use Rattle.roam_cells.specs.Glyph.{Glyph, blank}
use Rattle.roam_rewrap.specs.Lines.{TextRow}
use Rattle.roam_scrollback.specs.Lines.{Keeps, LeftRow, most_kept, newest, text_row}
use Rattle.roam_scrollback.specs.Wraps.{is_on}
use Rattle.roam_scrollback.specs.declared.wraps.Wrap.{Wrap}
use Rattle.roam_scrollback.proofs.RowTexts.{text-blanks}

-- if there are few, all are the newest
pub newest-few : (n : ℕ) (rows : List TextRow) → length rows ≤ n → newest n rows ≡ rows
newest-few n rows few = let none : length rows - n ≡ 0 = omega (arith, few) in ap (λ k. drop k rows) none

pub newest-length : (n : ℕ) (rows : List TextRow) → length (newest n rows) ≤ n
newest-length n rows = let left = length-drop (length rows - n) rows in omega (arith, left)

-- of rows and later ones, the newest are those of the newest and the later ones
pub newest-then : (n : ℕ) (xs ys : List TextRow) → newest n (newest n xs ++ ys) ≡ newest n (xs ++ ys)
newest-then n xs ys = elim (cases_lt n (length xs)) [
  | inl more ↦ far more
  | inr few ↦ ap (λ l. newest n (l ++ ys)) (newest-few n xs few)
]
  where
    far : n < length xs → newest n (newest n xs ++ ys) ≡ newest n (xs ++ ys)
    far more =
        let k = length xs - n in
        let left = length-drop k xs in
        let one = length-append (drop k xs) ys in
        let two = length-append xs ys in
        let first : length (drop k xs ++ ys) - n ≡ length ys = omega (arith, more, left, one) in
        let second : k + length ys ≡ length (xs ++ ys) - n = omega (arith, more, two) in
        ap (λ m. drop m (drop k xs ++ ys)) first
        ∙ ap (drop (length ys)) (sym (drop-append-le k xs ys (omega arith)))
        ∙ drop-drop (length ys) k (xs ++ ys)
        ∙ ap (λ m. drop m (xs ++ ys)) second

pub newest-twice : (n : ℕ) (rows : List TextRow) → newest n (newest n rows) ≡ newest n rows
newest-twice n rows = newest-few n (newest n rows) (newest-length n rows)

-- nothing came
pub keeps-all : (kept : List TextRow) → Keeps kept [] kept
keeps-all kept = ap (newest most_kept) (sym (append-nil kept))

-- rows came, and then more
pub keeps-then : (a b c : List TextRow) (xs ys : List LeftRow) → Keeps a xs b → Keeps b ys c → Keeps a (xs ++ ys) c
keeps-then a b c xs ys p q =
    q ∙ sym (newest-then most_kept b (map text_row ys)) ∙ ap (λ l. newest most_kept (l ++ map text_row ys)) p
    ∙ newest-then most_kept (a ++ map text_row xs) (map text_row ys)
    ∙ ap (newest most_kept) (append_assoc a (map text_row xs) (map text_row ys) ∙ ap (λ l. a ++ l) (sym (map-append text_row xs ys)))

-- the oldest row is gone if there are as many as may be
pub room-made : (old : List TextRow) (row : TextRow) → length old ≤ most_kept → newest 199 old ++ row ∷ [] ≡ newest most_kept (old ++ row ∷ [])
room-made old row few =
    let long = length-append old (row ∷ []) in
    let same : length old - 199 ≡ length (old ++ row ∷ []) - most_kept = omega (arith, long) in
    sym (drop-append-le (length old - 199) old (row ∷ []) (omega arith)) ∙ ap (λ k. drop k (old ++ row ∷ [])) same

-- a row that was lent without blanks at its end
pub lent-row : (wrap : Wrap) (xs : List Glyph) (n : ℕ) → (is_on wrap ≡ true → n ≡ 0)
    → text_row (record { wrap = wrap; cells = xs }) ≡ text_row (record { wrap = wrap; cells = xs ++ replicate n blank })
lent-row wrap xs n full = ap (λ cells. record { goes_on = is_on wrap; cells = cells }) (sym (text-blanks wrap xs n full))
