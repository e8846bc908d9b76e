-- Parts of the cells of a screen, one after the other, and one of its rows.
use Rattle.std.proofs.Common.{◌≡◌, ℕ, ◌+◌, ◌-◌, ◌*◌, ◌<◌, ◌≤◌, List, [], ◌++◌, length, take, drop, subst, sym, ap, ◌∙◌, arith}
use Rattle.std.specs.Prelude.{slice_range}
use Rattle.std.proofs.lemmas.List.{length-take, places, same_lists, take-take, drop-take, drop-drop}
use Rattle.roam_cells.specs.Glyph.{Glyph}
use Rattle.roam_cells.specs.Place.{glyph_at, cell_at, IsWholeLine, IsWholeRow, AreWhole, row_of}
use Rattle.roam_update.proofs.Sizing.{length-row_of, row_cell}
use Rattle.roam_update.proofs.Touching.{line_like}

-- a part, and the part behind it
pub range_more : (xs : List Glyph) (a b c : ℕ) → a ≤ b → b ≤ c → c ≤ length xs → slice_range xs a b ++ slice_range xs b c ≡ slice_range xs a c
range_more xs a b c p q r =
    same_lists (slice_range xs a b ++ slice_range xs b c) (slice_range xs a c) (Prim.search (arith, places)) (λ k d h. grind (arith, places))

pub range_none : (xs : List Glyph) (a : ℕ) → slice_range xs a a ≡ []
range_none xs a = let e : a - a ≡ 0 = omega arith in ap (λ n. take n (drop a xs)) e

pub range_count : (xs : List Glyph) (a b : ℕ) → length (slice_range xs a b) ≤ b - a
range_count xs a b = let n = length-take (b - a) (drop a xs) in omega (arith, n)

-- a part of a row is a part of the screen
pub row_range : (cols : ℕ) (cells : List Glyph) (row a b : ℕ) → a ≤ b → b ≤ cols
    → slice_range (row_of cols cells row) a b ≡ slice_range cells (row * cols + a) (row * cols + b)
row_range cols cells row a b p q =
    let rest = drop (row * cols) cells in
    let wide : (row + 1) * cols - row * cols ≡ a + (cols - a) = omega (arith, p, q) in
    let here : drop a (take (a + (cols - a)) rest) ≡ take (cols - a) (drop a rest) = drop-take a (cols - a) rest in
    let less : b - a ≤ cols - a = omega (arith, p, q) in
    let same : (row * cols + b) - (row * cols + a) ≡ b - a = omega arith in
    ap (λ n. take (b - a) (drop a (take n rest))) wide ∙ ap (take (b - a)) here ∙ take-take (b - a) (cols - a) (drop a rest) less
    ∙ ap (take (b - a)) (drop-drop a (row * cols) cells) ∙ ap (λ n. take n (drop (row * cols + a) cells)) (sym same)

pub row_whole : (rows cols : ℕ) (cells : List Glyph) (r : ℕ) → length cells ≡ rows * cols → AreWhole rows cols cells → r < rows → IsWholeRow (row_of cols cells r)
row_whole rows cols cells r count whole p =
    subst (λ (n : ℕ). IsWholeLine n (glyph_at (row_of cols cells r))) (sym (length-row_of rows cols r cells count p))
    (line_like cols (cell_at cols cells r) (glyph_at (row_of cols cells r)) (λ c q. sym (row_cell cols r c cells q)) (whole r p))
