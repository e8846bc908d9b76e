-- How long the text is at least that leaves nothing out.
use Rattle.std.proofs.Common.{◌≡◌, ◌≤◌, ◌<◌, ℕ, zero, suc, ◌+◌, ◌-◌, Bool, true, false, List, [], ◌∷◌, ◌++◌, length, ap, ◌∙◌, arith}
use Rattle.std.specs.Prelude.{if◌then◌else◌}
use Rattle.std.proofs.lemmas.List.{length-append}
use Rattle.roam_cells.specs.Glyph.{default_style}
use Rattle.roam_cells.specs.declared.styles.Style.{Style}
use Rattle.roam_screens.specs.Screenshot.{Screenshot}
use Rattle.roam_term.specs.ControlFunctions.{place_cursor, set_style}
use Rattle.roam_paint.specs.Painting.{same_size, text_between}
use Rattle.roam_paint.specs.Sequences.{spelling_of}
use Rattle.roam_paint.specs.Texts.{place_text, row_text, row_style, rows_text, rows_style, opening_text, closing_text}
use Rattle.roam_paint.proofs.Loops.{row_more, rows_more, opening_is, closing_is, painted_text}
use Rattle.roam_scroll_paint.specs.Counting.{move_size}
use Rattle.roam_scroll_paint.proofs.Counts.{move_least, set_least}

-- one place more
pub row_longer : (old new : Screenshot) (r : ℕ) (g : Style) (c bytes more : ℕ) (s : Style) → bytes ≤ length (row_text old new r g c)
    → s ≡ row_style old new r g c → more ≤ length (place_text old new r c s) → bytes + more ≤ length (row_text old new r g (c + 1))
row_longer old new r g c bytes more s p q m =
    let a = ap length (row_more old new r g c) in
    let b = length-append (row_text old new r g c) (place_text old new r c (row_style old new r g c)) in
    let d = ap (λ x. length (place_text old new r c x)) q in
    omega (arith, a, b, d, p, m)

-- one row more
pub rows_longer : (old new : Screenshot) (r bytes more : ℕ) (s : Style) → bytes ≤ length (rows_text old new r)
    → s ≡ rows_style old new r → more ≤ length (row_text old new r s new.cols) → bytes + more ≤ length (rows_text old new (r + 1))
rows_longer old new r bytes more s p q m =
    let a = ap length (rows_more old new r) in
    let b = length-append (rows_text old new r) (row_text old new r (rows_style old new r) new.cols) in
    let d = ap (λ x. length (row_text old new r x new.cols)) q in
    omega (arith, a, b, d, p, m)

-- the first rows are no longer than all of them
grows : (old new : Screenshot) (r m : ℕ) → length (rows_text old new r) ≤ length (rows_text old new (r + m))
grows old new r zero = let e : r + 0 ≡ r = omega arith in omega (arith, ap (λ n. length (rows_text old new n)) e)
grows old new r (suc m) =
    let e : r + suc m ≡ (r + m) + 1 = omega arith in
    let a = ap length (rows_more old new (r + m)) in
    let b = length-append (rows_text old new (r + m)) (row_text old new (r + m) (rows_style old new (r + m)) new.cols) in
    omega (arith, ap (λ n. length (rows_text old new n)) e, a, b, grows old new r m)

pub first_rows : (old new : Screenshot) (r n bytes : ℕ) → r ≤ n → bytes ≤ length (rows_text old new r) → bytes ≤ length (rows_text old new n)
first_rows old new r n bytes p q =
    let e : r + (n - r) ≡ n = omega (arith, p) in
    omega (arith, ap (λ k. length (rows_text old new k)) e, grows old new r (n - r), q)

-- ---- the text behind and before

abbrev shown_text : Bool → List ℕ
shown_text visible = if visible then 0x1B ∷ 0x5B ∷ 0x3F ∷ 0x32 ∷ 0x35 ∷ 0x68 ∷ [] else []

shown_least : (visible : Bool) → (if visible then 6 else 0) ≤ length (shown_text visible)
shown_least true = omega arith
shown_least false = omega arith

pub closing_least : (row col : ℕ) (visible : Bool) → 1 ≤ row → row < 1000 → 1 ≤ col → col < 1000
    → move_size (row - 1) (col - 1) + 4 + (if visible then 6 else 0) ≤ length (closing_text row col visible)
closing_least row col visible a b d e =
    let x = spelling_of (set_style default_style) in
    let y = spelling_of (place_cursor row col) in
    let z = shown_text visible in
    let r : row - 1 + 1 ≡ row = omega (arith, a) in
    let c : col - 1 + 1 ≡ col = omega (arith, d) in
    let place = move_least (row - 1) (col - 1) (omega (arith, b)) (omega (arith, e)) in
    let same : length (spelling_of (place_cursor (row - 1 + 1) (col - 1 + 1))) ≡ length y =
    ap (λ n. length (spelling_of (place_cursor n (col - 1 + 1)))) r ∙ ap (λ n. length (spelling_of (place_cursor row n))) c in
    omega (arith, ap length (closing_is row col visible), length-append x (y ++ z), length-append y z, place, same, set_least default_style tt tt, shown_least visible)

pub all_least : (old new : Screenshot) (rows closing : ℕ) → same_size old new ≡ true → rows ≤ length (rows_text old new new.rows)
    → closing ≤ length (closing_text new.cursor_row new.cursor_col new.visible) → rows + closing + 6 ≤ length (text_between old new)
all_least old new rows closing same p q =
    let o = opening_text (same_size old new) in
    let c = closing_text new.cursor_row new.cursor_col new.visible in
    let r = rows_text old new new.rows in
    let all = ap length (painted_text [] old new) in
    let six : length o ≡ 6 = ap (λ b. length (opening_text b)) same ∙ ap length (opening_is true) in
    omega (arith, all, length-append (o ++ r) c, length-append o r, six, p, q)
