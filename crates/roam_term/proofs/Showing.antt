-- The picture of a terminal.
use Rattle.std.proofs.Common.{◌≡◌, ◌<◌, ◌≤◌, ℕ, ◌+◌, ◌*◌, ◌-◌, Bool, true, false, if◌then◌else◌, min, List, [], ◌++◌, map, take, drop, length, get_or, length-drop, sym, ap, ◌∙◌, subst, arith}
use Rattle.std.specs.Prelude.{All}
use Rattle.std.proofs.lemmas.List.{get_or-map, get_or-drop, length-map, take-map, drop-map, take-take, drop-take}
use Rattle.std.proofs.lemmas.List.Elements.{All-drop}
use Rattle.std.proofs.Math.Nat.{mul-le-mul_right}
use Rattle.roam_text.specs.Log.{Item}
use Rattle.roam_cells.specs.Glyph.{Glyph, blank, is_wide, is_right_half, right_of}
use Rattle.roam_cells.specs.Place.{cell_at, row_of, AreWhole, AreUnguarded}
use Rattle.roam_cells.proofs.Places.{place_below}
use Rattle.roam_grid.specs.Screen.{Screen, IsFrame, IsScreen}
use Rattle.roam_history.specs.Histories.{Scrollback, IsScrollback, IsRow, last}
use Rattle.roam_term.specs.Terminal.{Live, term}
use Rattle.roam_term.specs.Picture.{shown_glyph, cells_in_view, picture_with, picture, picture_of}
use Rattle.roam_term.proofs.Views.{flat, row_among, row_below, view_size}

-- a log shows its live state and its history
pub picture_is : (rows cols lines : ℕ) (log : List Item) (view : ℕ) (l : Live) (h : Scrollback) → l ≡ (term rows cols lines log).live
    → h ≡ (term rows cols lines log).history → picture_of l h view ≡ picture rows cols lines log view
unfolding picture
picture_is rows cols lines log view l h live history =
    ap (λ x. picture_of x h view) live ∙ ap (λ x. picture_of (term rows cols lines log).live x view) history

-- a view shows no more rows than the history has
pub low_in_view : (alternate : Bool) (view n : ℕ) → (if alternate then 0 else min view n) ≤ n
low_in_view true view n = omega arith
low_in_view false view n = omega arith

pub last_each : (h : Scrollback) (cols v : ℕ) → h.cols ≡ cols → IsScrollback h → All (IsRow cols) (last v h.rows)
last_each h cols v e is = All-drop (IsRow cols) (length h.rows - v) h.rows (subst (λ n. All (IsRow n) h.rows) e is.each)

-- a view has as many cells as the screen
pub shown_size : (v : ℕ) (l : Live) (h : Scrollback) → IsScreen l.screen → IsScrollback h → h.cols ≡ l.screen.cols
    → length (picture_with v l h).cells ≡ l.screen.rows * l.screen.cols
shown_size v l h is rows e =
    length-map (cells_in_view v l h) (shown_glyph l.modes.reverse_screen)
    ∙ view_size l.screen.cols l.screen.rows (last v h.rows) l.screen.cells (last_each h l.screen.cols v e rows) is.size

pub framed : (s t : Screen) → s ≡ t → IsFrame t → IsFrame s
framed s t e is = rw e is

-- ---- a row as it is shown

-- a row of shown cells is the row as it is shown
row_shown : (reversed : Bool) (cols n r : ℕ) (cells : List Glyph) → r < n
    → row_of cols (map (shown_glyph reversed) (take (n * cols) cells)) r ≡ map (shown_glyph reversed) (row_of cols cells r)
row_shown reversed cols n r cells low =
    let show = map (shown_glyph reversed) in
    let size = (r + 1) * cols - r * cols in
    let from = r * cols in
    let next : (r + 1) * cols ≤ n * cols = let one : r + 1 ≤ n = omega (arith, low) in mul-le-mul_right cols one in
    let rest = n * cols - from in
    let all : n * cols ≡ from + rest = omega (arith, next) in
    let fits : size ≤ rest = omega (arith, next) in
    ap (take size) (drop-map (shown_glyph reversed) from (take (n * cols) cells))
    ∙ take-map (shown_glyph reversed) size (drop from (take (n * cols) cells))
    ∙ ap (λ m. show (take size (drop from (take m cells)))) all
    ∙ ap (λ l. show (take size l)) (drop-take from rest cells)
    ∙ ap show (take-take size rest (drop from cells) fits)

module _ (reversed : Bool) (cols n v r : ℕ) (rows : List (List Glyph)) (cells : List Glyph) (each : All (IsRow cols) rows) (fits : v ≤ length rows)
    (low : r < n) where
  abbrev above : List (List Glyph)
  above = drop (length rows - v) rows

  count : length above ≡ v
  count = length-drop (length rows - v) rows ∙ omega (arith, fits)

  each_above : All (IsRow cols) above
  each_above = All-drop (IsRow cols) (length rows - v) rows each

  -- the first rows of a view are the last of the history
  pub history_row : r < v → map (shown_glyph reversed) (get_or rows (length rows - v + r) [])
      ≡ row_of cols (map (shown_glyph reversed) (take (n * cols) (flat above ++ cells))) r
  history_row within =
      ap (map (shown_glyph reversed)) (sym (row_among cols above cells r each_above (omega (arith, count, within)) ∙ get_or-drop (length rows - v) rows r []))
      ∙ sym (row_shown reversed cols n r (flat above ++ cells) low)

  -- the rows below them are the first of the screen
  pub screen_row : v ≤ r → map (shown_glyph reversed) (row_of cols cells (r - v))
      ≡ row_of cols (map (shown_glyph reversed) (take (n * cols) (flat above ++ cells))) r
  screen_row below =
      let at : length above + (r - v) ≡ r = omega (arith, count, below) in
      ap (map (shown_glyph reversed)) (sym (row_below cols above cells (r - v) each_above) ∙ ap (row_of cols (flat above ++ cells)) at)
      ∙ sym (row_shown reversed cols n r (flat above ++ cells) low)

-- ---- cells as they are shown

module _ (reversed : Bool) (rows cols : ℕ) (cells : List Glyph) (size : length cells ≡ rows * cols) where
  shown_at : (r c : ℕ) → r < rows → c < cols → cell_at cols (map (shown_glyph reversed) cells) r c ≡ shown_glyph reversed (cell_at cols cells r c)
  shown_at r c p q = get_or-map (shown_glyph reversed) cells (r * cols + c) blank blank (omega (arith, size, place_below rows cols r c p q))

  -- halves stay beside each other
  pub shown_whole : AreWhole rows cols cells → AreWhole rows cols (map (shown_glyph reversed) cells)
  shown_whole whole = λ r p c q. record {
    wide = λ wide.
        let was : is_wide (cell_at cols cells r c) ≡ true = sym (ap is_wide (shown_at r c p q)) ∙ wide in
        let beside = (whole r p c q).wide was in (
          beside.0,
          shown_at r (c + 1) p beside.0 ∙ ap (shown_glyph reversed) beside.1 ∙ sym (ap right_of (shown_at r c p q)),
        );
    half = λ half.
        let was : is_right_half (cell_at cols cells r c) ≡ true = sym (ap is_right_half (shown_at r c p q)) ∙ half in
        let beside = (whole r p c q).half was in
        (beside.0, ap is_wide (shown_at r (c - 1) p (omega (arith, q))) ∙ beside.1);
  }

-- no shown cell is guarded
pub shown_unguarded : (reversed : Bool) (cells : List Glyph) → AreUnguarded (map (shown_glyph reversed) cells)
shown_unguarded reversed cells k h = ap (λ (g : Glyph). g.guarded) (get_or-map (shown_glyph reversed) cells k blank blank (omega (arith, h, length-map cells (shown_glyph reversed))))
