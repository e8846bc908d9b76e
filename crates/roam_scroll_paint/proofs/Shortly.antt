-- The text of the places that differ is as short as that of a painter which writes nothing else, but for CUP behind doubtful cells.
use Rattle.std.proofs.Common.{◌≡◌, ◌≤◌, ◌<◌, ℕ, zero, suc, ◌+◌, ◌*◌, ◌-◌, Bool, true, false, not, ◌&&◌, ◌||◌, inl, inr, List, [], ◌∷◌, ◌++◌, map, length, None, refl, sym, ap, ◌∙◌, arith}
use Rattle.std.specs.Prelude.{if◌then◌else◌, nat_lt, slice_index_or}
use Rattle.std.specs.Char.{encode_utf8}
use Rattle.std.specs.List.{flat_map}
use Rattle.std.proofs.lemmas.Bool.{cases_lt, le-ltb}
use Rattle.std.proofs.lemmas.List.{length-append, get_or_past}
use Rattle.roam_cells.specs.Glyph.{Glyph, is_wide, is_right_half, blank, default_style}
use Rattle.roam_cells.specs.Place.{glyph_at}
use Rattle.roam_cells.specs.Same.{same, same_style}
use Rattle.roam_cells.specs.declared.styles.Style.{Style}
use Rattle.roam_cells.proofs.SameCells.{glyph_again}
use Rattle.roam_screens.specs.Screenshot.{Screenshot}
use Rattle.roam_text.specs.declared.functions.Function.{Function}
use Rattle.roam_text.specs.declared.functions.Function.TheVariants.{Print}
use Rattle.roam_term.specs.ControlFunctions.{place_cursor, set_style, restyle}
use Rattle.roam_term.specs.Ground.{shown_at}
use Rattle.roam_paint.specs.Painting.{Places, same_size, painted_over, differs, is_drawn, goes_on, style_after, style_in}
use Rattle.roam_paint.specs.Sequences.{spelling_of}
use Rattle.roam_paint.specs.Texts.{cell_text, place_text, row_text, row_style, rows_text, rows_style, opening_text, closing_text}
use Rattle.roam_paint.proofs.Loops.{rows_more, rows_style_start, rows_style_more, opening_is, closing_is, painted_text, quiet_style}
use Rattle.roam_scroll_paint.specs.Bands.{taken, source_of, preparing}
use Rattle.roam_scroll_paint.specs.Doubts.{is_doubtful, doubts_in, doubts_to, doubts_between, longest_placing}
use Rattle.roam_scroll_paint.specs.Painting.{settling, hiding, revealing}
use Rattle.roam_scroll_paint.specs.Rows.{Marks, is_marked, placing_at, written_cell, written_row, doubt_after, doubt_in, erase_line, ends_at, erasing_from, style_left, row_functions, row_style_left}
use Rattle.roam_scroll_paint.specs.Sequences.{text_of}
use Rattle.roam_scroll_paint.specs.Short.{AddsShortRow, AddsShortRows, AddsShortBody, IsShort}
use Rattle.roam_scroll_paint.specs.Styles.{styled_from}
use Rattle.roam_scroll_paint.proofs.Briefer.{bytes, bytes-append, placing_fewer, placing_most, styled_fewer, default_fewer}
use Rattle.roam_scroll_paint.proofs.Spelled.{hide-bytes, show-bytes, erase_all_text}
use Rattle.roam_scroll_paint.proofs.Turns.{points_text}

-- the bytes that CUP behind a doubtful cell may have
abbrev spare : Bool → ℕ
spare b = if b then longest_placing else 0

spare_one : (b : Bool) → spare b ≤ longest_placing * (if b then 1 else 0)
spare_one true = omega arith
spare_one false = omega arith

-- ---- a cell

module _ (old new : Screenshot) (r k : ℕ) (g : Style) (low : r < 999) (near : k < 999) where
  abbrev x : Glyph
  x = shown_at new r k

  abbrev text : Bool → Bool → Bool → List Function
  text drawn goes b = if drawn then (if (goes && not b) then [] else placing_at r k ∷ []) ++ (styled_from g x.style ++ map Print x.points) else []

  abbrev plain : Bool → Bool → List ℕ
  plain drawn goes = if drawn then cell_text goes (same_style x.style g) r k x else []

  placing_by : (goes b : Bool) → bytes (if (goes && not b) then [] else placing_at r k ∷ []) ≤ length (if goes then [] else spelling_of (place_cursor (r + 1) (k + 1))) + spare b
  placing_by true true = let a = placing_most r k low near in omega (arith, a)
  placing_by true false = omega arith
  placing_by false b = let a = placing_fewer r k in omega (arith, a)

  cell_by : (drawn goes b : Bool)
      → bytes (text drawn goes b) + spare (if drawn then is_doubtful x else b)
      ≤ length (plain drawn goes) + spare b + longest_placing * (if (drawn && is_doubtful x) then 1 else 0)
  cell_by false goes b = omega arith
  cell_by true goes b =
      let at = if (goes && not b) then [] else placing_at r k ∷ [] in
      let sty = styled_from g x.style in
      let chars = map Print x.points in
      let cup = if goes then [] else spelling_of (place_cursor (r + 1) (k + 1)) in
      let whole = if same_style x.style g then [] else flat_map spelling_of (restyle x.style) in
      let points = flat_map encode_utf8 x.points in
      omega (
        arith,
        bytes-append at (sty ++ chars),
        bytes-append sty chars,
        length-append cup (whole ++ points),
        length-append whole points,
        ap length (points_text x.points),
        placing_by goes b,
        styled_fewer g x.style,
        spare_one (is_doubtful x),
      )

-- ---- a row

module _ (old new : Screenshot) (r : ℕ) (low : r < 999) (m : ℕ → ℕ → Bool) (alike : (c : ℕ) → m r c ≡ differs old new r c) where
  abbrev d : ℕ → ℕ → Bool
  d = differs old new

  abbrev sh : Places
  sh = shown_at new

  drawn_same : (c : ℕ) → is_drawn m sh r c ≡ is_drawn d sh r c
  drawn_same c =
      ap (λ y. not (is_right_half (sh r c)) && (y || (is_wide (sh r c) && m r (c + 1)))) (alike c)
      ∙ ap (λ y. not (is_right_half (sh r c)) && (d r c || (is_wide (sh r c) && y))) (alike (c + 1))

  goes_same : (c : ℕ) → goes_on m r c ≡ goes_on d r c
  goes_same c = ap (λ y. nat_lt 0 c && (y && m r c)) (alike (c - 1)) ∙ ap (λ y. nat_lt 0 c && (d r (c - 1) && y)) (alike c)

  styles_same : (g : Style) (k : ℕ) → style_in m sh r g k ≡ style_in d sh r g k
  unfolding style_after
  styles_same g zero = refl
  styles_same g (suc k) =
      ap (λ b. if b then (sh r k).style else style_in m sh r g k) (drawn_same k)
      ∙ ap (λ s. if is_drawn d sh r k then (sh r k).style else s) (styles_same g k)

  cell_short : (k : ℕ) (g : Style) (b : Bool) → k < 999
      → bytes (written_cell m sh r k g b) + spare (doubt_after m sh r k b)
      ≤ length (place_text old new r k g) + spare b + longest_placing * (if (is_drawn d sh r k && is_doubtful (sh r k)) then 1 else 0)
  unfolding written_cell doubt_after place_text
  cell_short k g b near =
      let all = cell_by old new r k g low near (is_drawn d sh r k) (goes_on d r k) b in
      let e = ap (λ y. bytes (text old new r k g low near y (goes_on m r k) b)) (drawn_same k) in
      let f = ap (λ y. bytes (text old new r k g low near (is_drawn d sh r k) y b)) (goes_same k) in
      let h = ap (λ y. spare (if y then is_doubtful (sh r k) else b)) (drawn_same k) in
      omega (arith, all, e, f, h)

  row_short : (k : ℕ) (g : Style) → k < 1000
      → bytes (written_row m sh r g k) + spare (doubt_in m sh r k) ≤ length (row_text old new r g k) + longest_placing * doubts_in d sh r k
  unfolding written_row doubt_in row_text doubts_in
  row_short zero g near = omega arith
  row_short (suc k) g near =
      let s = style_in m sh r g k in
      let b = doubt_in m sh r k in
      let before = row_short k g (omega (arith, near)) in
      let one = cell_short k s b (omega (arith, near)) in
      let a = bytes-append (written_row m sh r g k) (written_cell m sh r k s b) in
      let c = length-append (row_text old new r g k) (place_text old new r k (style_in d sh r g k)) in
      let e = ap (λ y. length (place_text old new r k y)) (styles_same g k) in
      omega (arith, before, one, a, c, e)

  abbrev cols : ℕ
  cols = new.cols

  no_end : nat_lt cols cols ≡ false
  no_end = le-ltb cols cols (omega arith)

  whole_short : (marks : Marks) → m ≡ is_marked marks → (g : Style) → cols < 1000
      → bytes (written_row m sh r g cols ++ erasing_from m r cols cols (style_in m sh r g cols) (doubt_in m sh r cols))
      ≤ length (row_text old new r g cols) + longest_placing * doubts_in d sh r cols
  unfolding erasing_from
  whole_short marks is g few =
      let end = erasing_from m r cols cols (style_in m sh r g cols) (doubt_in m sh r cols) in
      let a = bytes-append (written_row m sh r g cols) end in
      let some = (if (ends_at m r cols && not (doubt_in m sh r cols)) then [] else placing_at r cols ∷ []) ++ (styled_from (style_in m sh r g cols) default_style ++ erase_line ∷ []) in
      let none : bytes end ≡ 0 = ap (λ b. bytes (if b then some else [])) no_end in
      let e = row_short cols g few in
      omega (arith, a, none, e)

  style_same : (g : Style) → style_left cols cols (style_in m sh r g cols) ≡ row_style old new r g cols
  unfolding style_left row_style
  style_same g = ap (λ b. if b then default_style else style_in m sh r g cols) no_end ∙ styles_same g cols

-- marks of the cells that differ, of the places that differ
pub marks_alike : (old new : Screenshot) (r : ℕ) (marks : Marks) (over cells : List Glyph) → length marks ≡ length cells → length over ≡ length cells
    → ((c : ℕ) → c < length cells → slice_index_or marks c false ≡ not (same (glyph_at over c) (glyph_at cells c)))
    → ((c : ℕ) → painted_over old new r c ≡ glyph_at over c) → ((c : ℕ) → shown_at new r c ≡ glyph_at cells c)
    → (c : ℕ) → is_marked marks r c ≡ differs old new r c
marks_alike old new r marks over cells n k marked was is c =
    elim (cases_lt c (length cells)) [
      | inl p ↦ marked c p ∙ ap (λ y. not (same y (glyph_at cells c))) (sym (was c)) ∙ ap (λ y. not (same (painted_over old new r c) y)) (sym (is c))
      | inr p ↦
          get_or_past marks c false (omega (arith, n, p))
          ∙ sym (ap (λ y. not (same y (shown_at new r c))) (was c ∙ get_or_past over c blank (omega (arith, k, p)))
          ∙ ap (λ y. not (same blank y)) (is c ∙ get_or_past cells c blank p))
    ]

pub adds_short : (old new : Screenshot) (r : ℕ) (g h : Style) (marks : Marks) (before after : List ℕ) → r < 999 → new.cols < 1000
    → ((c : ℕ) → is_marked marks r c ≡ differs old new r c)
    → after ≡ before ++ flat_map text_of (row_functions marks (shown_at new) new.cols r new.cols g)
    → h ≡ row_style_left marks (shown_at new) new.cols r new.cols g → AddsShortRow old new r g h before after
unfolding row_functions row_style_left
adds_short old new r g h marks before after low near alike is left =
    let m = is_marked marks in
    let row = written_row m (shown_at new) r g new.cols ++ erasing_from m r new.cols new.cols (style_in m (shown_at new) r g new.cols) (doubt_in m (shown_at new) r new.cols) in
    let few = whole_short old new r low m alike marks refl g near in
    let n = ap length is in
    let l = length-append before (flat_map text_of row) in
    record { style = left ∙ style_same old new r low m alike g; few = omega (arith, few, n, l) }

-- a row that shows the same
pub adds_none : (old new : Screenshot) (r : ℕ) (g : Style) (before : List ℕ) → ((c : ℕ) → painted_over old new r c ≡ shown_at new r c) → AddsShortRow old new r g g before before
adds_none old new r g before quiet = record {
  style = sym (quiet_style old new r g (λ c. ap (λ y. not (same y (shown_at new r c))) (quiet c) ∙ ap not (glyph_again (shown_at new r c))) new.cols);
  few = omega arith;
}

-- ---- one row after another

pub over_is : (old new : Screenshot) (s : Bool) (r c : ℕ) → same_size old new ≡ s → painted_over old new r c ≡ taken (shown_at old) (source_of s None r) c
over_is old new true r c e = ap (λ b. if b then shown_at old r c else blank) e
over_is old new false r c e = ap (λ b. if b then shown_at old r c else blank) e

pub short_first : (old new : Screenshot) (before : List ℕ) → AddsShortRows old new 0 default_style before before
short_first old new before = record { style = sym (rows_style_start old new); few = omega arith }

doubts_more : (old new : Screenshot) (r : ℕ)
    → doubts_to (differs old new) (shown_at new) new.cols (r + 1)
    ≡ doubts_to (differs old new) (shown_at new) new.cols r + doubts_in (differs old new) (shown_at new) r new.cols
unfolding doubts_to
doubts_more old new r = let e : r + 1 ≡ suc r = omega arith in ap (doubts_to (differs old new) (shown_at new) new.cols) e

pub short_more : (old new : Screenshot) (r : ℕ) (g h : Style) (start before after : List ℕ) → AddsShortRows old new r g start before
    → AddsShortRow old new r g h before after → AddsShortRows old new (r + 1) h start after
short_more old new r g h start before after rows row =
    let p = rows.few in
    let q = row.few in
    let a = ap length (rows_more old new r) in
    let b = length-append (rows_text old new r) (row_text old new r (rows_style old new r) new.cols) in
    let e = ap (λ y. length (row_text old new r y new.cols)) rows.style in
    let d = doubts_more old new r in
    record {
      style = row.style ∙ ap (λ s. row_style old new r s new.cols) rows.style ∙ sym (rows_style_more old new r);
      few = omega (arith, p, q, a, b, e, d);
    }

-- ---- the whole

-- the bytes that erase all, if sizes differ
abbrev erasing : Bool → List ℕ
erasing s = if s then [] else 0x1B ∷ 0x5B ∷ 0x32 ∷ 0x4A ∷ []

prepared_bytes : (s : Bool) → bytes (preparing s None) ≡ length (erasing s)
prepared_bytes true = refl
prepared_bytes false = sym (ap length (erase_all_text []))

settled_bytes : (new : Screenshot) (g : Style) → 1 ≤ new.cursor_row → 1 ≤ new.cursor_col
    → bytes (settling new g) ≤ length (spelling_of (set_style default_style)) + length (spelling_of (place_cursor new.cursor_row new.cursor_col))
settled_bytes new g p q =
    let row = new.cursor_row - 1 in
    let col = new.cursor_col - 1 in
    let r : row + 1 ≡ new.cursor_row = omega (arith, p) in
    let c : col + 1 ≡ new.cursor_col = omega (arith, q) in
    let same_place : length (spelling_of (place_cursor (row + 1) (col + 1))) ≡ length (spelling_of (place_cursor new.cursor_row new.cursor_col)) =
    ap (λ n. length (spelling_of (place_cursor n (col + 1)))) r ∙ ap (λ n. length (spelling_of (place_cursor new.cursor_row n))) c in
    let a = bytes-append (styled_from g default_style) (placing_at row col ∷ []) in
    let b = length-append (spelling_of (set_style default_style)) [] in
    omega (arith, a, b, same_place, placing_fewer row col, default_fewer g default_style)

abbrev shown_bytes : Bool → List ℕ
shown_bytes visible = if visible then 0x1B ∷ 0x5B ∷ 0x3F ∷ 0x32 ∷ 0x35 ∷ 0x68 ∷ [] else []

shown_six : (visible : Bool) → length (shown_bytes visible) ≡ (if visible then 6 else 0)
shown_six true = refl
shown_six false = refl

pub short_body : (old new : Screenshot) (g : Style) (before one two after : List ℕ) → 1 ≤ new.cursor_row → 1 ≤ new.cursor_col
    → one ≡ before ++ flat_map text_of (preparing (same_size old new) None)
    → AddsShortRows old new new.rows g one two
    → after ≡ two ++ flat_map text_of (settling new g) → AddsShortBody old new before after
unfolding doubts_between
short_body old new g before one two after row col p rows q =
    let few = rows.few in
    let s = same_size old new in
    let o = opening_text s in
    let t = rows_text old new new.rows in
    let c = closing_text new.cursor_row new.cursor_col new.visible in
    let whole = spelling_of (set_style default_style) in
    let cup = spelling_of (place_cursor new.cursor_row new.cursor_col) in
    omega (
      arith,
      few,
      ap length p,
      length-append before (flat_map text_of (preparing s None)),
      prepared_bytes s,
      ap length q,
      length-append two (flat_map text_of (settling new g)),
      settled_bytes new g row col,
      ap length (painted_text [] old new),
      length-append (o ++ t) c,
      length-append o t,
      ap length (opening_is s),
      ap length (closing_is new.cursor_row new.cursor_col new.visible),
      length-append whole (cup ++ shown_bytes new.visible),
      length-append cup (shown_bytes new.visible),
      shown_six new.visible,
    )

-- with what hides the cursor before, and shows it behind
pub short_whole : (old new : Screenshot) (body text : List ℕ) → AddsShortBody old new [] body
    → text ≡ flat_map text_of (hiding true) ++ (body ++ flat_map text_of (revealing true new.visible)) → IsShort old new text
short_whole old new body text few is =
    let hide = flat_map text_of (hiding true) in
    let show = flat_map text_of (revealing true new.visible) in
    omega (
      arith,
      few,
      ap length is,
      length-append hide (body ++ show),
      length-append body show,
      ap length hide-bytes,
      ap length (show-bytes new.visible),
      shown_six new.visible,
    )
