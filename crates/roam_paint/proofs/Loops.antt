-- The text of a painting, step by step.
use Rattle.std.proofs.Common.{◌≡◌, ℕ, zero, suc, ◌+◌, Bool, true, false, List, [], ◌∷◌, ◌++◌, map, not, ◌||◌, refl, sym, ap, ◌∙◌, append_assoc, arith}
use Rattle.std.proofs.Common.{◌-◌, ◌&&◌}
use Rattle.std.specs.Prelude.{if◌then◌else◌}
use Rattle.std.proofs.lemmas.Bool.{lt-ltb}
use Rattle.std.specs.Fmt.{digits}
use Rattle.std.specs.List.{flat_map}
use Rattle.std.specs.Char.{encode_utf8}
use Rattle.std.proofs.lemmas.List.{append-nil}
use Rattle.std.proofs.lemmas.Grind.{flat_map-append}
use Rattle.roam_cells.specs.Glyph.{default_style, is_wide, is_right_half}
use Rattle.roam_cells.specs.declared.styles.Style.{Style}
use Rattle.roam_text.specs.declared.functions.Function.{Function}
use Rattle.roam_text.specs.declared.functions.Function.TheVariants.{Print}
use Rattle.roam_screens.specs.Screenshot.{Screenshot}
use Rattle.roam_cells.specs.Same.{same_style}
use Rattle.roam_term.specs.ControlFunctions.{place_cursor, set_style, restyle}
use Rattle.roam_paint.specs.Sequences.{spelling_of}
use Rattle.roam_term.specs.Ground.{shown_at}
use Rattle.roam_paint.specs.Painting.{same_size, differs, is_drawn, goes_on, placing, styling, drawn_cell, style_after, style_in, style_at, drawn_row, drawn_rows, opening, closing, functions_between, text_between}
use Rattle.roam_paint.specs.Texts.{cell_text, place_text, row_text, row_style, rows_text, rows_style, opening_text, closing_text}

pub row_start : (old new : Screenshot) (r : ℕ) (g : Style) → row_text old new r g 0 ≡ []
unfolding row_text
row_start old new r g = refl

pub row_more : (old new : Screenshot) (r : ℕ) (g : Style) (c : ℕ) → row_text old new r g (c + 1) ≡ row_text old new r g c ++ place_text old new r c (row_style old new r g c)
unfolding row_text row_style
row_more old new r g c = let e : c + 1 ≡ suc c = omega arith in ap (row_text old new r g) e

pub style_start : (old new : Screenshot) (r : ℕ) (g : Style) → row_style old new r g 0 ≡ g
unfolding row_style
style_start old new r g = refl

pub style_more : (old new : Screenshot) (r : ℕ) (g : Style) (c : ℕ) → row_style old new r g (c + 1) ≡ style_after (differs old new) (shown_at new) r c (row_style old new r g c)
unfolding row_style
style_more old new r g c = let e : c + 1 ≡ suc c = omega arith in ap (row_style old new r g) e

pub rows_start : (old new : Screenshot) → rows_text old new 0 ≡ []
unfolding rows_text
rows_start old new = refl

pub rows_more : (old new : Screenshot) (r : ℕ) → rows_text old new (r + 1) ≡ rows_text old new r ++ row_text old new r (rows_style old new r) new.cols
unfolding rows_text rows_style
rows_more old new r = let e : r + 1 ≡ suc r = omega arith in ap (rows_text old new) e

pub rows_style_start : (old new : Screenshot) → rows_style old new 0 ≡ default_style
unfolding rows_style
rows_style_start old new = refl

pub rows_style_more : (old new : Screenshot) (r : ℕ) → rows_style old new (r + 1) ≡ row_style old new r (rows_style old new r) new.cols
unfolding rows_style row_style
rows_style_more old new r = let e : r + 1 ≡ suc r = omega arith in ap (rows_style old new) e

-- ---- opening and closing

pub opening_is : (same : Bool) → opening_text same ≡ (0x1B ∷ 0x5B ∷ 0x3F ∷ 0x32 ∷ 0x35 ∷ 0x6C ∷ []) ++ (if same then [] else 0x1B ∷ 0x5B ∷ 0x32 ∷ 0x4A ∷ [])
unfolding opening_text digits
opening_is true = refl
opening_is false = refl

pub closing_is : (row col : ℕ) (visible : Bool) → closing_text row col visible ≡ spelling_of (set_style default_style) ++ (spelling_of (place_cursor row col) ++ (if visible then 0x1B ∷ 0x5B ∷ 0x3F ∷ 0x32 ∷ 0x35 ∷ 0x68 ∷ [] else []))
unfolding closing_text digits
closing_is row col true = refl
closing_is row col false = refl

-- ---- it is the text of the functions

points_text : (ps : List ℕ) → flat_map spelling_of (map Print ps) ≡ flat_map encode_utf8 ps
points_text [] = refl
points_text (p ∷ ps) = ap (λ l. encode_utf8 p ++ l) (points_text ps)

one_text : (f : Function) (b : Bool) → flat_map spelling_of (if b then [] else f ∷ []) ≡ (if b then [] else spelling_of f)
one_text f true = refl
one_text f false = append-nil (spelling_of f)

text_unless : (fs : List Function) (b : Bool) → flat_map spelling_of (if b then [] else fs) ≡ (if b then [] else flat_map spelling_of fs)
text_unless fs true = refl
text_unless fs false = refl

text_if : (fs : List Function) (b : Bool) → flat_map spelling_of (if b then fs else []) ≡ (if b then flat_map spelling_of fs else [])
text_if fs true = refl
text_if fs false = refl

place_is : (old new : Screenshot) (r c : ℕ) (g : Style) → flat_map spelling_of (drawn_cell (differs old new) (shown_at new) r c g) ≡ place_text old new r c g
unfolding drawn_cell place_text
place_is old new r c g =
    let d = differs old new in
    let x = shown_at new r c in
    let a = placing d r c in
    let b = styling x.style g in
    let p = map Print x.points in
    text_if (a ++ (b ++ p)) (is_drawn d (shown_at new) r c)
    ∙ ap (λ l. if is_drawn d (shown_at new) r c then l else [])
    (flat_map-append spelling_of a (b ++ p) ∙ ap (λ l. flat_map spelling_of a ++ l) (flat_map-append spelling_of b p)
    ∙ ap (λ l. l ++ (flat_map spelling_of b ++ flat_map spelling_of p)) (one_text (place_cursor (r + 1) (c + 1)) (goes_on d r c))
    ∙ ap (λ l. (if goes_on d r c then [] else spelling_of (place_cursor (r + 1) (c + 1))) ++ (l ++ flat_map spelling_of p)) (text_unless (restyle x.style) (same_style x.style g))
    ∙ ap (λ l. (if goes_on d r c then [] else spelling_of (place_cursor (r + 1) (c + 1))) ++ ((if same_style x.style g then [] else flat_map spelling_of (restyle x.style)) ++ l)) (points_text x.points))

row_is : (old new : Screenshot) (r : ℕ) (g : Style) (c : ℕ) → flat_map spelling_of (drawn_row (differs old new) (shown_at new) r g c) ≡ row_text old new r g c
unfolding row_text
row_is old new r g zero = refl
row_is old new r g (suc c) =
    let d = differs old new in
    let s = style_in d (shown_at new) r g c in
    flat_map-append spelling_of (drawn_row d (shown_at new) r g c) (drawn_cell d (shown_at new) r c s)
    ∙ ap (λ l. l ++ flat_map spelling_of (drawn_cell d (shown_at new) r c s)) (row_is old new r g c) ∙ ap (λ l. row_text old new r g c ++ l) (place_is old new r c s)

rows_is : (old new : Screenshot) (n : ℕ) → flat_map spelling_of (drawn_rows (differs old new) (shown_at new) new.cols n) ≡ rows_text old new n
unfolding rows_text
rows_is old new zero = refl
rows_is old new (suc n) =
    let d = differs old new in
    let s = style_at d (shown_at new) new.cols n in
    flat_map-append spelling_of (drawn_rows d (shown_at new) new.cols n) (drawn_row d (shown_at new) n s new.cols)
    ∙ ap (λ l. l ++ flat_map spelling_of (drawn_row d (shown_at new) n s new.cols)) (rows_is old new n) ∙ ap (λ l. rows_text old new n ++ l) (row_is old new n s new.cols)

pub painted_text : (b : List ℕ) (old new : Screenshot) → ((b ++ opening_text (same_size old new)) ++ rows_text old new new.rows) ++ closing_text new.cursor_row new.cursor_col new.visible ≡ b ++ text_between old new
unfolding text_between functions_between opening_text closing_text
painted_text b old new =
    let body = drawn_rows (differs old new) (shown_at new) new.cols new.rows in
    append_assoc (b ++ opening_text (same_size old new)) (rows_text old new new.rows) (closing_text new.cursor_row new.cursor_col new.visible)
    ∙ append_assoc b (opening_text (same_size old new)) (rows_text old new new.rows ++ closing_text new.cursor_row new.cursor_col new.visible)
    ∙ ap (λ l. b ++ l) (sym (flat_map-append spelling_of (opening old new) (body ++ closing new)
    ∙ ap (λ l. flat_map spelling_of (opening old new) ++ l) (flat_map-append spelling_of body (closing new) ∙ ap (λ l. l ++ flat_map spelling_of (closing new)) (rows_is old new new.rows))))

-- ---- one more place, one more row

pub row_step : (old new : Screenshot) (r : ℕ) (h : Style) (c : ℕ) (start out later : List ℕ) (g next : Style) → out ≡ start ++ row_text old new r h c → g ≡ row_style old new r h c
    → later ≡ out ++ place_text old new r c g → next ≡ style_after (differs old new) (shown_at new) r c g
    → (later ≡ start ++ row_text old new r h (c + 1)) × (next ≡ row_style old new r h (c + 1))
row_step old new r h c start out later g next p q s t = (
  s ∙ ap (λ l. l ++ place_text old new r c g) p ∙ ap (λ x. (start ++ row_text old new r h c) ++ place_text old new r c x) q
      ∙ append_assoc start (row_text old new r h c) (place_text old new r c (row_style old new r h c)) ∙ ap (λ l. start ++ l) (sym (row_more old new r h c)),
  t ∙ ap (style_after (differs old new) (shown_at new) r c) q ∙ sym (style_more old new r h c),
)

pub rows_step : (old new : Screenshot) (r : ℕ) (start out later : List ℕ) (g next : Style) → out ≡ start ++ rows_text old new r → g ≡ rows_style old new r
    → later ≡ out ++ row_text old new r g new.cols → next ≡ row_style old new r g new.cols
    → (later ≡ start ++ rows_text old new (r + 1)) × (next ≡ rows_style old new (r + 1))
rows_step old new r start out later g next p q s t = (
  s ∙ ap (λ l. l ++ row_text old new r g new.cols) p ∙ ap (λ x. (start ++ rows_text old new r) ++ row_text old new r x new.cols) q
      ∙ append_assoc start (rows_text old new r) (row_text old new r (rows_style old new r) new.cols) ∙ ap (λ l. start ++ l) (sym (rows_more old new r)),
  t ∙ ap (λ x. row_style old new r x new.cols) q ∙ sym (rows_style_more old new r),
)

pub nothing : (start x : List ℕ) → x ≡ [] → start ≡ start ++ x
nothing start x e = sym (ap (λ l. start ++ l) e ∙ append-nil start)

-- ---- runs of differences

pub stays_first : (b : Bool) (old new : Screenshot) (r : ℕ) → (false && b) ≡ goes_on (differs old new) r 0
stays_first b old new r = refl

pub stays_next : (a b : Bool) (old new : Screenshot) (r c : ℕ) → a ≡ differs old new r c → b ≡ differs old new r (c + 1)
    → (a && b) ≡ goes_on (differs old new) r (c + 1)
stays_next a b old new r c p q =
    let d = differs old new in
    let back : c + 1 - 1 ≡ c = omega arith in
    ap (λ x. x && b) p ∙ ap (λ x. d r c && x) q ∙ sym (ap (λ k. d r k && d r (c + 1)) back)
    ∙ sym (ap (λ x. x && (d r (c + 1 - 1) && d r (c + 1))) (lt-ltb 0 (c + 1) (omega arith)))

-- ---- a row in which nothing differs

nothing_and : (h a w b : Bool) → a ≡ false → b ≡ false → (h && (a || (w && b))) ≡ false
nothing_and true false true false p q = refl
nothing_and true false false false p q = refl
nothing_and false false w false p q = refl
nothing_and h true w b p q = cc
nothing_and h false w true p q = cc

undrawn : (old new : Screenshot) (r : ℕ) → ((c : ℕ) → differs old new r c ≡ false) → (c : ℕ) → is_drawn (differs old new) (shown_at new) r c ≡ false
undrawn old new r none c =
    nothing_and (not (is_right_half (shown_at new r c))) (differs old new r c) (is_wide (shown_at new r c)) (differs old new r (c + 1)) (none c) (none (c + 1))

pub quiet_style : (old new : Screenshot) (r : ℕ) (g : Style) → ((c : ℕ) → differs old new r c ≡ false) → (k : ℕ) → row_style old new r g k ≡ g
unfolding row_style style_after
quiet_style old new r g none zero = refl
quiet_style old new r g none (suc k) =
    let now = row_style old new r g k in
    ap (λ b. if b then (shown_at new r k).style else now) (undrawn old new r none k) ∙ quiet_style old new r g none k

pub quiet_text : (old new : Screenshot) (r : ℕ) (g : Style) → ((c : ℕ) → differs old new r c ≡ false) → (k : ℕ) → row_text old new r g k ≡ []
unfolding row_text place_text
quiet_text old new r g none zero = refl
quiet_text old new r g none (suc k) =
    let d = differs old new in
    let x = shown_at new r k in
    let now = style_in d (shown_at new) r g k in
    ap (λ l. l ++ place_text old new r k now) (quiet_text old new r g none k)
    ∙ ap (λ b. if b then cell_text (goes_on d r k) (same_style x.style now) r k x else []) (undrawn old new r none k)
