-- A written cell is read again.
use Rattle.std.proofs.Common.{◌≡◌, ℕ, ◌+◌, ◌*◌, ◌^◌, ◌/◌, ◌%◌, ◌<◌, ◌≤◌, Bool, true, false, not, cond, eqb, leb, ◌&&◌, List, [], ◌∷◌, ◌++◌, length, drop, Option, Some, None, refl, sym, ap, ◌∙◌, append_assoc, arith, length-append}
use Rattle.std.specs.Prelude.{All, option_and_then}
use Rattle.std.specs.Char.{IsScalar}
use Rattle.std.proofs.lemmas.Bool.{and_parts, and_from, leb-true, le-leb, false≢true}
use Rattle.std.proofs.lemmas.Bool.Decides.{nat_tests}
use Rattle.std.proofs.lemmas.List.{drop_at}
use Rattle.std.proofs.lemmas.List.Elements.{All-head, All-tail}
use Rattle.byteorder.specs.Endian.{big_bytes, big_number}
use Rattle.byteorder.specs.Numbers.{big_number-reads_back}
use Rattle.roam_cells.specs.declared.styles.Style.{Style}
use Rattle.roam_cells.specs.declared.styles.Colour.{Colour}
use Rattle.roam_cells.specs.declared.styles.Colour.TheVariants.{Default, Index, Rgb}
use Rattle.roam_cells.specs.Width.{width_of}
use Rattle.roam_cells.specs.Glyph.{Glyph, is_text, are_joiners}
use Rattle.roam_update.specs.CellText.{Front, IsPlain, bit, flags, colour_kind, colour_index, is_short_colour, is_short_style, points_text, style_text, cell_text, cells_text, is_scalar, point_read, points_read, colour_read, style_of, number_read, style_read, form_after, head_size, is_style, glyph_of, glyph_read, cell_size, cell_read, cells_read}
use Rattle.roam_update.specs.Styles.{Form, Whole, Numbered, number_in, used_after, style_in}
use Rattle.roam_update.proofs.Forms.{past, past_all, Fits, TakesCells, IsForm, form_past, cells_past, stands}
use Rattle.roam_update.proofs.Testing.{is_scalar_of, is_style_of}

pub few_points : (ps : List ℕ) → is_text ps ≡ true → length ps ≤ 3
few_points [] e = omega arith
few_points (c ∷ cs) e =
    let g = and_parts (not (eqb (width_of c) 0) && are_joiners cs) (leb (length cs) 2) e in
    let k = leb-true (length cs) 2 g.1 in
    omega (arith, k)

scalar_fits : (c : ℕ) → is_scalar c ≡ true → c < 256 ^ 4
scalar_fits c e = grind (arith, nat_tests)

abbrev pointed : Bool → ℕ → Option ℕ
pointed long n = cond (long && is_scalar n) (Some n) None

point_again : (c : ℕ) (rest : List ℕ) → is_scalar c ≡ true → point_read (big_bytes 4 c ++ rest) ≡ Some c
point_again c rest e =
    let long : leb 4 (length (big_bytes 4 c ++ rest)) ≡ true = le-leb _ _ (omega (arith, length-append (big_bytes 4 c) rest)) in
    let reads : big_number 4 (big_bytes 4 c ++ rest) ≡ c = big_number-reads_back 4 c rest (scalar_fits c e) in
    ap (pointed (leb 4 (length (big_bytes 4 c ++ rest)))) reads ∙ ap (λ b. pointed b c) long ∙ ap (λ b. cond b (Some c) None) e

abbrev pointed_more : Option ℕ → Option (List ℕ) → Option (List ℕ)
pointed_more o os = option_and_then (λ c. option_and_then (λ cs. Some (c ∷ cs)) os) o

points_again : (ps rest : List ℕ) → All IsScalar ps → points_read (length ps) (points_text ps ++ rest) ≡ Some ps
points_again [] rest h = refl
points_again (c ∷ cs) rest h =
    let e = is_scalar_of c (All-head IsScalar c cs h) in
    ap (λ o. pointed_more o (points_read (length cs) (points_text cs ++ rest))) (point_again c (points_text cs ++ rest) e)
    ∙ ap (pointed_more (Some c)) (points_again cs rest (All-tail IsScalar c cs h))

pub length_points : (ps : List ℕ) → length (points_text ps) ≡ 4 * length ps
length_points [] = refl
length_points (c ∷ cs) = omega (arith, length_points cs)

few_bit : (b : Bool) → bit b ≤ 1
few_bit true = omega arith
few_bit false = omega arith

bit_again : (b : Bool) (n : ℕ) → n ≡ bit b → eqb n 1 ≡ b
bit_again true n e = ap (λ (k : ℕ). eqb k 1) e
bit_again false n e = ap (λ (k : ℕ). eqb k 1) e

pub flags_again : (s : Style) → style_of (flags s) s.foreground s.background ≡ s
flags_again s =
    let a = few_bit s.bold in
    let b = few_bit s.faint in
    let c = few_bit s.italic in
    let d = few_bit s.underline in
    let e = few_bit s.blink in
    let f = few_bit s.reverse in
    let g = few_bit s.conceal in
    let h = few_bit s.strike in
    λ i. record {
      bold = bit_again s.bold (flags s % 2) (omega arith) i;
      faint = bit_again s.faint (flags s / 2 % 2) (omega arith) i;
      italic = bit_again s.italic (flags s / 4 % 2) (omega arith) i;
      underline = bit_again s.underline (flags s / 8 % 2) (omega arith) i;
      blink = bit_again s.blink (flags s / 16 % 2) (omega arith) i;
      reverse = bit_again s.reverse (flags s / 32 % 2) (omega arith) i;
      conceal = bit_again s.conceal (flags s / 64 % 2) (omega arith) i;
      strike = bit_again s.strike (flags s / 128 % 2) (omega arith) i;
      foreground = s.foreground;
      background = s.background;
    }

colour_again : (a : Colour) → is_short_colour a ≡ true → colour_read (colour_kind a) (colour_index a) ≡ Some a
colour_again Default h = refl
colour_again (Index n) h = refl
colour_again (Rgb r g b) h = absurd (false≢true h)

abbrev some_glyph : Glyph → Option Glyph
some_glyph g = Some g

glyph_made : (g : Glyph) → IsPlain g → glyph_of g.points g.style ≡ Some g
glyph_made g h =
    ap (λ t. cond t (Some (record { points = g.points; style = g.style; guarded = false })) None)
    (and_from (is_style g.style) (is_text g.points) (is_style_of g.style h.shown.style) h.shown.text)
    ∙ ap (λ (k : Bool). some_glyph (record { points = g.points; style = g.style; guarded = k })) (sym h.unguarded)

abbrev glyphs : Style → Option (List ℕ) → Option Glyph
glyphs style points = option_and_then (λ ps. glyph_of ps style) points

abbrev styled : ℕ → List ℕ → Option Style → Option Glyph
styled n tail style = option_and_then (λ s. glyphs s (points_read n tail)) style

abbrev coloured : ℕ → Option Colour → Option Colour → Option Style
coloured f fore back = option_and_then (λ a. option_and_then (λ b. Some (style_of f a b)) back) fore

whole_again : (s : Style) → is_short_style s ≡ true → coloured (flags s) (colour_read (colour_kind s.foreground) (colour_index s.foreground)) (colour_read (colour_kind s.background) (colour_index s.background)) ≡ Some s
whole_again s h =
    let both = and_parts (is_short_colour s.foreground) (is_short_colour s.background) h in
    rw (colour_again s.foreground both.0, colour_again s.background both.1) (ap (λ (t : Style). Some t) (flags_again s))

-- the text of a cell whose number of code points is n
abbrev texted : Form → ℕ → Style → List ℕ → List ℕ
texted f n s tail = n ∷ (style_text f s ++ tail)

number_again : (table : List Style) (used n : ℕ) (s : Style) (tail : List ℕ) → number_in table s < length table → length table < 256 ^ 3
    → number_read (texted (Numbered table used) n s tail) ≡ number_in table s
number_again table used n s tail h k = big_number-reads_back 3 (number_in table s) tail (omega (arith, h, k))

style_again : (f : Form) (n : ℕ) (s : Style) (tail : List ℕ) → IsForm f → Fits f s → style_read f (texted f n s tail) ≡ Some s
style_again Whole n s tail is h = whole_again s h
style_again (Numbered table used) n s tail is h =
    let low : leb (number_in table s) used ≡ true = le-leb (number_in table s) used h.0 in
    ap (style_in table used) (number_again table used n s tail h.1 is.few)
    ∙ rw low (stands table s h.1)

form_again : (f : Form) (n : ℕ) (s : Style) (tail : List ℕ) → IsForm f → Fits f s → form_after f (texted f n s tail) ≡ past f s
form_again Whole n s tail is h = refl
form_again (Numbered table used) n s tail is h =
    ap (λ (k : ℕ). Numbered table (used_after used k)) (number_again table used n s tail h.1 is.few)

head_again : (f : Form) (n : ℕ) (s : Style) (tail : List ℕ) → drop (head_size f) (texted f n s tail) ≡ tail
head_again Whole n s tail = refl
head_again (Numbered table used) n s tail = refl

head_long : (f : Form) (n : ℕ) (s : Style) (tail : List ℕ) → leb (head_size f) (length (texted f n s tail)) ≡ true
head_long Whole n s tail = le-leb _ _ (omega arith)
head_long (Numbered table used) n s tail = le-leb _ _ (omega arith)

glyph_again : (f : Form) (g : Glyph) (rest : List ℕ) → IsPlain g → IsForm f → Fits f g.style
    → glyph_read f (texted f (length g.points) g.style (points_text g.points ++ rest)) ≡ Some g
glyph_again f g rest h is fits =
    let n = length g.points in
    let tail = points_text g.points ++ rest in
    let t = texted f n g.style tail in
    let few : leb n 3 ≡ true = le-leb n 3 (few_points g.points h.shown.text) in
    ap (λ x. cond (x && leb n 3) (styled n (drop (head_size f) t) (style_read f t)) None) (head_long f n g.style tail)
    ∙ ap (λ x. cond x (styled n (drop (head_size f) t) (style_read f t)) None) few
    ∙ ap (λ (y : List ℕ). styled n y (style_read f t)) (head_again f n g.style tail)
    ∙ ap (styled n tail) (style_again f n g.style tail is fits)
    ∙ ap (glyphs g.style) (points_again g.points rest h.shown.scalars)
    ∙ glyph_made g h

pub length_style : (f : Form) (s : Style) → 1 + length (style_text f s) ≡ head_size f
length_style Whole s = refl
length_style (Numbered table used) s = refl

pub length_cell : (f : Form) (g : Glyph) → length (cell_text f g) ≡ head_size f + 4 * length g.points
length_cell f g = omega (arith, length_points g.points, length_style f g.style, length-append (style_text f g.style) (points_text g.points))

abbrev Cut : Type 0
Cut = Option (Front Glyph)

abbrev some_cut : Form → Glyph → List ℕ → Cut
some_cut f g rest = Some (record { value = g; rest = rest; form = f })

abbrev cut_from : Form → List ℕ → Glyph → Cut
cut_from f t g = Some (record { value = g; rest = drop (cell_size f t) t; form = form_after f t })

-- a cell's text and what follows it
cell_split : (f : Form) (g : Glyph) (rest : List ℕ) → cell_text f g ++ rest ≡ texted f (length g.points) g.style (points_text g.points ++ rest)
cell_split f g rest = ap (λ (t : List ℕ). length g.points ∷ t) (append_assoc (style_text f g.style) (points_text g.points) rest)

cell_again : (f : Form) (g : Glyph) (rest : List ℕ) → IsPlain g → IsForm f → Fits f g.style → cell_read f (cell_text f g ++ rest) ≡ some_cut (past f g.style) g rest
cell_again f g rest h is fits =
    let n = length g.points in
    let tail = points_text g.points ++ rest in
    ap (cell_read f) (cell_split f g rest)
    ∙ ap (λ o. option_and_then (cut_from f (texted f n g.style tail)) o) (glyph_again f g rest h is fits)
    ∙ ap (λ (k : Form). some_cut k g (drop (head_size f + 4 * n) (texted f n g.style tail))) (form_again f n g.style tail is fits)
    ∙ ap (λ (t : List ℕ). some_cut (past f g.style) g (drop (head_size f + 4 * n) t)) (sym (cell_split f g rest))
    ∙ ap (some_cut (past f g.style) g) (drop_at (cell_text f g) rest (head_size f + 4 * n) (length_cell f g))

-- ---- cells

abbrev some_cells : Form → List Glyph → List ℕ → Option (Front (List Glyph))
some_cells f gs rest = Some (record { value = gs; rest = rest; form = f })

abbrev then_cells : ℕ → Cut → Option (Front (List Glyph))
then_cells n o = option_and_then (λ c. option_and_then (λ cs. some_cells cs.form (c.value ∷ cs.value) cs.rest) (cells_read c.form n c.rest)) o

pub cells_again : (f : Form) (gs : List Glyph) (rest : List ℕ) → All IsPlain gs → IsForm f → TakesCells f gs
    → cells_read f (length gs) (cells_text f gs ++ rest) ≡ some_cells (past_all f gs) gs rest
unfolding cells_read
cells_again f [] rest h is fits = refl
cells_again f (g ∷ gs) rest h is fits =
    let next = past f g.style in
    ap (λ t. then_cells (length gs) (cell_read f t)) (append_assoc (cell_text f g) (cells_text f gs) rest)
    ∙ ap (then_cells (length gs)) (cell_again f g (cells_text f gs ++ rest) (All-head IsPlain g gs h) is fits.0)
    ∙ ap (λ (t : List ℕ). option_and_then (λ cs. some_cells cs.form (g ∷ cs.value) cs.rest) (cells_read next (length gs) (t ++ rest))) (sym (cells_past f g.style gs))
    ∙ ap (λ o. option_and_then (λ cs. some_cells cs.form (g ∷ cs.value) cs.rest) o) (cells_again next gs rest (All-tail IsPlain g gs h) (form_past f g.style is) fits.1)
