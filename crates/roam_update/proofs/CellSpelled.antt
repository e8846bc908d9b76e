-- A cell that is read is spelled so.
use Rattle.std.proofs.Common.{◌≡◌, ℕ, zero, suc, ◌+◌, ◌*◌, ◌/◌, ◌%◌, ◌<◌, ◌≤◌, Bool, true, false, cond, eqb, leb, ◌&&◌, List, [], ◌∷◌, ◌++◌, length, drop, Option, Some, None, refl, sym, ap, subst, ◌∙◌, append_assoc, arith}
use Rattle.std.specs.Prelude.{option_and_then, slice_get, slice_index}
use Rattle.std.proofs.lemmas.Bool.{and_parts, and_from, eqb-true, leb-true}
use Rattle.std.proofs.lemmas.List.{drop-drop}
use Rattle.std.proofs.lemmas.Option.{cond_some, option_and_then_some}
use Rattle.byteorder.specs.Endian.{big_bytes, big_number}
use Rattle.roam_cells.specs.declared.styles.Style.{Style}
use Rattle.roam_cells.specs.declared.styles.Colour.{Colour}
use Rattle.roam_cells.specs.declared.styles.Colour.TheVariants.{Default, Index}
use Rattle.roam_cells.specs.Glyph.{Glyph, is_text}
use Rattle.roam_update.specs.CellText.{Front, bit, flags, colour_kind, colour_index, is_short_colour, is_short_style, points_text, style_text, cell_text, cells_text, is_scalar, point_read, points_read, colour_read, style_of, whole_style, is_style, number_read, style_read, form_after, head_size, glyph_of, glyph_read, cell_size, cell_read, cells_read}
use Rattle.roam_update.specs.Styles.{Form, Whole, Numbered, number_in, used_after}
use Rattle.roam_update.proofs.Forms.{past, past_all, Fits, TakesCells, IsForm, form_past, cells_past, place_below}
use Rattle.roam_update.proofs.Bytes.{AreBytes, bytes-drop, number_3, number_4}
use Rattle.roam_update.proofs.Plain.{if_some}

-- ---- code points

point_spelled : (text : List ℕ) (c : ℕ) → AreBytes text → point_read text ≡ Some c → text ≡ big_bytes 4 c ++ drop 4 text
point_spelled text c fits e =
    let a = cond_some (leb 4 (length text) && is_scalar (big_number 4 text)) (big_number 4 text) c e in
    let long = leb-true 4 (length text) (and_parts (leb 4 (length text)) (is_scalar (big_number 4 text)) a.0).0 in
    number_4 0 text (omega (arith, long)) fits ∙ ap (λ (n : ℕ). big_bytes 4 n ++ drop 4 text) a.1

four : (n : ℕ) → 4 + 4 * n ≡ 4 * suc n
four n = omega arith

-- the code points that are read, and the rest of the text
record ArePoints (n : ℕ) (text ps : List ℕ) : Type 0 where
  count : length ps ≡ n
  spelled : text ≡ points_text ps ++ drop (4 * n) text

points_spelled : (n : ℕ) (text ps : List ℕ) → AreBytes text → points_read n text ≡ Some ps → ArePoints n text ps
points_spelled zero text ps fits e = let none : [] ≡ ps = cc in subst (ArePoints zero text) none (record { count = refl; spelled = refl })
points_spelled (suc n) text ps fits e =
    option_and_then_some (λ c. option_and_then (λ cs. Some (c ∷ cs)) (points_read n (drop 4 text))) (point_read text) ps e (λ c f g.
    option_and_then_some (λ (cs : List ℕ). Some (c ∷ cs)) (points_read n (drop 4 text)) ps g (λ cs h k.
    let more = points_spelled n (drop 4 text) cs (bytes-drop 4 text fits) h in
    let moved : drop (4 * n) (drop 4 text) ≡ drop (4 * suc n) text = drop-drop (4 * n) 4 text ∙ ap (λ (j : ℕ). drop j text) (four n) in
    let same : c ∷ cs ≡ ps = cc in
    subst (ArePoints (suc n) text) same (record {
      count = ap suc more.count;
      spelled =
          point_spelled text c fits f ∙ ap (λ (t : List ℕ). big_bytes 4 c ++ t) (more.spelled ∙ ap (λ (t : List ℕ). points_text cs ++ t) moved)
          ∙ sym (append_assoc (big_bytes 4 c) (points_text cs) (drop (4 * suc n) text));
    })))

-- ---- a style

abbrev chosen : Bool → Bool → ℕ → Option Colour
chosen a b index = cond a (Some Default) (cond b (Some (Index index)) None)

chosen_back : (a b : Bool) (kind index : ℕ) (c : Colour) → (a ≡ true → (kind ≡ 0) × (index ≡ 0)) → (b ≡ true → kind ≡ 1) → chosen a b index ≡ Some c
    → (colour_kind c ≡ kind) × (colour_index c ≡ index) × (is_short_colour c ≡ true)
chosen_back true b kind index c f g e =
    let same : Default ≡ c = cc in
    (ap colour_kind (sym same) ∙ sym (f refl).0, ap colour_index (sym same) ∙ sym (f refl).1, ap is_short_colour (sym same))
chosen_back false true kind index c f g e =
    let same : Index index ≡ c = cc in
    (ap colour_kind (sym same) ∙ sym (g refl), ap colour_index (sym same), ap is_short_colour (sym same))
chosen_back false false kind index c f g e = absurd cc

colour_spelled : (kind index : ℕ) (c : Colour) → colour_read kind index ≡ Some c → (colour_kind c ≡ kind) × (colour_index c ≡ index) × (is_short_colour c ≡ true)
colour_spelled kind index c e =
    chosen_back (eqb kind 0 && eqb index 0) (eqb kind 1) kind index c
    (λ t. let p = and_parts (eqb kind 0) (eqb index 0) t in (eqb-true kind 0 p.0, eqb-true index 0 p.1)) (λ t. eqb-true kind 1 t) e

pub bit_of : (n : ℕ) → n < 2 → bit (eqb n 1) ≡ n
bit_of zero h = refl
bit_of (suc zero) h = refl
bit_of (suc (suc n)) h = absurd (omega arith)

pub flags_spelled : (f : ℕ) (fore back : Colour) → f < 256 → flags (style_of f fore back) ≡ f
flags_spelled f fore back h =
    rw (bit_of (f % 2) (omega arith), bit_of (f / 2 % 2) (omega arith), bit_of (f / 4 % 2) (omega arith), bit_of (f / 8 % 2) (omega arith), bit_of (f / 16 % 2) (omega arith), bit_of (f / 32 % 2) (omega arith), bit_of (f / 64 % 2) (omega arith), bit_of (f / 128 % 2) (omega arith))
    (omega (arith, h))

-- the five bytes of a style
record IsStyle (text : List ℕ) (s : Style) : Type 0 where
  flags : flags s ≡ slice_index text 1
  fore_kind : colour_kind s.foreground ≡ slice_index text 2
  fore_index : colour_index s.foreground ≡ slice_index text 3
  back_kind : colour_kind s.background ≡ slice_index text 4
  back_index : colour_index s.background ≡ slice_index text 5
  short : is_short_style s ≡ true

whole_spelled : (text : List ℕ) (s : Style) → AreBytes text → whole_style text ≡ Some s → IsStyle text s
whole_spelled text s fits e =
    option_and_then_some (λ fore. option_and_then (λ back. Some (style_of (slice_index text 1) fore back)) (colour_read (slice_index text 4) (slice_index text 5)))
    (colour_read (slice_index text 2) (slice_index text 3)) s e (λ fore f g.
    option_and_then_some (λ (back : Colour). Some (style_of (slice_index text 1) fore back)) (colour_read (slice_index text 4) (slice_index text 5)) s g (λ back h k.
    let front = colour_spelled (slice_index text 2) (slice_index text 3) fore f in
    let behind = colour_spelled (slice_index text 4) (slice_index text 5) back h in
    let same : style_of (slice_index text 1) fore back ≡ s = cc in
    subst (IsStyle text) same (record {
      flags = flags_spelled (slice_index text 1) fore back (fits 1);
      fore_kind = front.0;
      fore_index = front.1;
      back_kind = behind.0;
      back_index = behind.1;
      short = and_from (is_short_colour fore) (is_short_colour back) front.2 behind.2;
    })))

-- ---- a cell

six : (text : List ℕ) → 6 ≤ length text
    → text ≡ slice_index text 0 ∷ slice_index text 1 ∷ slice_index text 2 ∷ slice_index text 3 ∷ slice_index text 4 ∷ slice_index text 5 ∷ drop 6 text
six [] h = absurd (omega arith)
six (a ∷ []) h = absurd (omega arith)
six (a ∷ b ∷ []) h = absurd (omega arith)
six (a ∷ b ∷ c ∷ []) h = absurd (omega arith)
six (a ∷ b ∷ c ∷ d ∷ []) h = absurd (omega arith)
six (a ∷ b ∷ c ∷ d ∷ e ∷ []) h = absurd (omega arith)
six (a ∷ b ∷ c ∷ d ∷ e ∷ f ∷ rest) h = refl

glyph_of_parts : (ps : List ℕ) (s : Style) (g : Glyph) → glyph_of ps s ≡ Some g → (ps ≡ g.points) × (s ≡ g.style)
glyph_of_parts ps s g e =
    let a = cond_some (is_style s && is_text ps) (record { points = ps; style = s; guarded = false }) g e in
    (ap (λ (x : Glyph). x.points) a.1, ap (λ (x : Glyph). x.style) a.1)

-- the style that is read: its place in the text, that it can be spelled, and the rest
record IsSaid (f : Form) (text : List ℕ) (s : Style) : Type 0 where
  spelled : drop 1 text ≡ style_text f s ++ drop (head_size f) text
  fits : Fits f s
  form : form_after f text ≡ past f s

whole_text : (text : List ℕ) (s : Style) → 6 ≤ length text → IsStyle text s → drop 1 text ≡ style_text Whole s ++ drop 6 text
whole_text text s long is =
    ap (drop 1) (six text long)
    ∙ ap (λ (x : ℕ). x ∷ slice_index text 2 ∷ slice_index text 3 ∷ slice_index text 4 ∷ slice_index text 5 ∷ drop 6 text) (sym is.flags)
    ∙ ap (λ (x : ℕ). flags s ∷ x ∷ slice_index text 3 ∷ slice_index text 4 ∷ slice_index text 5 ∷ drop 6 text) (sym is.fore_kind)
    ∙ ap (λ (x : ℕ). flags s ∷ colour_kind s.foreground ∷ x ∷ slice_index text 4 ∷ slice_index text 5 ∷ drop 6 text) (sym is.fore_index)
    ∙ ap (λ (x : ℕ). flags s ∷ colour_kind s.foreground ∷ colour_index s.foreground ∷ x ∷ slice_index text 5 ∷ drop 6 text) (sym is.back_kind)
    ∙ ap (λ (x : ℕ). flags s ∷ colour_kind s.foreground ∷ colour_index s.foreground ∷ colour_kind s.background ∷ x ∷ drop 6 text) (sym is.back_index)

style_spelled : (f : Form) (text : List ℕ) (s : Style) → AreBytes text → IsForm f → head_size f ≤ length text → style_read f text ≡ Some s → IsSaid f text s
style_spelled Whole text s fits is long e =
    let style = whole_spelled text s fits e in
    record { spelled = whole_text text s long style; fits = style.short; form = refl }
style_spelled (Numbered table used) text s fits is long e =
    let k = number_read text in
    let a = if_some (leb k used) (slice_get table k) s e in
    let number : number_in table s ≡ k = is.once k s a.1 in
    record {
      spelled = number_3 1 text (omega (arith, long)) fits ∙ ap (λ (n : ℕ). big_bytes 3 n ++ drop 4 text) (sym number);
      fits = (omega (arith, number, leb-true k used a.0), omega (arith, number, place_below table k s a.1));
      form = ap (λ (n : ℕ). Numbered table (used_after used n)) (sym number);
    }

first_of : (text : List ℕ) (n : ℕ) → n ≤ length text → 1 ≤ n → text ≡ slice_index text 0 ∷ drop 1 text
first_of [] n h k = absurd (omega (arith, h, k))
first_of (a ∷ rest) n h k = refl

some_head : (f : Form) → 1 ≤ head_size f
some_head Whole = omega arith
some_head (Numbered table used) = omega arith

record IsCell (f : Form) (text : List ℕ) (g : Glyph) : Type 0 where
  spelled : text ≡ cell_text f g ++ drop (cell_size f text) text
  fits : Fits f g.style
  form : form_after f text ≡ past f g.style

glyph_spelled : (f : Form) (text : List ℕ) (g : Glyph) → AreBytes text → IsForm f → glyph_read f text ≡ Some g → IsCell f text g
glyph_spelled f text g fits is e =
    let n = slice_index text 0 in
    let m = head_size f in
    let a = if_some (leb m (length text) && leb n 3) _ g e in
    let long = leb-true m (length text) (and_parts (leb m (length text)) (leb n 3) a.0).0 in
    option_and_then_some (λ style. option_and_then (λ points. glyph_of points style) (points_read n (drop m text))) (style_read f text) g a.1 (λ style h k.
    option_and_then_some (λ (points : List ℕ). glyph_of points style) (points_read n (drop m text)) g k (λ ps j o.
    let parts = glyph_of_parts ps style g o in
    let points = points_spelled n (drop m text) ps (bytes-drop m text fits) j in
    let said : IsSaid f text g.style = subst (IsSaid f text) parts.1 (style_spelled f text style fits is long h) in
    let count : length g.points ≡ n = ap length (sym parts.0) ∙ points.count in
    let tail : drop m text ≡ points_text g.points ++ drop (cell_size f text) text =
    points.spelled ∙ ap (λ (t : List ℕ). points_text ps ++ t) (drop-drop (4 * n) m text) ∙ ap (λ (x : List ℕ). points_text x ++ drop (cell_size f text) text) parts.0 in
    record {
      spelled =
          first_of text m long (some_head f)
          ∙ ap (λ (x : ℕ). x ∷ drop 1 text) (sym count)
          ∙ ap (λ (t : List ℕ). length g.points ∷ t)
          (said.spelled ∙ ap (λ (t : List ℕ). style_text f g.style ++ t) tail ∙ sym (append_assoc (style_text f g.style) (points_text g.points) (drop (cell_size f text) text)));
      fits = said.fits;
      form = said.form;
    }))

record IsCut (f : Form) (text : List ℕ) (c : Front Glyph) : Type 0 where
  spelled : text ≡ cell_text f c.value ++ c.rest
  bytes : AreBytes c.rest
  fits : Fits f c.value.style
  form : c.form ≡ past f c.value.style

cell_spelled : (f : Form) (text : List ℕ) (c : Front Glyph) → AreBytes text → IsForm f → cell_read f text ≡ Some c → IsCut f text c
cell_spelled f text c fits is e =
    option_and_then_some (λ (g : Glyph). Some (record { value = g; rest = drop (cell_size f text) text; form = form_after f text })) (glyph_read f text) c e (λ g h k.
    let same : record { value = g; rest = drop (cell_size f text) text; form = form_after f text } ≡ c = cc in
    let cell = glyph_spelled f text g fits is h in
    subst (IsCut f text) same
    (record { spelled = cell.spelled; bytes = bytes-drop (cell_size f text) text fits; fits = cell.fits; form = cell.form }))

-- ---- cells

pub record AreCells (f : Form) (n : ℕ) (text : List ℕ) (cs : Front (List Glyph)) : Type 0 where
  pub count : length cs.value ≡ n
  pub spelled : text ≡ cells_text f cs.value ++ cs.rest
  pub bytes : AreBytes cs.rest
  pub takes : TakesCells f cs.value
  pub form : cs.form ≡ past_all f cs.value

pub cells_spelled : (f : Form) (n : ℕ) (text : List ℕ) (cs : Front (List Glyph)) → AreBytes text → IsForm f → cells_read f n text ≡ Some cs → AreCells f n text cs
unfolding cells_read
cells_spelled f zero text cs fits is e =
    let none : record { value = []; rest = text; form = f } ≡ cs = cc in
    subst (AreCells f zero text) none (record { count = refl; spelled = refl; bytes = fits; takes = tt; form = refl })
cells_spelled f (suc n) text cs fits is e =
    option_and_then_some
    (λ c. option_and_then (λ more. Some (record { value = c.value ∷ more.value; rest = more.rest; form = more.form })) (cells_read c.form n c.rest)) (cell_read f text) cs e (λ c h g.
    option_and_then_some (λ (more : Front (List Glyph)). Some (record { value = c.value ∷ more.value; rest = more.rest; form = more.form })) (cells_read c.form n c.rest) cs g (λ more j k.
    let here = cell_spelled f text c fits is h in
    let s = c.value.style in
    let next : IsForm (past f s) = form_past f s is in
    let after : AreCells (past f s) n c.rest more =
    cells_spelled (past f s) n c.rest more here.bytes next (subst (λ (x : Form). cells_read x n c.rest ≡ Some more) here.form j) in
    let same : record { value = c.value ∷ more.value; rest = more.rest; form = more.form } ≡ cs = cc in
    subst (AreCells f (suc n) text) same (record {
      count = ap suc after.count;
      spelled =
          here.spelled
          ∙ ap (λ (t : List ℕ). cell_text f c.value ++ t) (after.spelled ∙ ap (λ (t : List ℕ). t ++ more.rest) (cells_past f s more.value))
          ∙ sym (append_assoc (cell_text f c.value) (cells_text f more.value) more.rest);
      bytes = after.bytes;
      takes = (here.fits, after.takes);
      form = after.form;
    })))
