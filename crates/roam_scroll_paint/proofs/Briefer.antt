-- The text of a style and of a place is no longer than that of a painter which leaves nothing out.
use Rattle.std.proofs.Common.{◌≡◌, ◌≤◌, ◌<◌, ℕ, ◌+◌, Bool, true, false, not, ◌&&◌, ◌||◌, List, [], ◌∷◌, ◌++◌, length, None, refl, sym, ap, ◌∙◌, arith}
use Rattle.std.specs.Prelude.{if◌then◌else◌, decimal, nat_lt, nat_le, ◌==◌}
use Rattle.std.specs.List.{flat_map}
use Rattle.std.proofs.lemmas.Bool.{and_parts, false≢true, ltb-true}
use Rattle.std.proofs.lemmas.List.{length-append}
use Rattle.std.proofs.lemmas.Fmt.{length-decimal-le}
use Rattle.std.proofs.lemmas.Grind.{flat_map-append}
use Rattle.roam_cells.specs.Same.{same_colour, same_style}
use Rattle.roam_cells.specs.declared.styles.Style.{Style}
use Rattle.roam_cells.specs.declared.styles.Colour.{Colour}
use Rattle.roam_cells.specs.declared.styles.Colour.TheVariants.{Default, Index, Rgb}
use Rattle.roam_text.specs.declared.functions.Function.{Function}
use Rattle.roam_term.specs.ControlFunctions.{csi, flag_code, colour_codes, place_cursor, set_style, set_mixture, restyle}
use Rattle.roam_paint.specs.Sequences.{spelling_of}
use Rattle.roam_paint.specs.Texts.{code_text}
use Rattle.roam_scroll_paint.specs.Bands.{to_row}
use Rattle.roam_scroll_paint.specs.Doubts.{longest_placing}
use Rattle.roam_scroll_paint.specs.Rows.{placing_at}
use Rattle.roam_scroll_paint.specs.Sequences.{text_of}
use Rattle.roam_scroll_paint.specs.Styles.{flag_added, colour_words, colour_added, change_codes, ends_flag, is_default, ends_alone, adds, changing, styled_from}
use Rattle.roam_scroll_paint.proofs.Counts.{tail, length-rendition, code_least, length-place_cursor}
use Rattle.roam_scroll_paint.proofs.Spelled.{to_row_is, restyle_text}

-- the bytes of some functions
abbrev pub bytes : List Function → ℕ
bytes fs = length (flat_map text_of fs)

pub bytes-append : (fs gs : List Function) → bytes (fs ++ gs) ≡ bytes fs + bytes gs
bytes-append fs gs = ap length (flat_map-append text_of fs gs) ∙ length-append (flat_map text_of fs) (flat_map text_of gs)

bytes-one : (f : Function) → bytes (f ∷ []) ≡ length (text_of f)
bytes-one f = let a = length-append (text_of f) [] in omega (arith, a)

-- ---- CUP

length-to_row : (r : ℕ) → length (text_of (to_row (r + 1))) ≡ 3 + length (decimal (r + 1))
length-to_row r =
    let a = length-append (decimal (r + 1)) (0x48 ∷ []) in
    let b = ap length (to_row_is (r + 1) (omega arith)) in
    omega (arith, a, b)

placing_by : (t : Bool) (r c : ℕ) → bytes ((if t then to_row (r + 1) else place_cursor (r + 1) (c + 1)) ∷ []) ≤ length (spelling_of (place_cursor (r + 1) (c + 1)))
placing_by true r c = omega (arith, bytes-one (to_row (r + 1)), length-to_row r, length-place_cursor (r + 1) (c + 1))
placing_by false r c = omega (arith, bytes-one (place_cursor (r + 1) (c + 1)))

pub placing_fewer : (r c : ℕ) → bytes (placing_at r c ∷ []) ≤ length (spelling_of (place_cursor (r + 1) (c + 1)))
placing_fewer r c = placing_by (c == 0) r c

pub placing_most : (r c : ℕ) → r < 999 → c < 999 → bytes (placing_at r c ∷ []) ≤ longest_placing
placing_most r c p q =
    let a = length-decimal-le 3 (r + 1) (omega arith) (omega (arith, p)) (omega (arith, p)) in
    let b = length-decimal-le 3 (c + 1) (omega arith) (omega (arith, q)) (omega (arith, q)) in
    let d = placing_fewer r c in
    omega (arith, length-place_cursor (r + 1) (c + 1), a, b, d)

-- ---- parameters

tail-append : (xs ys : List ℕ) → tail (xs ++ ys) ≡ tail xs + tail ys
tail-append xs ys = ap length (flat_map-append (code_text true) xs ys) ∙ length-append (flat_map (code_text true) xs) (flat_map (code_text true) ys)

flag_fewer : (a b : Bool) (n : ℕ) (rest : List ℕ) → tail (flag_added a b n) + tail rest ≤ tail (flag_code b n rest)
flag_fewer true true n rest = let a = length-append (code_text true n) (flat_map (code_text true) rest) in omega (arith, a)
flag_fewer true false n rest = omega arith
flag_fewer false true n rest =
    let a = length-append (code_text true n) (flat_map (code_text true) rest) in
    let b = length-append (code_text true n) [] in
    omega (arith, a, b)
flag_fewer false false n rest = omega arith

-- the bytes of a colour in a style that is set whole
abbrev own : ℕ → Colour → ℕ
own code x = tail (colour_codes code x []) + length (flat_map spelling_of (set_mixture code x))

colour_rest : (code : ℕ) (x : Colour) (rest : List ℕ) → tail (colour_codes code x rest) ≡ tail (colour_codes code x []) + tail rest
colour_rest code Default rest = omega arith
colour_rest code (Index n) rest = tail-append (code ∷ 5 ∷ n ∷ []) rest
colour_rest code (Rgb r g b) rest = omega arith

words_fewer : (code ending : ℕ) (y : Colour) → is_default y ≡ false → tail (colour_words code ending y) ≤ own code y
words_fewer code ending Default h = absurd (false≢true (sym h))
words_fewer code ending (Index n) h = omega arith
words_fewer code ending (Rgb r g b) h =
    let more = 2 ∷ r ∷ g ∷ b ∷ [] in
    let a = length-append (code_text true code) (flat_map (code_text true) more) in
    let c = length-append (spelling_of (csi None (code ∷ more) 0x6D)) [] in
    omega (arith, a, c, length-rendition code more)

added_fewer : (t : Bool) (code ending : ℕ) (y : Colour) → is_default y ≡ false → tail (if t then [] else colour_words code ending y) ≤ own code y
added_fewer true code ending y h = omega arith
added_fewer false code ending y h = words_fewer code ending y h

own_some : (code : ℕ) (y : Colour) → code < 10000 → is_default y ≡ false → 1 ≤ own code y
own_some code Default p h = absurd (false≢true (sym h))
own_some code (Index n) p h =
    let a = length-append (code_text true code) (flat_map (code_text true) (5 ∷ n ∷ [])) in
    let b = code_least code p in
    omega (arith, a, b)
own_some code (Rgb r g b) p h =
    let more = 2 ∷ r ∷ g ∷ b ∷ [] in
    let c = length-append (spelling_of (csi None (code ∷ more) 0x6D)) [] in
    omega (arith, c, length-rendition code more)

ending_most : (n : ℕ) → n < 100 → tail (n ∷ []) ≤ 3
ending_most n p =
    let a = length-append (code_text true n) [] in
    let b = length-decimal-le 2 n (omega arith) p (omega (arith, p)) in
    omega (arith, a, b)

or_true : (b : Bool) → (b || true) ≡ true
or_true true = refl
or_true false = refl

-- a colour goes back to the default beside one that stays
beside : (n code ending : ℕ) (y : Colour) (t : Bool) → n < 100 → code < 10000 → is_default y ≡ false → (is_default y || not t) ≡ false
    → tail (n ∷ []) + tail (if t then [] else colour_words code ending y) ≤ 2 + own code y
beside n code ending y true p q h k = let a = ending_most n p in let b = own_some code y q h in omega (arith, a, b)
beside n code ending y false p q h k = absurd (false≢true (sym k ∙ or_true (is_default y)))

lone : (x y : Colour) (t : Bool) (n m code ending : ℕ) → n < 100 → code < 10000 → is_default y ≡ false
    → (not (is_default x) && (is_default y || not t)) ≡ false
    → tail (colour_added x Default m n) + tail (if t then [] else colour_words code ending y) ≤ 2 + own code y
lone Default y t n m code ending p q h k = let a = added_fewer t code ending y h in omega (arith, a)
lone (Index a) y t n m code ending p q h k = beside n code ending y t p q h k
lone (Rgb a b c) y t n m code ending p q h k = beside n code ending y t p q h k

-- no colour goes back if the other is the default afterwards
alone : (x : Colour) (t : Bool) (n m : ℕ) → (not (is_default x) && true) ≡ false → tail (colour_added x Default m n) ≡ 0
alone Default t n m k = refl
alone (Index a) t n m k = absurd (false≢true (sym k))
alone (Rgb a b c) t n m k = absurd (false≢true (sym k))

pair : (x1 y1 x2 y2 : Colour) (m1 n1 m2 n2 : ℕ) → n1 < 100 → n2 < 100 → m1 < 10000 → m2 < 10000
    → ends_alone x1 y1 x2 y2 ≡ false → ends_alone x2 y2 x1 y1 ≡ false
    → tail (colour_added x1 y1 m1 n1) + tail (colour_added x2 y2 m2 n2) ≤ 2 + (own m1 y1 + own m2 y2)
pair x1 Default x2 Default m1 n1 m2 n2 a b c d h k =
    let e = alone x1 true n1 m1 h in
    let f = alone x2 true n2 m2 k in
    omega (arith, e, f)
pair x1 Default x2 (Index j) m1 n1 m2 n2 a b c d h k =
    let e = lone x1 (Index j) (same_colour x2 (Index j)) n1 m1 m2 n2 a d refl h in
    omega (arith, e)
pair x1 Default x2 (Rgb r g z) m1 n1 m2 n2 a b c d h k =
    let e = lone x1 (Rgb r g z) (same_colour x2 (Rgb r g z)) n1 m1 m2 n2 a d refl h in
    omega (arith, e)
pair x1 (Index i) x2 Default m1 n1 m2 n2 a b c d h k =
    let e = lone x2 (Index i) (same_colour x1 (Index i)) n2 m2 m1 n1 b c refl k in
    omega (arith, e)
pair x1 (Rgb r g z) x2 Default m1 n1 m2 n2 a b c d h k =
    let e = lone x2 (Rgb r g z) (same_colour x1 (Rgb r g z)) n2 m2 m1 n1 b c refl k in
    omega (arith, e)
pair x1 (Index i) x2 (Index j) m1 n1 m2 n2 a b c d h k =
    let e = added_fewer (same_colour x1 (Index i)) m1 n1 (Index i) refl in
    let f = added_fewer (same_colour x2 (Index j)) m2 n2 (Index j) refl in
    omega (arith, e, f)
pair x1 (Index i) x2 (Rgb u v w) m1 n1 m2 n2 a b c d h k =
    let e = added_fewer (same_colour x1 (Index i)) m1 n1 (Index i) refl in
    let f = added_fewer (same_colour x2 (Rgb u v w)) m2 n2 (Rgb u v w) refl in
    omega (arith, e, f)
pair x1 (Rgb r g z) x2 (Index j) m1 n1 m2 n2 a b c d h k =
    let e = added_fewer (same_colour x1 (Rgb r g z)) m1 n1 (Rgb r g z) refl in
    let f = added_fewer (same_colour x2 (Index j)) m2 n2 (Index j) refl in
    omega (arith, e, f)
pair x1 (Rgb r g z) x2 (Rgb u v w) m1 n1 m2 n2 a b c d h k =
    let e = added_fewer (same_colour x1 (Rgb r g z)) m1 n1 (Rgb r g z) refl in
    let f = added_fewer (same_colour x2 (Rgb u v w)) m2 n2 (Rgb u v w) refl in
    omega (arith, e, f)

-- ---- a style

not_false : (b : Bool) → not b ≡ true → b ≡ false
not_false true h = absurd (false≢true h)
not_false false h = refl

-- the parameters of a style that is set whole, behind the first
abbrev flags : Style → List ℕ → List ℕ
flags s rest =
    flag_code s.bold 1 (flag_code s.faint 2 (flag_code s.italic 3 (flag_code s.underline 4 (flag_code s.blink 5 (flag_code s.reverse 7
    (flag_code s.conceal 8 (flag_code s.strike 9 rest)))))))

abbrev flags_changed : Style → Style → List ℕ
flags_changed g s =
    ((((((flag_added g.bold s.bold 1 ++ flag_added g.faint s.faint 2) ++ flag_added g.italic s.italic 3) ++ flag_added g.underline s.underline 4)
    ++ flag_added g.blink s.blink 5) ++ flag_added g.reverse s.reverse 7) ++ flag_added g.conceal s.conceal 8) ++ flag_added g.strike s.strike 9

flags_fewer : (g s : Style) (rest : List ℕ) → tail (flags_changed g s) + tail rest ≤ tail (flags s rest)
flags_fewer g s rest =
    let a8 = flag_code s.strike 9 rest in
    let a7 = flag_code s.conceal 8 a8 in
    let a6 = flag_code s.reverse 7 a7 in
    let a5 = flag_code s.blink 5 a6 in
    let a4 = flag_code s.underline 4 a5 in
    let a3 = flag_code s.italic 3 a4 in
    let a2 = flag_code s.faint 2 a3 in
    let f1 = flag_added g.bold s.bold 1 in
    let f2 = flag_added g.faint s.faint 2 in
    let f3 = flag_added g.italic s.italic 3 in
    let f4 = flag_added g.underline s.underline 4 in
    let f5 = flag_added g.blink s.blink 5 in
    let f6 = flag_added g.reverse s.reverse 7 in
    let f7 = flag_added g.conceal s.conceal 8 in
    let f8 = flag_added g.strike s.strike 9 in
    omega (
      arith,
      tail-append ((((((f1 ++ f2) ++ f3) ++ f4) ++ f5) ++ f6) ++ f7) f8,
      tail-append (((((f1 ++ f2) ++ f3) ++ f4) ++ f5) ++ f6) f7,
      tail-append ((((f1 ++ f2) ++ f3) ++ f4) ++ f5) f6,
      tail-append (((f1 ++ f2) ++ f3) ++ f4) f5,
      tail-append ((f1 ++ f2) ++ f3) f4,
      tail-append (f1 ++ f2) f3,
      tail-append f1 f2,
      flag_fewer g.strike s.strike 9 rest,
      flag_fewer g.conceal s.conceal 8 a8,
      flag_fewer g.reverse s.reverse 7 a7,
      flag_fewer g.blink s.blink 5 a6,
      flag_fewer g.underline s.underline 4 a5,
      flag_fewer g.italic s.italic 3 a4,
      flag_fewer g.faint s.faint 2 a3,
      flag_fewer g.bold s.bold 1 a2,
    )

-- the bytes of a style that is set whole
whole_most : (s : Style) (n : ℕ) → n ≤ tail (flags s (colour_codes 38 s.foreground (colour_codes 48 s.background [])))
    → 3 + n + length (flat_map spelling_of (set_mixture 38 s.foreground)) + length (flat_map spelling_of (set_mixture 48 s.background))
    < length (flat_map spelling_of (restyle s))
whole_most s n h =
    let front = set_mixture 38 s.foreground in
    let back = set_mixture 48 s.background in
    let codes = flags s (colour_codes 38 s.foreground (colour_codes 48 s.background [])) in
    let a = length-append (spelling_of (set_style s)) (flat_map spelling_of (front ++ back)) in
    let b = ap length (flat_map-append spelling_of front back) in
    let c = length-append (flat_map spelling_of front) (flat_map spelling_of back) in
    let zero_ = code_least 0 (omega arith) in
    omega (arith, a, b, c, length-rendition 0 codes, zero_, h)

codes_fewer : (g s : Style) (cs : List ℕ) → tail cs ≤ tail (flags_changed g s) + tail (colour_added g.foreground s.foreground 38 39) + tail (colour_added g.background s.background 48 49)
    → 0 < length cs → ends_alone g.foreground s.foreground g.background s.background ≡ false → ends_alone g.background s.background g.foreground s.foreground ≡ false
    → bytes (csi None cs 0x6D ∷ []) ≤ length (flat_map spelling_of (restyle s))
codes_fewer g s [] n some h k = absurd (omega (arith, some))
codes_fewer g s (p ∷ ps) n some h k =
    let back = colour_codes 48 s.background [] in
    let both = colour_codes 38 s.foreground back in
    let a = bytes-one (csi None (p ∷ ps) 0x6D) in
    let b = length-rendition p ps in
    let c = length-append (code_text true p) (flat_map (code_text true) ps) in
    let d = flags_fewer g s both in
    let e = colour_rest 38 s.foreground back in
    let f = pair g.foreground s.foreground g.background s.background 38 39 48 49 (omega arith) (omega arith) (omega arith) (omega arith) h k in
    let w = whole_most s (tail (flags s both)) (omega arith) in
    omega (arith, n, a, b, c, d, e, f, w)

changed_by : (g s : Style) (b : Bool) → adds g s ≡ b → bytes (if b then csi None (change_codes g s) 0x6D ∷ [] else restyle s) ≤ length (flat_map spelling_of (restyle s))
unfolding adds change_codes
changed_by g s false e = let a = ap length (restyle_text s) in omega (arith, a)
changed_by g s true e =
    let cs = change_codes g s in
    let fore = colour_added g.foreground s.foreground 38 39 in
    let back = colour_added g.background s.background 48 49 in
    let p = and_parts (not (ends_flag g s)) _ e in
    let q = and_parts (not (ends_alone g.foreground s.foreground g.background s.background)) _ p.1 in
    let r = and_parts (not (ends_alone g.background s.background g.foreground s.foreground)) _ q.1 in
    let l = and_parts (nat_lt 0 (length cs)) (nat_le (length cs) 16) r.1 in
    let a = tail-append (flags_changed g s ++ fore) back in
    let b = tail-append (flags_changed g s) fore in
    codes_fewer g s cs (omega (arith, a, b)) (ltb-true 0 (length cs) l.0) (not_false _ q.0) (not_false _ r.0)

styled_by : (g s : Style) (t : Bool) → bytes (if t then [] else changing g s) ≤ length (if t then [] else flat_map spelling_of (restyle s))
styled_by g s true = omega arith
styled_by g s false = changed_by g s (adds g s) refl

-- a style in place of another one
pub styled_fewer : (g s : Style) → bytes (styled_from g s) ≤ length (if same_style s g then [] else flat_map spelling_of (restyle s))
styled_fewer g s = styled_by g s (same_style s g)

-- and the default style behind the rows
pub default_fewer : (g s : Style) → bytes (styled_from g s) ≤ length (flat_map spelling_of (restyle s))
default_fewer g s = by (same_style s g)
  where
    by : (t : Bool) → bytes (if t then [] else changing g s) ≤ length (flat_map spelling_of (restyle s))
    by true = omega arith
    by false = changed_by g s (adds g s) refl
