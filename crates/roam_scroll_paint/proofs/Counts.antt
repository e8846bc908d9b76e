-- How long texts are at least.
use Rattle.std.proofs.Common.{◌≡◌, ◌≤◌, ◌<◌, ℕ, ◌+◌, ◌%◌, ◌^◌, Bool, true, false, List, [], ◌∷◌, ◌++◌, length, None, refl, ap, arith}
use Rattle.std.specs.Prelude.{decimal, nat_lt, if◌then◌else◌}
use Rattle.std.proofs.lemmas.Bool.{ltb-false}
use Rattle.std.proofs.lemmas.Grind.{flat_map-append}
use Rattle.roam_cells.specs.Glyph.{Glyph, IsColour}
use Rattle.std.specs.List.{flat_map}
use Rattle.std.specs.Char.{encode_utf8}
use Rattle.std.proofs.lemmas.List.{length-append}
use Rattle.std.proofs.lemmas.Fmt.{decimal_by_steps}
use Rattle.roam_cells.specs.declared.styles.Style.{Style}
use Rattle.roam_cells.specs.declared.styles.Colour.{Colour}
use Rattle.roam_cells.specs.declared.styles.Colour.TheVariants.{Default, Index, Rgb}
use Rattle.roam_term.specs.ControlFunctions.{csi, flag_code, colour_codes, place_cursor, set_style, set_mixture, restyle}
use Rattle.roam_paint.specs.Sequences.{spelling_of, parameter_text}
use Rattle.roam_paint.specs.Texts.{code_text, cell_text}
use Rattle.roam_scroll_paint.proofs.Spelled.{joined-tail}
use Rattle.roam_scroll_paint.specs.Counting.{digits_of, move_size, flag_size, colour_size, mixture_size, flags_size, style_size}

-- ---- numbers

record IsLong (n : ℕ) (ds : List ℕ) : Type 0 where
  one : 1 ≤ length ds
  two : 10 ≤ n → 2 ≤ length ds
  three : 100 ≤ n → 3 ≤ length ds

pub longer : (ds : List ℕ) (d : ℕ) → length (ds ++ d ∷ []) ≡ length ds + 1
longer ds d = length-append ds (d ∷ [])

are_long : (n : ℕ) → n < 2 ^ 64 → IsLong n (decimal n)
are_long n h = decimal_by_steps (λ n ds. IsLong n ds)
    (λ n k. record { one = omega arith; two = λ p. absurd (omega (arith, p, k)); three = λ p. absurd (omega (arith, p, k)) })
    (λ n ds k e.
    let one = e.one in
    let l = longer ds (48 + n % 10) in
    record {
      one = omega (arith, l);
      two = λ p. omega (arith, l, one);
      three = λ p. let two = e.two (omega (arith, p)) in omega (arith, l, two);
    }) n h

by_size : (n l : ℕ) (a b : Bool) → nat_lt n 10 ≡ a → nat_lt n 100 ≡ b → 1 ≤ l → (10 ≤ n → 2 ≤ l) → (100 ≤ n → 3 ≤ l)
    → (if a then 1 else (if b then 2 else 3)) ≤ l
by_size n l true b e f one two three = one
by_size n l false true e f one two three = two (ltb-false n 10 e)
by_size n l false false e f one two three = three (ltb-false n 100 f)

pub digits_least : (n : ℕ) → n < 10000 → digits_of n ≤ length (decimal n)
digits_least n h =
    let long = are_long n (omega (arith, h)) in
    by_size n (length (decimal n)) (nat_lt n 10) (nat_lt n 100) refl refl long.one long.two long.three

-- ---- CUP

pub length-place_cursor : (r c : ℕ) → length (spelling_of (place_cursor r c)) ≡ 4 + length (decimal r) + length (decimal c)
length-place_cursor r c =
    let a = length-append (decimal r ++ 0x3B ∷ decimal c) (0x48 ∷ []) in
    let b = length-append (decimal r) (0x3B ∷ decimal c) in
    omega (arith, a, b)

pub move_least : (r c : ℕ) → r < 1000 → c < 1000 → move_size r c ≤ length (spelling_of (place_cursor (r + 1) (c + 1)))
move_least r c p q =
    let a = digits_least (r + 1) (omega (arith, p)) in
    let b = digits_least (c + 1) (omega (arith, q)) in
    omega (arith, length-place_cursor (r + 1) (c + 1), a, b)

-- ---- SGR

-- parameters behind the first
abbrev pub tail : List ℕ → ℕ
tail ps = length (flat_map (code_text true) ps)

-- a sequence of these parameters
pub length-rendition : (p : ℕ) (ps : List ℕ) → length (spelling_of (csi None (p ∷ ps) 0x6D)) ≡ 3 + length (decimal p) + tail ps
length-rendition p ps =
    let a = length-append (parameter_text (p ∷ ps)) (0x6D ∷ []) in
    let b = ap length (joined-tail p ps) in
    let c = length-append (decimal p) (flat_map (code_text true) ps) in
    omega (arith, a, b, c)

pub code_least : (code : ℕ) → code < 10000 → 2 ≤ length (code_text true code)
code_least code h = let one = (are_long code (omega (arith, h))).one in omega (arith, one)

flag_more : (b : Bool) (n : ℕ) (rest : List ℕ) → n < 10000 → flag_size b + tail rest ≤ tail (flag_code b n rest)
flag_more true n rest h = omega (arith, length-append (code_text true n) (flat_map (code_text true) rest), code_least n h)
flag_more false n rest h = omega arith

colour_more : (code : ℕ) (x : Colour) (rest : List ℕ) → 10 ≤ code → code < 10000 → IsColour x → colour_size x + tail rest ≤ tail (colour_codes code x rest)
colour_more code Default rest low high h = omega arith
colour_more code (Index n) rest low high h =
    let more = flat_map (code_text true) rest in
    let a = length-append (code_text true code) (code_text true 5 ++ (code_text true n ++ more)) in
    let b = length-append (code_text true 5) (code_text true n ++ more) in
    let c = length-append (code_text true n) more in
    let two = (are_long code (omega (arith, high))).two low in
    let one = (are_long 5 (omega arith)).one in
    let d = digits_least n (omega (arith, h)) in
    omega (arith, a, b, c, two, one, d)
colour_more code (Rgb r g b) rest low high h = omega arith

mixture_least : (code : ℕ) (x : Colour) → 10 ≤ code → code < 10000 → IsColour x → mixture_size x ≤ length (flat_map spelling_of (set_mixture code x))
mixture_least code Default low high h = omega arith
mixture_least code (Index n) low high h = omega arith
mixture_least code (Rgb r g b) low high h =
    let two = (are_long code (omega (arith, high))).two low in
    let one = (are_long 2 (omega arith)).one in
    let x = digits_least r (omega (arith, h.0)) in
    let y = digits_least g (omega (arith, h.1)) in
    let z = digits_least b (omega (arith, h.2)) in
    let all = length-rendition code (2 ∷ r ∷ g ∷ b ∷ []) in
    let l = length-append (spelling_of (csi None (code ∷ 2 ∷ r ∷ g ∷ b ∷ []) 0x6D)) [] in
    let d = length-append (code_text true 2) (code_text true r ++ (code_text true g ++ (code_text true b ++ []))) in
    let e = length-append (code_text true r) (code_text true g ++ (code_text true b ++ [])) in
    let f = length-append (code_text true g) (code_text true b ++ []) in
    let k = length-append (code_text true b) [] in
    omega (arith, all, l, d, e, f, k, two, one, x, y, z)

pub set_least : (s : Style) → IsColour s.foreground → IsColour s.background
    → 4 + flags_size s + colour_size s.foreground + colour_size s.background ≤ length (spelling_of (set_style s))
unfolding flags_size
set_least s fore back =
    let k = colour_codes 48 s.background [] in
    let j = colour_codes 38 s.foreground k in
    let a = flag_code s.strike 9 j in
    let b = flag_code s.conceal 8 a in
    let c = flag_code s.reverse 7 b in
    let d = flag_code s.blink 5 c in
    let e = flag_code s.underline 4 d in
    let f = flag_code s.italic 3 e in
    let g = flag_code s.faint 2 f in
    let h = flag_code s.bold 1 g in
    let zero_ = (are_long 0 (omega arith)).one in
    omega (
      arith,
      zero_,
      length-rendition 0 h,
      flag_more s.bold 1 g (omega arith),
      flag_more s.faint 2 f (omega arith),
      flag_more s.italic 3 e (omega arith),
      flag_more s.underline 4 d (omega arith),
      flag_more s.blink 5 c (omega arith),
      flag_more s.reverse 7 b (omega arith),
      flag_more s.conceal 8 a (omega arith),
      flag_more s.strike 9 j (omega arith),
      colour_more 38 s.foreground k (omega arith) (omega arith) fore,
      colour_more 48 s.background [] (omega arith) (omega arith) back,
    )

pub style_least : (s : Style) → IsColour s.foreground → IsColour s.background → style_size s ≤ length (flat_map spelling_of (restyle s))
unfolding style_size
style_least s fore back =
    let a = length-append (spelling_of (set_style s)) (flat_map spelling_of (set_mixture 38 s.foreground ++ set_mixture 48 s.background)) in
    let b = ap length (flat_map-append spelling_of (set_mixture 38 s.foreground) (set_mixture 48 s.background)) in
    let c = length-append (flat_map spelling_of (set_mixture 38 s.foreground)) (flat_map spelling_of (set_mixture 48 s.background)) in
    omega (arith, a, b, c, set_least s fore back, mixture_least 38 s.foreground (omega arith) (omega arith) fore, mixture_least 48 s.background (omega arith) (omega arith) back)

-- ---- a cell

pub cell_least : (stays same : Bool) (r c bytes place style : ℕ) (x : Glyph) → bytes ≤ length (flat_map encode_utf8 x.points)
    → place ≤ length (if stays then [] else spelling_of (place_cursor (r + 1) (c + 1)))
    → style ≤ length (if same then [] else flat_map spelling_of (restyle x.style))
    → bytes + place + style ≤ length (cell_text stays same r c x)
cell_least stays same r c bytes place style x p q s =
    let a = if stays then [] else spelling_of (place_cursor (r + 1) (c + 1)) in
    let b = if same then [] else flat_map spelling_of (restyle x.style) in
    let d = flat_map encode_utf8 x.points in
    omega (arith, length-append a (b ++ d), length-append b d, p, q, s)
