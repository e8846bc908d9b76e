-- The text of a screen is read as the functions that paint it. As in roam_paint, whose lemmas on single functions it cites.
use Rattle.std.proofs.Common.{◌≡◌, ◌≤◌, ◌<◌, ℕ, zero, suc, ◌+◌, ◌-◌, Bool, true, false, not, ◌&&◌, List, [], ◌∷◌, ◌++◌, map, length, None, refl, sym, ap, ◌∙◌, arith, append_assoc}
use Rattle.std.specs.Prelude.{⊤, if◌then◌else◌, min, unwrap_or, nat_le, ◌==◌}
use Rattle.std.specs.List.{flat_map}
use Rattle.std.specs.Char.{encode_utf8}
use Rattle.std.specs.Str.{encode_utf8_all}
use Rattle.std.proofs.Math.Utf8.{scalar, scalars, low_scalar}
use Rattle.std.proofs.lemmas.Str.{encode_ascii}
use Rattle.std.proofs.lemmas.List.{append-nil, map-append}
use Rattle.std.proofs.lemmas.Bool.{and_parts, and_from, false≢true, eq-eqb}
use Rattle.unicode_width.specs.Width.{char_width}
use Rattle.roam_cells.specs.Width.{width_of, is_joiner, is_answer_zero}
use Rattle.roam_cells.specs.Glyph.{IsColour, default_style, is_text, are_joiners}
use Rattle.roam_screens.specs.Screenshot.{Screenshot, IsScreenshot}
use Rattle.roam_cells.specs.declared.styles.Style.{Style}
use Rattle.roam_cells.specs.declared.styles.Colour.{Colour}
use Rattle.roam_cells.specs.declared.styles.Colour.TheVariants.{Default, Index, Rgb}
use Rattle.roam_text.specs.declared.functions.Function.{Function}
use Rattle.roam_text.specs.declared.functions.Function.TheVariants.{Print}
use Rattle.roam_text.specs.Log.{Item, Byte, Sign, character, bytes_of, signs, unfinished_part}
use Rattle.roam_text.specs.Functions.{functions, functions_of}
use Rattle.roam_text.proofs.Fronts.{functions-nil, functions-step}
use Rattle.roam_term.specs.Terminal.{Live}
use Rattle.roam_term.specs.ControlFunctions.{flag_code, colour_codes, set_style, set_mixture, restyle, place_cursor, hide_cursor, show_cursor, erase_all}
use Rattle.roam_term.specs.Ground.{shown_at}
use Rattle.roam_text.specs.Resting.{AtRest}
use Rattle.roam_cells.specs.Same.{same_style}
use Rattle.roam_paint.specs.Sequences.{spelling_of}
use Rattle.roam_paint.specs.Painting.{Places, is_drawn, goes_on, placing, styling, drawn_cell, style_in, drawn_row, style_at, drawn_rows, same_size, differs, opening, closing, functions_between}
use Rattle.roam_text.proofs.Encoded.{signs-encoded, bytes-encoded}
use Rattle.roam_paint.proofs.Readings.{AreSmall, IsFinal, Legible, legible-plain, legible-private, legible-print}
use Rattle.roam_paint.proofs.Walk.{AreScalars, IsPaintable}
use Rattle.roam_paint.proofs.Whole.{paintable_shown}
use Rattle.roam_repaint.specs.Repainted.{IsRepaint, TextIsRead}
use Rattle.roam_repaint.specs.Repainting.{Repaint, designate_ascii, invoke_g0, wrap_off, cell_there, rewritten, finishing, other_screen, repainting_rest}

abbrev AllLegible : List Function → Type 0
AllLegible [] = ⊤
AllLegible (f ∷ fs) = Legible f × AllLegible fs

legible-append : (fs gs : List Function) → AllLegible fs → AllLegible gs → AllLegible (fs ++ gs)
legible-append [] gs h k = k
legible-append (f ∷ fs) gs h k = (h.0, legible-append fs gs h.1 k)

-- ---- each function

final-h : IsFinal 0x48
final-h = record { out = refl; ends = λ h rest. refl; ascii = omega arith }

final-j : IsFinal 0x4A
final-j = record { out = refl; ends = λ h rest. refl; ascii = omega arith }

final-m : IsFinal 0x6D
final-m = record { out = refl; ends = λ h rest. refl; ascii = omega arith }

final-on : IsFinal 0x68
final-on = record { out = refl; ends = λ h rest. refl; ascii = omega arith }

final-off : IsFinal 0x6C
final-off = record { out = refl; ends = λ h rest. refl; ascii = omega arith }

legible-go_to : (r c : ℕ) → r ≤ 9999 → c ≤ 9999 → Legible (place_cursor r c)
legible-go_to r c a b = legible-plain r (c ∷ []) 0x48 (a, (b, tt)) (omega arith) final-h

small-when : (b : Bool) (n : ℕ) (rest : List ℕ) → n ≤ 9999 → AreSmall rest → AreSmall (flag_code b n rest)
small-when true n rest h k = (h, k)
small-when false n rest h k = k

few-when : (b : Bool) (n : ℕ) (rest : List ℕ) → length (flag_code b n rest) ≤ length rest + 1
few-when true n rest = omega arith
few-when false n rest = omega arith

small-colour : (n : ℕ) (x : Colour) (rest : List ℕ) → n ≤ 9999 → IsColour x → AreSmall rest → AreSmall (colour_codes n x rest)
small-colour n Default rest h k l = l
small-colour n (Index c) rest h k l = (h, (omega arith, (omega (arith, k), l)))
small-colour n (Rgb r g b) rest h k l = l

few-colour : (n : ℕ) (x : Colour) (rest : List ℕ) → length (colour_codes n x rest) ≤ length rest + 3
few-colour n Default rest = omega arith
few-colour n (Index c) rest = omega arith
few-colour n (Rgb r g b) rest = omega arith

legible-mixture : (n : ℕ) (x : Colour) → n ≤ 9999 → IsColour x → AllLegible (set_mixture n x)
legible-mixture n Default h k = tt
legible-mixture n (Index c) h k = tt
legible-mixture n (Rgb r g b) h k =
    (legible-plain n (2 ∷ r ∷ g ∷ b ∷ []) 0x6D (h, (omega arith, (omega (arith, k.0), (omega (arith, k.1), (omega (arith, k.2), tt))))) (omega arith) final-m, tt)

legible-restyle : (s : Style) → IsColour s.foreground → IsColour s.background → Legible (set_style s)
legible-restyle s fore back =
    let k = colour_codes 48 s.background [] in
    let j = colour_codes 38 s.foreground k in
    let a = flag_code s.strike 9 j in
    let b = flag_code s.conceal 8 a in
    let c = flag_code s.reverse 7 b in
    let d = flag_code s.blink 5 c in
    let e = flag_code s.underline 4 d in
    let f = flag_code s.italic 3 e in
    let g = flag_code s.faint 2 f in
    let h = flag_code s.bold 1 g in
    legible-plain 0 h 0x6D (
      omega arith,
      small-when s.bold 1 g (omega arith) (small-when s.faint 2 f (omega arith) (small-when s.italic 3 e (omega arith) (small-when s.underline 4 d (omega arith)
          (small-when s.blink 5 c (omega arith) (small-when s.reverse 7 b (omega arith) (small-when s.conceal 8 a (omega arith) (small-when s.strike 9 j (omega arith)
          (small-colour 38 s.foreground k (omega arith) fore (small-colour 48 s.background [] (omega arith) back tt))))))))),
    )
    (omega (arith, few-when s.bold 1 g, few-when s.faint 2 f, few-when s.italic 3 e, few-when s.underline 4 d, few-when s.blink 5 c, few-when s.reverse 7 b, few-when s.conceal 8 a, few-when s.strike 9 j, few-colour 38 s.foreground k, few-colour 48 s.background []))
    final-m

joiner-columns : (c : ℕ) → is_joiner c ≡ true → char_width false c ≡ None → ⊥
joiner-columns c h e = false≢true (sym (ap is_answer_zero e) ∙ h)

base-columns : (c : ℕ) → not (width_of c == 0) ≡ true → char_width false c ≡ None → ⊥
base-columns c h e = let none : width_of c ≡ 0 = ap (λ w. min (unwrap_or w 0) 2) e in false≢true (sym (ap not (eq-eqb (width_of c) 0 none)) ∙ h)

legible-joiners : (js : List ℕ) → are_joiners js ≡ true → AreScalars js → AllLegible (map Print js)
legible-joiners [] h k = tt
legible-joiners (c ∷ cs) h k = let parts = and_parts (is_joiner c) (are_joiners cs) h in (legible-print c (joiner-columns c parts.0) k.0, legible-joiners cs parts.1 k.1)

legible-points : (ps : List ℕ) → is_text ps ≡ true → AreScalars ps → AllLegible (map Print ps)
legible-points [] h k = tt
legible-points (c ∷ js) h k =
    let first = and_parts (not (width_of c == 0) && are_joiners js) (nat_le (length js) 2) h in
    let second = and_parts (not (width_of c == 0)) (are_joiners js) first.0 in
    (legible-print c (base-columns c second.0) k.0, legible-joiners js second.1 k.1)

-- ---- all of them

module _ (prows pcols : ℕ) (d : ℕ → ℕ → Bool) (new : Places) (tall : prows ≤ 9999) (broad : pcols ≤ 9999)
    (paintable : (r c : ℕ) → r < prows → c < pcols → IsPaintable (new r c)) where
  legible-placing : (r c : ℕ) → r < prows → c < pcols → (b : Bool) → AllLegible (if b then [] else place_cursor (r + 1) (c + 1) ∷ [])
  legible-placing r c p q true = tt
  legible-placing r c p q false = (legible-go_to (r + 1) (c + 1) (omega (arith, p, tall)) (omega (arith, q, broad)), tt)

  legible-styling : (s : Style) → IsColour s.foreground → IsColour s.background → (b : Bool) → AllLegible (if b then [] else restyle s)
  legible-styling s h k true = tt
  legible-styling s h k false = (
    legible-restyle s h k,
    legible-append (set_mixture 38 s.foreground) (set_mixture 48 s.background) (legible-mixture 38 s.foreground (omega arith) h) (legible-mixture 48 s.background (omega arith) k),
  )

  legible-if : (fs : List Function) (b : Bool) → AllLegible fs → AllLegible (if b then fs else [])
  legible-if fs true h = h
  legible-if fs false h = tt

  legible-cell : (r c : ℕ) (g : Style) → r < prows → c < pcols → AllLegible (drawn_cell d new r c g)
  unfolding drawn_cell
  legible-cell r c g p q =
      let cell = paintable r c p q in
      legible-if (placing d r c ++ (styling (new r c).style g ++ map Print (new r c).points)) (is_drawn d new r c)
      (legible-append (placing d r c) (styling (new r c).style g ++ map Print (new r c).points) (legible-placing r c p q (goes_on d r c))
      (legible-append (styling (new r c).style g) (map Print (new r c).points) (legible-styling (new r c).style cell.foreground cell.background (same_style (new r c).style g))
      (legible-points (new r c).points cell.text cell.scalars)))

  legible-row : (r k : ℕ) (g : Style) → r < prows → k ≤ pcols → AllLegible (drawn_row d new r g k)
  legible-row r zero g p q = tt
  legible-row r (suc k) g p q =
      legible-append (drawn_row d new r g k) (drawn_cell d new r k (style_in d new r g k)) (legible-row r k g p (omega (arith, q))) (legible-cell r k (style_in d new r g k) p (omega (arith, q)))

  legible-rows : (n : ℕ) → n ≤ prows → AllLegible (drawn_rows d new pcols n)
  legible-rows zero p = tt
  legible-rows (suc n) p =
      legible-append (drawn_rows d new pcols n) (drawn_row d new n (style_at d new pcols n) pcols) (legible-rows n (omega (arith, p)))
      (legible-row n pcols (style_at d new pcols n) (omega (arith, p)) (omega arith))

legible-opening : (b : Bool) → AllLegible (hide_cursor ∷ (if b then [] else erase_all ∷ []))
legible-opening true = (legible-private 25 [] 0x6C (omega arith, tt) (omega arith) final-off, tt)
legible-opening false = (legible-private 25 [] 0x6C (omega arith, tt) (omega arith) final-off, (legible-plain 2 [] 0x4A (omega arith, tt) (omega arith) final-j, tt))

legible-closing : (row col : ℕ) → row ≤ 9999 → col ≤ 9999 → (b : Bool) → AllLegible (set_style default_style ∷ place_cursor row col ∷ (if b then show_cursor ∷ [] else []))
legible-closing row col p q true =
    (legible-restyle default_style tt tt, (legible-go_to row col p q, (legible-private 25 [] 0x68 (omega arith, tt) (omega arith) final-on, tt)))
legible-closing row col p q false = (legible-restyle default_style tt tt, (legible-go_to row col p q, tt))

legible-drawn : (old new : Screenshot) → IsScreenshot new → AllLegible (functions_between old new)
unfolding functions_between
legible-drawn old new h =
    let row = h.cursor.row_to in
    let col = h.cursor.col_to in
    let rows = h.size.most_rows in
    let cols = h.size.most_columns in
    let body = drawn_rows (differs old new) (shown_at new) new.cols new.rows in
    legible-append (opening old new) (body ++ closing new) (legible-opening (same_size old new))
    (legible-append body (closing new)
    (legible-rows new.rows new.cols (differs old new) (shown_at new) (omega (arith, rows)) (omega (arith, cols)) (paintable_shown new h) new.rows (omega arith))
    (legible-closing new.cursor_row new.cursor_col (omega (arith, row, rows)) (omega (arith, col, cols)) new.visible))

-- ---- the text of all

encoded-append : (xs ys : List ℕ) → encode_utf8_all (xs ++ ys) ≡ encode_utf8_all xs ++ encode_utf8_all ys
encoded-append [] ys = refl
encoded-append (x ∷ xs) ys = ap (λ l. encode_utf8 x ++ l) (encoded-append xs ys) ∙ sym (append_assoc (encode_utf8 x) (encode_utf8_all xs) (encode_utf8_all ys))

scalars-append : (xs ys : List ℕ) → scalars xs ≡ true → scalars ys ≡ true → scalars (xs ++ ys) ≡ true
scalars-append [] ys h k = k
scalars-append (x ∷ xs) ys h k = let parts = and_parts (scalar x) (scalars xs) h in and_from (scalar x) (scalars (xs ++ ys)) parts.0 (scalars-append xs ys parts.1 k)

record Spells (fs : List Function) : Type 0 where
  letters : List ℕ
  good : scalars letters ≡ true
  bytes : flat_map spelling_of fs ≡ encode_utf8_all letters
  gives : (rest : List Sign) → functions (map character letters ++ rest) ≡ fs ++ functions rest

spells : (fs : List Function) → AllLegible fs → Spells fs
spells [] h = record { letters = []; good = refl; bytes = refl; gives = λ rest. refl }
spells (f ∷ fs) h =
    let one = h.0 in
    let more = spells fs h.1 in
    record {
      letters = one.letters ++ more.letters;
      good = scalars-append one.letters more.letters one.good more.good;
      bytes = ap (λ l. l ++ flat_map spelling_of fs) one.bytes ∙ ap (λ l. encode_utf8_all one.letters ++ l) more.bytes ∙ sym (encoded-append one.letters more.letters);
      gives = λ rest.
          ap (λ l. functions (l ++ rest)) (map-append character one.letters more.letters)
          ∙ ap functions (append_assoc (map character one.letters) (map character more.letters) rest)
          ∙ one.gives (map character more.letters ++ rest)
          ∙ ap (λ l. f ∷ l) (more.gives rest);
    }

-- ---- the functions of a repaint

final-r : IsFinal 0x72
final-r = record { out = refl; ends = λ h rest. refl; ascii = omega arith }

legible-whole : (s : Style) → IsColour s.foreground → IsColour s.background → AllLegible (restyle s)
legible-whole s h k = (
  legible-restyle s h k,
  legible-append (set_mixture 38 s.foreground) (set_mixture 48 s.background) (legible-mixture 38 s.foreground (omega arith) h)
      (legible-mixture 48 s.background (omega arith) k),
)

legible-again : (s : Screenshot) (r c : ℕ) → IsScreenshot s → r < s.rows → c < s.cols → (b : Bool)
    → AllLegible (if b then rewritten (shown_at s r c) else [])
legible-again s r c h p q true =
    let cell = paintable_shown s h r c p q in
    legible-append (restyle (shown_at s r c).style) (map Print (shown_at s r c).points)
    (legible-whole (shown_at s r c).style cell.foreground cell.background) (legible-points (shown_at s r c).points cell.text cell.scalars)
legible-again s r c h p q false = tt

legible-wraps : (b : Bool) → AllLegible (if b then [] else wrap_off ∷ [])
legible-wraps true = tt
legible-wraps false = (legible-private 7 [] 0x6C (omega arith, tt) (omega arith) final-off, tt)

legible-repaint : (t : Live) (r : Repaint) → IsRepaint t r → AllLegible (repainting_rest r)
unfolding repainting_rest
legible-repaint t r is =
    let s = r.shot in
    let row_to = is.shot.cursor.row_to in
    let row_from = is.shot.cursor.row_from in
    let col_to = is.shot.cursor.col_to in
    let col_from = is.shot.cursor.col_from in (
      legible-private 7 [] 0x68 (omega arith, tt) (omega arith) final-on,
      (
        legible-plain 0 [] 0x72 (omega arith, tt) (omega arith) final-r,
        (
          legible-restyle default_style tt tt,
          legible-append (functions_between (other_screen s) s) (finishing r) (legible-drawn (other_screen s) s is.shot)
              (legible-append (if r.pending then rewritten (cell_there s) else []) (restyle r.style ++ (if r.wraps then [] else wrap_off ∷ []))
              (legible-again s (s.cursor_row - 1) (s.cursor_col - 1) is.shot (omega (arith, row_to, row_from)) (omega (arith, col_to, col_from)) r.pending)
              (legible-append (restyle r.style) (if r.wraps then [] else wrap_off ∷ []) (legible-whole r.style is.style.foreground is.style.background)
              (legible-wraps r.wraps))),
        ),
      ),
    )

-- ---- after a log

module _ (log : List Item) (fs : List Function) (rest : AtRest log) (legible : AllLegible fs) where
  abbrev all : Spells fs
  all = spells fs legible

  abbrev letters : List ℕ
  letters = 0x1B ∷ 0x28 ∷ 0x42 ∷ 0x0F ∷ all.letters

  abbrev later : List Item
  later = log ++ map Byte (0x1B ∷ 0x28 ∷ 0x42 ∷ 0x0F ∷ flat_map spelling_of fs)

  good : scalars letters ≡ true
  good =
      ap (λ t. t && scalars (0x28 ∷ 0x42 ∷ 0x0F ∷ all.letters)) (low_scalar 0x1B (omega arith))
      ∙ ap (λ t. t && scalars (0x42 ∷ 0x0F ∷ all.letters)) (low_scalar 0x28 (omega arith))
      ∙ ap (λ t. t && scalars (0x0F ∷ all.letters)) (low_scalar 0x42 (omega arith))
      ∙ ap (λ t. t && scalars all.letters) (low_scalar 0x0F (omega arith)) ∙ all.good

  later_is : later ≡ log ++ map Byte (encode_utf8_all letters)
  later_is =
      ap (λ l. log ++ map Byte (0x1B ∷ 0x28 ∷ 0x42 ∷ 0x0F ∷ l)) all.bytes
      ∙ ap (λ l. log ++ map Byte (0x1B ∷ 0x28 ∷ 0x42 ∷ (l ++ encode_utf8_all all.letters))) (sym (encode_ascii 0x0F (omega arith)))
      ∙ ap (λ l. log ++ map Byte (0x1B ∷ 0x28 ∷ (l ++ encode_utf8_all (0x0F ∷ all.letters)))) (sym (encode_ascii 0x42 (omega arith)))
      ∙ ap (λ l. log ++ map Byte (0x1B ∷ (l ++ encode_utf8_all (0x42 ∷ 0x0F ∷ all.letters)))) (sym (encode_ascii 0x28 (omega arith)))
      ∙ ap (λ l. log ++ map Byte (l ++ encode_utf8_all (0x28 ∷ 0x42 ∷ 0x0F ∷ all.letters))) (sym (encode_ascii 0x1B (omega arith)))

  signs_are : signs later ≡ signs log ++ map character letters
  signs_are = ap signs later_is ∙ signs-encoded log letters rest.whole good

  after_all : (more : List Sign) → functions (signs later ++ more) ≡ (functions (signs log) ++ designate_ascii ∷ invoke_g0 ∷ fs) ++ functions more
  after_all more =
      ap (λ l. functions (l ++ more)) signs_are
      ∙ ap functions (append_assoc (signs log) (map character letters) more)
      ∙ rest.to_come (map character letters ++ more)
      ∙ ap (λ l. functions (signs log) ++ l)
      (functions-step (character 0x1B) (character 0x28 ∷ character 0x42 ∷ character 0x0F ∷ (map character all.letters ++ more))
      ∙ ap (λ l. designate_ascii ∷ l)
      (functions-step (character 0x0F) (map character all.letters ++ more) ∙ ap (λ l. invoke_g0 ∷ l) (all.gives more)))
      ∙ sym (append_assoc (functions (signs log)) (designate_ascii ∷ invoke_g0 ∷ fs) (functions more))

  -- the text of functions behind the designation and SI is read as those functions
  reads : functions_of later ≡ functions_of log ++ designate_ascii ∷ invoke_g0 ∷ fs
  reads =
      ap functions (sym (append-nil (signs later))) ∙ after_all [] ∙ ap (λ l. (functions (signs log) ++ designate_ascii ∷ invoke_g0 ∷ fs) ++ l) functions-nil
      ∙ append-nil (functions (signs log) ++ designate_ascii ∷ invoke_g0 ∷ fs)

  -- and the reader is at rest again
  rests : AtRest later
  rests = record {
    whole = ap (λ l. unfinished_part (bytes_of l)) later_is ∙ bytes-encoded log letters rest.whole good;
    to_come = λ more. after_all more ∙ sym (ap (λ l. l ++ functions more) reads);
  }

pub text_is_read : TextIsRead
text_is_read t log r is rest = record {
  functions = reads log (repainting_rest r) rest (legible-repaint t r is);
  rests = rests log (repainting_rest r) rest (legible-repaint t r is);
}
