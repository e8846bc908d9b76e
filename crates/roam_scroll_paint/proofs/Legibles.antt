-- Each function of a painting is read as it is spelled.
use Rattle.std.proofs.Common.{◌≡◌, ◌≤◌, ◌<◌, ℕ, zero, suc, ◌+◌, ◌-◌, Bool, true, false, not, ◌&&◌, List, [], ◌∷◌, ◌++◌, map, length, replicate, Option, Some, None, refl, sym, ap, ◌∙◌, subst, arith}
use Rattle.std.specs.Prelude.{if◌then◌else◌, min, unwrap_or, nat_le, nat_lt, ◌==◌}
use Rattle.std.proofs.lemmas.Bool.{and_parts, false≢true, eq-eqb, ne_eqb, leb-true}
use Rattle.unicode_width.specs.Width.{char_width}
use Rattle.roam_cells.specs.Width.{width_of, is_joiner, is_answer_zero}
use Rattle.roam_cells.specs.Glyph.{IsColour, default_style, is_text, are_joiners}
use Rattle.roam_cells.specs.Same.{same_colour, same_style}
use Rattle.roam_cells.specs.declared.styles.Style.{Style}
use Rattle.roam_cells.specs.declared.styles.Colour.{Colour}
use Rattle.roam_cells.specs.declared.styles.Colour.TheVariants.{Default, Index, Rgb}
use Rattle.roam_text.specs.declared.functions.Function.{Function}
use Rattle.roam_text.specs.declared.functions.Function.TheVariants.{Print}
use Rattle.roam_term.specs.ControlFunctions.{csi, flag_code, colour_codes, set_style, set_mixture, restyle, place_cursor, hide_cursor, show_cursor, erase_all}
use Rattle.roam_paint.specs.Painting.{Places, is_drawn, goes_on, style_in}
use Rattle.roam_paint.specs.Sequences.{spelling_of}
use Rattle.roam_paint.proofs.Readings.{AreSmall, IsFinal, legible-plain, legible-private, legible-print}
use Rattle.roam_paint.proofs.Walk.{AreScalars, IsPaintable}
use Rattle.roam_scroll_paint.specs.declared.bands.Band.{Band}
use Rattle.roam_scroll_paint.specs.Bands.{IsBand, FitsBand, set_margins, reset_margins, to_row, line_feed, reverse_index, steps, moves_band, preparing}
use Rattle.roam_scroll_paint.specs.Rows.{Marks, is_marked, placing_at, written_cell, written_row, doubt_in, erase_line, ends_at, erasing_from, row_functions, AreDrawn, nothing, stays, written}
use Rattle.roam_scroll_paint.specs.Styles.{flag_added, colour_words, change_codes, adds, changing, styled_from}
use Rattle.roam_scroll_paint.proofs.Changes.{adds-few}
use Rattle.roam_scroll_paint.specs.Painting.{hiding, revealing}
use Rattle.roam_scroll_paint.proofs.Readings.{IsRead, as_legible, AreRead, IsBlind, IsPlain, ArePlain, plain-append, blind-print, blind-style, blind-place, blind-margins, blind-erase_line, blind-erase_all, blind-line_feed, blind-reverse_index, read-line_feed, read-reverse_index, read-erase_line, read-reset_margins}

-- ---- each function

plain : {f : Function} → IsRead f → IsBlind f → IsPlain f
plain h k = record { read = h; blind = k }

final-h : IsFinal 0x48
final-h = record { out = refl; ends = λ h rest. refl; ascii = omega arith }

final-j : IsFinal 0x4A
final-j = record { out = refl; ends = λ h rest. refl; ascii = omega arith }

final-m : IsFinal 0x6D
final-m = record { out = refl; ends = λ h rest. refl; ascii = omega arith }

final-r : IsFinal 0x72
final-r = record { out = refl; ends = λ h rest. refl; ascii = omega arith }

final-on : IsFinal 0x68
final-on = record { out = refl; ends = λ h rest. refl; ascii = omega arith }

final-off : IsFinal 0x6C
final-off = record { out = refl; ends = λ h rest. refl; ascii = omega arith }

plain-place_cursor : (r c : ℕ) → r ≤ 9999 → c ≤ 9999 → IsPlain (place_cursor r c)
plain-place_cursor r c a b = plain (as_legible (place_cursor r c) refl (legible-plain r (c ∷ []) 0x48 (a, (b, tt)) (omega arith) final-h)) (blind-place (r ∷ c ∷ []))

plain-to_row : (r : ℕ) → r + 1 ≤ 9999 → IsPlain (to_row (r + 1))
plain-to_row r a =
    plain (as_legible (to_row (r + 1)) (ap (λ b. if b then 0x1B ∷ 0x5B ∷ 0x48 ∷ [] else spelling_of (to_row (r + 1))) (ne_eqb (r + 1) 0 (λ e. absurd (omega (arith, e)))))
    (legible-plain (r + 1) [] 0x48 (a, tt) (omega arith) final-h)) (blind-place ((r + 1) ∷ []))

plain-set_margins : (top bottom : ℕ) → top ≤ 9999 → bottom ≤ 9999 → IsPlain (set_margins top bottom)
plain-set_margins top bottom a b =
    plain (as_legible (set_margins top bottom) refl (legible-plain top (bottom ∷ []) 0x72 (a, (b, tt)) (omega arith) final-r)) (blind-margins (top ∷ bottom ∷ []))

plain-placing_at : (r c : ℕ) → r < 9999 → c < 9999 → IsPlain (placing_at r c)
plain-placing_at r c a b =
    let at : (t : Bool) → IsPlain (if t then to_row (r + 1) else place_cursor (r + 1) (c + 1)) =
    λ t. elim t as (λ t. IsPlain (if t then to_row (r + 1) else place_cursor (r + 1) (c + 1))) [
      | true ↦ plain-to_row r (omega (arith, a))
      | false ↦ plain-place_cursor (r + 1) (c + 1) (omega (arith, a)) (omega (arith, b))
    ] in
    at (c == 0)

read-hide_cursor : IsRead hide_cursor
read-hide_cursor = as_legible hide_cursor refl (legible-private 25 [] 0x6C (omega arith, tt) (omega arith) final-off)

read-show_cursor : IsRead show_cursor
read-show_cursor = as_legible show_cursor refl (legible-private 25 [] 0x68 (omega arith, tt) (omega arith) final-on)

plain-erase_all : IsPlain erase_all
plain-erase_all = plain (as_legible erase_all refl (legible-plain 2 [] 0x4A (omega arith, tt) (omega arith) final-j)) blind-erase_all

-- ---- styles

small-when : (b : Bool) (n : ℕ) (rest : List ℕ) → n ≤ 9999 → AreSmall rest → AreSmall (flag_code b n rest)
small-when true n rest h k = (h, k)
small-when false n rest h k = k

few-when : (b : Bool) (n : ℕ) (rest : List ℕ) → length (flag_code b n rest) ≤ length rest + 1
few-when true n rest = omega arith
few-when false n rest = omega arith

small-colour : (n : ℕ) (x : Colour) (rest : List ℕ) → n ≤ 9999 → IsColour x → AreSmall rest → AreSmall (colour_codes n x rest)
small-colour n Default rest h k l = l
small-colour n (Index c) rest h k l = (h, (omega arith, (omega (arith, k), l)))
small-colour n (Rgb r g b) rest h k l = l

few-colour : (n : ℕ) (x : Colour) (rest : List ℕ) → length (colour_codes n x rest) ≤ length rest + 3
few-colour n Default rest = omega arith
few-colour n (Index c) rest = omega arith
few-colour n (Rgb r g b) rest = omega arith

plain-mixture : (n : ℕ) (x : Colour) → n ≤ 9999 → IsColour x → ArePlain (set_mixture n x)
plain-mixture n Default h k = tt
plain-mixture n (Index c) h k = tt
plain-mixture n (Rgb r g b) h k =
    (plain (as_legible _ refl (legible-plain n (2 ∷ r ∷ g ∷ b ∷ []) 0x6D (h, (omega arith, (omega (arith, k.0), (omega (arith, k.1), (omega (arith, k.2), tt))))) (omega arith) final-m)) (blind-style (n ∷ 2 ∷ r ∷ g ∷ b ∷ [])), tt)

plain-set_style : (s : Style) → IsColour s.foreground → IsColour s.background → IsPlain (set_style s)
plain-set_style s fore back =
    let k = colour_codes 48 s.background [] in
    let j = colour_codes 38 s.foreground k in
    let a = flag_code s.strike 9 j in
    let b = flag_code s.conceal 8 a in
    let c = flag_code s.reverse 7 b in
    let d = flag_code s.blink 5 c in
    let e = flag_code s.underline 4 d in
    let f = flag_code s.italic 3 e in
    let g = flag_code s.faint 2 f in
    let h = flag_code s.bold 1 g in
    plain (as_legible (set_style s) refl (legible-plain 0 h 0x6D (
      omega arith,
      small-when s.bold 1 g (omega arith) (small-when s.faint 2 f (omega arith) (small-when s.italic 3 e (omega arith) (small-when s.underline 4 d (omega arith)
          (small-when s.blink 5 c (omega arith) (small-when s.reverse 7 b (omega arith) (small-when s.conceal 8 a (omega arith) (small-when s.strike 9 j (omega arith)
          (small-colour 38 s.foreground k (omega arith) fore (small-colour 48 s.background [] (omega arith) back tt))))))))),
    )
    (omega (arith, few-when s.bold 1 g, few-when s.faint 2 f, few-when s.italic 3 e, few-when s.underline 4 d, few-when s.blink 5 c, few-when s.reverse 7 b, few-when s.conceal 8 a, few-when s.strike 9 j, few-colour 38 s.foreground k, few-colour 48 s.background []))
    final-m)) (blind-style (0 ∷ h))

pub plain-restyle : (s : Style) → IsColour s.foreground → IsColour s.background → ArePlain (restyle s)
plain-restyle s fore back = (
  plain-set_style s fore back,
  plain-append (set_mixture 38 s.foreground) (set_mixture 48 s.background) (plain-mixture 38 s.foreground (omega arith) fore) (plain-mixture 48 s.background (omega arith) back),
)

pub plain-unless : (b : Bool) (fs : List Function) → ArePlain fs → ArePlain (if b then [] else fs)
plain-unless true fs h = tt
plain-unless false fs h = h

pub plain-if : (b : Bool) (fs : List Function) → ArePlain fs → ArePlain (if b then fs else [])
plain-if true fs h = h
plain-if false fs h = tt

small-append : (xs ys : List ℕ) → AreSmall xs → AreSmall ys → AreSmall (xs ++ ys)
small-append [] ys h k = k
small-append (x ∷ xs) ys h k = (h.0, small-append xs ys h.1 k)

small-flag : (a b : Bool) (n : ℕ) → n ≤ 9999 → AreSmall (flag_added a b n)
small-flag true true n h = tt
small-flag true false n h = tt
small-flag false true n h = (h, tt)
small-flag false false n h = tt

small-words : (n m : ℕ) (x : Colour) → n ≤ 9999 → m ≤ 9999 → IsColour x → AreSmall (colour_words n m x)
small-words n m Default h k l = (k, tt)
small-words n m (Index c) h k l = (h, (omega arith, (omega (arith, l), tt)))
small-words n m (Rgb r g b) h k l = (h, (omega arith, (omega (arith, l.0), (omega (arith, l.1), (omega (arith, l.2), tt)))))

small-added : (t : Bool) (n m : ℕ) (x : Colour) → n ≤ 9999 → m ≤ 9999 → IsColour x → AreSmall (if t then [] else colour_words n m x)
small-added true n m x h k l = tt
small-added false n m x h k l = small-words n m x h k l

small-codes : (g s : Style) → IsColour s.foreground → IsColour s.background → AreSmall (change_codes g s)
unfolding change_codes
small-codes g s fore back =
    small-append _ _ (small-append _ _ (small-append _ _ (small-append _ _ (small-append _ _ (small-append _ _ (small-append _ _ (small-append _ _ (small-append _ _
    (small-flag g.bold s.bold 1 (omega arith)) (small-flag g.faint s.faint 2 (omega arith))) (small-flag g.italic s.italic 3 (omega arith)))
    (small-flag g.underline s.underline 4 (omega arith))) (small-flag g.blink s.blink 5 (omega arith))) (small-flag g.reverse s.reverse 7 (omega arith)))
    (small-flag g.conceal s.conceal 8 (omega arith))) (small-flag g.strike s.strike 9 (omega arith)))
    (small-added (same_colour g.foreground s.foreground) 38 39 s.foreground (omega arith) (omega arith) fore))
    (small-added (same_colour g.background s.background) 48 49 s.background (omega arith) (omega arith) back)

plain-codes : (cs : List ℕ) → nat_lt 0 (length cs) ≡ true → nat_le (length cs) 16 ≡ true → AreSmall cs → IsPlain (csi None cs 0x6D)
plain-codes [] h k l = absurd (false≢true h)
plain-codes (p ∷ ps) h k l = plain (as_legible (csi None (p ∷ ps) 0x6D) refl (legible-plain p ps 0x6D l (leb-true (length (p ∷ ps)) 16 k) final-m)) (blind-style (p ∷ ps))

plain-changing : (g s : Style) → IsColour s.foreground → IsColour s.background → (b : Bool) → adds g s ≡ b
    → ArePlain (if b then csi None (change_codes g s) 0x6D ∷ [] else restyle s)
plain-changing g s fore back true e = let n = adds-few g s e in (plain-codes (change_codes g s) n.0 n.1 (small-codes g s fore back), tt)
plain-changing g s fore back false e = plain-restyle s fore back

pub plain-styled : (g s : Style) → IsColour s.foreground → IsColour s.background → ArePlain (styled_from g s)
plain-styled g s fore back =
    plain-unless (same_style s g) (changing g s) (plain-changing g s fore back (adds g s) refl)

-- ---- characters

joiner-columns : (c : ℕ) → is_joiner c ≡ true → char_width false c ≡ None → ⊥
joiner-columns c h e = false≢true (sym (ap is_answer_zero e) ∙ h)

base-columns : (c : ℕ) → not (width_of c == 0) ≡ true → char_width false c ≡ None → ⊥
base-columns c h e = let none : width_of c ≡ 0 = ap (λ w. min (unwrap_or w 0) 2) e in false≢true (sym (ap not (eq-eqb (width_of c) 0 none)) ∙ h)

plain-joiners : (js : List ℕ) → are_joiners js ≡ true → AreScalars js → ArePlain (map Print js)
plain-joiners [] h k = tt
plain-joiners (c ∷ cs) h k =
    let parts = and_parts (is_joiner c) (are_joiners cs) h in
    (plain (as_legible (Print c) refl (legible-print c (joiner-columns c parts.0) k.0)) (blind-print c), plain-joiners cs parts.1 k.1)

plain-points : (ps : List ℕ) → is_text ps ≡ true → AreScalars ps → ArePlain (map Print ps)
plain-points [] h k = tt
plain-points (c ∷ js) h k =
    let first = and_parts (not (width_of c == 0) && are_joiners js) (nat_le (length js) 2) h in
    let second = and_parts (not (width_of c == 0)) (are_joiners js) first.0 in
    (plain (as_legible (Print c) refl (legible-print c (base-columns c second.0) k.0)) (blind-print c), plain-joiners js second.1 k.1)

-- ---- a band

plain-replicate : (n : ℕ) (f : Function) → IsPlain f → ArePlain (replicate n f)
plain-replicate zero f h = tt
plain-replicate (suc n) f h = (h, plain-replicate n f h)

plain-steps : (b : Bool) (n : ℕ) → ArePlain (if b then replicate n line_feed else replicate n reverse_index)
plain-steps true n = plain-replicate n line_feed (plain read-line_feed blind-line_feed)
plain-steps false n = plain-replicate n reverse_index (plain read-reverse_index blind-reverse_index)

plain-edge : (b : Bool) (top bottom : ℕ) → top + 1 < bottom → bottom ≤ 9999 → IsPlain (to_row (if b then bottom else top + 1))
plain-edge true top bottom h k =
    let back : bottom - 1 + 1 ≡ bottom = omega (arith, h) in
    subst (λ n. IsPlain (to_row n)) back (plain-to_row (bottom - 1) (omega (arith, h, k)))
plain-edge false top bottom h k = plain-to_row top (omega (arith, h, k))

plain-band : (rows : ℕ) (b : Band) → rows ≤ 9999 → IsBand rows b → ArePlain (moves_band b)
unfolding moves_band
plain-band rows b few h =
    let two = h.two in
    let inside = h.inside in (
      plain-set_margins (b.top + 1) b.bottom (omega (arith, two, inside, few)) (omega (arith, inside, few)),
      (plain-edge b.up b.top b.bottom two (omega (arith, inside, few)), plain-append (steps b) (reset_margins ∷ []) (plain-steps b.up b.count) (plain read-reset_margins (blind-margins (0 ∷ [])), tt)),
    )

pub plain-preparing : (rows : ℕ) (same : Bool) (band : Option Band) → rows ≤ 9999 → FitsBand rows band → ArePlain (preparing same band)
plain-preparing rows true None few h = tt
plain-preparing rows true (Some b) few h = plain-band rows b few h
plain-preparing rows false band few h = (plain-erase_all, tt)

-- ---- rows

module _ (prows pcols : ℕ) (over new : Places) (tall : prows < 9999) (broad : pcols < 9999)
    (paintable : (r c : ℕ) → r < prows → c < pcols → IsPaintable (new r c)) where
  plain-cell : (d : ℕ → ℕ → Bool) (r c : ℕ) (g : Style) (b : Bool) → r < prows → c < pcols → ArePlain (written_cell d new r c g b)
  unfolding written_cell
  plain-cell d r c g b p q =
      let cell = paintable r c p q in
      let at = if (goes_on d r c && not b) then [] else placing_at r c ∷ [] in
      let sty = styled_from g (new r c).style in
      let chars = map Print (new r c).points in
      plain-if (is_drawn d new r c) (at ++ (sty ++ chars))
      (plain-append at (sty ++ chars)
      (plain-unless (goes_on d r c && not b) (placing_at r c ∷ []) (plain-placing_at r c (omega (arith, p, tall)) (omega (arith, q, broad)), tt))
      (plain-append sty chars (plain-styled g (new r c).style cell.foreground cell.background) (plain-points (new r c).points cell.text cell.scalars)))

  plain-row : (d : ℕ → ℕ → Bool) (r k : ℕ) (g : Style) → r < prows → k ≤ pcols → ArePlain (written_row d new r g k)
  unfolding written_row
  plain-row d r zero g p q = tt
  plain-row d r (suc k) g p q =
      plain-append (written_row d new r g k) (written_cell d new r k (style_in d new r g k) (doubt_in d new r k)) (plain-row d r k g p (omega (arith, q)))
      (plain-cell d r k (style_in d new r g k) (doubt_in d new r k) p (omega (arith, q)))

  plain-end : (d : ℕ → ℕ → Bool) (r end : ℕ) (g : Style) (b : Bool) → r < prows → end ≤ pcols → ArePlain (erasing_from d r end pcols g b)
  unfolding erasing_from
  plain-end d r end g b p q =
      let at = if (ends_at d r end && not b) then [] else placing_at r end ∷ [] in
      let sty = styled_from g default_style in
      plain-if (nat_lt end pcols) (at ++ (sty ++ erase_line ∷ []))
      (plain-append at (sty ++ erase_line ∷ [])
      (plain-unless (ends_at d r end && not b) (placing_at r end ∷ []) (plain-placing_at r end (omega (arith, p, tall)) (omega (arith, q, broad)), tt))
      (plain-append sty (erase_line ∷ []) (plain-styled g default_style tt tt) (plain read-erase_line blind-erase_line, tt)))

  plain-whole_row : (marks : Marks) (r end : ℕ) (g : Style) → r < prows → end ≤ pcols → ArePlain (row_functions marks new pcols r end g)
  unfolding row_functions
  plain-whole_row marks r end g p q =
      let d = is_marked marks in
      let s = style_in d new r g end in
      let b = doubt_in d new r end in
      plain-append (written_row d new r g end) (erasing_from d r end pcols s b) (plain-row d r end g p q) (plain-end d r end s b p q)

  pub plain-rows : {n : ℕ} {g : Style} {fs : List Function} → AreDrawn over new pcols n g fs → n ≤ prows → ArePlain fs
  plain-rows nothing n_in = tt
  plain-rows (stays r g fs drawn same_row) n_in = plain-rows drawn (omega (arith, n_in))
  plain-rows (written r end g fs marks drawn plan) n_in =
      plain-append fs (row_functions marks new pcols r end g) (plain-rows drawn (omega (arith, n_in))) (plain-whole_row marks r end g (omega (arith, n_in)) plan.inside)

-- ---- the rest

pub read-hiding : (b : Bool) → AreRead (hiding b)
read-hiding true = (read-hide_cursor, tt)
read-hiding false = tt

pub read-revealing : (b visible : Bool) → AreRead (revealing b visible)
read-revealing true true = (read-show_cursor, tt)
read-revealing true false = tt
read-revealing false visible = tt

pub plain-placed : (row col : ℕ) → row < 9999 → col < 9999 → ArePlain (placing_at row col ∷ [])
plain-placed row col a b = (plain-placing_at row col a b, tt)
