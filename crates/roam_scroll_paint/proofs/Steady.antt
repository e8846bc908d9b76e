-- Behind each code point after which terminals disagree on the cursor's column, CUP comes first.
use Rattle.std.proofs.Common.{◌≡◌, ◌≤◌, ◌<◌, ℕ, zero, suc, ◌+◌, ◌-◌, Bool, true, false, not, ◌&&◌, ◌||◌, inl, inr, List, [], ◌∷◌, ◌++◌, map, replicate, Option, Some, None, refl, sym, ap, ◌∙◌, arith, append_assoc, add-one}
use Rattle.std.specs.Prelude.{if◌then◌else◌, min, unwrap_or, nat_le, nat_lt, ◌==◌, length}
use Rattle.std.proofs.lemmas.Bool.{and_parts, and_from, false≢true, cases_Bool, eqb-true, lt-ltb}
use Rattle.std.proofs.lemmas.List.{append-nil}
use Rattle.unicode_width.specs.Width.{char_width}
use Rattle.roam_cells.specs.Width.{width_of, is_joiner, is_answer_zero}
use Rattle.roam_cells.specs.Glyph.{is_wide, is_right_half, is_text, are_joiners, default_style}
use Rattle.roam_cells.specs.Same.{same_style}
use Rattle.roam_cells.specs.declared.styles.Style.{Style}
use Rattle.roam_cells.specs.declared.styles.Colour.{Colour}
use Rattle.roam_cells.specs.declared.styles.Colour.TheVariants.{Default, Index, Rgb}
use Rattle.roam_text.specs.declared.functions.Function.{Function}
use Rattle.roam_text.specs.declared.functions.Function.TheVariants.{Print}
use Rattle.roam_term.specs.ControlFunctions.{csi, hide_cursor, show_cursor, erase_all, place_cursor, restyle, style_codes, set_style, set_mixture}
use Rattle.roam_paint.specs.Painting.{Places, is_drawn, goes_on, style_in}
use Rattle.roam_paint.proofs.Walk.{undrawn_first, drawn_second, wide_text-some}
use Rattle.roam_scroll_paint.specs.declared.bands.Band.{Band}
use Rattle.roam_scroll_paint.specs.Bands.{to_row, line_feed, reverse_index, reset_margins, set_margins, steps, edge_row, moves_band, preparing}
use Rattle.roam_scroll_paint.specs.Doubts.{is_modifier, is_regional, is_doubtful_text, is_doubtful, is_doubtful_point, is_light, is_placing, is_placed_first, ArePlacedBehind}
use Rattle.roam_scroll_paint.specs.Rows.{Marks, is_marked, placing_at, placed_in, written_cell, written_row, doubt_after, doubt_in, erase_line, ends_at, erasing_from, row_functions, AreDrawn, nothing, stays, written}
use Rattle.roam_scroll_paint.specs.Painting.{hiding, revealing}
use Rattle.roam_scroll_paint.specs.Styles.{change_codes, adds, styled_from}
use Rattle.roam_scroll_paint.proofs.Wholes.{IsWhole}

-- ---- a walk over functions: whether terminals disagree on the column

abbrev doubt_of : Function → Bool
doubt_of (Print c) = is_doubtful_point c
doubt_of f = false

abbrev doubt_by : Function → Bool → Bool
doubt_by f b = (b && is_light f) || doubt_of f

abbrev pub steady : Bool → List Function → Bool
steady b [] = true
steady b (f ∷ fs) = (not b || (is_light f || is_placing f)) && steady (doubt_by f b) fs

or_true : (b : Bool) → (b || true) ≡ true
or_true true = refl
or_true false = refl

first_by : (l p : Bool) (fs : List Function) → (l || p) ≡ true → (l ≡ true → is_placed_first fs ≡ true) → (if l then is_placed_first fs else p) ≡ true
first_by true p fs h k = k refl
first_by false p fs h k = h

placed_first : (fs : List Function) → steady true fs ≡ true → is_placed_first fs ≡ true
unfolding is_placed_first
placed_first [] h = refl
placed_first (f ∷ fs) h =
    let parts = and_parts (is_light f || is_placing f) (steady (is_light f || doubt_of f) fs) h in
    first_by (is_light f) (is_placing f) fs parts.0 (λ l. placed_first fs (sym (ap (λ b. steady (b || doubt_of f) fs) l) ∙ parts.1))

behind : (b : Bool) (before after : List Function) (c : ℕ) → steady b (before ++ Print c ∷ after) ≡ true → is_doubtful_point c ≡ true
    → is_placed_first after ≡ true
behind b [] after c h k =
    let light = b && (width_of c == 0) in
    let parts = and_parts (not b || (is_light (Print c) || is_placing (Print c))) (steady (light || is_doubtful_point c) after) h in
    placed_first after (sym (ap (λ x. steady (light || x) after) k ∙ ap (λ x. steady x after) (or_true light)) ∙ parts.1)
behind b (f ∷ before) after c h k =
    behind (doubt_by f b) before after c
    (and_parts (not b || (is_light f || is_placing f)) (steady (doubt_by f b) (before ++ Print c ∷ after)) h).1 k

pub placed_behind : (fs : List Function) → steady false fs ≡ true → ArePlacedBehind fs
placed_behind fs h before after c e k = behind false before after c (ap (steady false) (sym e) ∙ h) k

-- ---- parts of functions, from one state to another

abbrev pub Goes : Bool → List Function → Bool → Type 0
Goes a fs b = (rest : List Function) → steady b rest ≡ true → steady a (fs ++ rest) ≡ true

pub goes-append : (a b c : Bool) (fs gs : List Function) → Goes a fs b → Goes b gs c → Goes a (fs ++ gs) c
goes-append a b c fs gs h k rest s = ap (steady a) (append_assoc fs gs rest) ∙ h (gs ++ rest) (k rest s)

one : (a : Bool) (f : Function) (b : Bool) → (not a || (is_light f || is_placing f)) ≡ true → doubt_by f a ≡ b → Goes a (f ∷ []) b
one a f b p e rest s = and_from (not a || (is_light f || is_placing f)) (steady (doubt_by f a) rest) p (ap (λ x. steady x rest) e ∙ s)

ease_by : (l d : Bool) (rest : List Function) → (steady true rest ≡ true → steady false rest ≡ true) → steady (l || d) rest ≡ true → steady d rest ≡ true
ease_by true true rest h k = k
ease_by true false rest h k = h k
ease_by false d rest h k = k

-- what may come where terminals disagree may come where they agree
eases : (rest : List Function) → steady true rest ≡ true → steady false rest ≡ true
eases [] h = refl
eases (f ∷ rest) h =
    ease_by (is_light f) (doubt_of f) rest (eases rest) (and_parts (is_light f || is_placing f) (steady (is_light f || doubt_of f) rest) h).1

from_any : (a b : Bool) (fs : List Function) → Goes true fs b → Goes a fs b
from_any true b fs h = h
from_any false b fs h = λ rest s. eases (fs ++ rest) (h rest s)

to_any : (a b : Bool) (fs : List Function) → Goes a fs b → Goes a fs true
to_any a true fs h = h
to_any a false fs h = λ rest s. h rest (eases rest s)

-- ---- CUP, SGR and characters

placing_by : (a t : Bool) (r c : ℕ) → Goes a ((if t then to_row (r + 1) else place_cursor (r + 1) (c + 1)) ∷ []) false
placing_by true true r c = one true (to_row (r + 1)) false refl refl
placing_by true false r c = one true (place_cursor (r + 1) (c + 1)) false refl refl
placing_by false true r c = one false (to_row (r + 1)) false refl refl
placing_by false false r c = one false (place_cursor (r + 1) (c + 1)) false refl refl

pub goes-placing : (a : Bool) (r c : ℕ) → Goes a (placing_at r c ∷ []) false
goes-placing a r c = placing_by a (c == 0) r c

goes-rendition : (a : Bool) (ps : List ℕ) → Goes a (csi None ps 0x6D ∷ []) a
goes-rendition true ps = one true (csi None ps 0x6D) true refl refl
goes-rendition false ps = one false (csi None ps 0x6D) false refl refl

goes-mixture : (a : Bool) (code : ℕ) (x : Colour) → Goes a (set_mixture code x) a
goes-mixture a code Default = λ rest s. s
goes-mixture a code (Index n) = λ rest s. s
goes-mixture a code (Rgb r g b) = goes-rendition a (code ∷ 2 ∷ r ∷ g ∷ b ∷ [])

goes-restyle : (a : Bool) (s : Style) → Goes a (restyle s) a
goes-restyle a s =
    let fore = set_mixture 38 s.foreground in
    let back = set_mixture 48 s.background in
    goes-append a a a (set_style s ∷ []) (fore ++ back) (goes-rendition a (style_codes s))
    (goes-append a a a fore back (goes-mixture a 38 s.foreground) (goes-mixture a 48 s.background))

styled_by : (a t u : Bool) (g s : Style) → Goes a (if t then [] else (if u then csi None (change_codes g s) 0x6D ∷ [] else restyle s)) a
styled_by a true u g s = λ rest h. h
styled_by a false true g s = goes-rendition a (change_codes g s)
styled_by a false false g s = goes-restyle a s

pub goes-styled : (a : Bool) (g s : Style) → Goes a (styled_from g s) a
goes-styled a g s = styled_by a (same_style s g) (adds g s) g s

width_zero : (o : Option ℕ) → is_answer_zero o ≡ true → (min (unwrap_or o 0) 2 == 0) ≡ true
width_zero None h = absurd (false≢true h)
width_zero (Some n) h = ap (λ k. min k 2 == 0) (eqb-true n 0 h)

joiner : (a : Bool) (j : ℕ) → (width_of j == 0) ≡ true → Goes a (Print j ∷ []) true
joiner true j e = one true (Print j) true (ap (λ b. b || false) e) (ap (λ b. b || (b || (is_modifier j || is_regional j))) e)
joiner false j e = one false (Print j) true refl (ap (λ b. b || (is_modifier j || is_regional j)) e)

joiners : (a : Bool) (j : ℕ) (js : List ℕ) → are_joiners (j ∷ js) ≡ true → Goes a (map Print (j ∷ js)) true
joiners a j [] h = joiner a j (width_zero (char_width false j) (and_parts (is_joiner j) true h).0)
joiners a j (k ∷ ks) h =
    let parts = and_parts (is_joiner j) (are_joiners (k ∷ ks)) h in
    goes-append a true true (Print j ∷ []) (map Print (k ∷ ks)) (joiner a j (width_zero (char_width false j) parts.0)) (joiners true k ks parts.1)

not_zero : (b : Bool) → not b ≡ true → b ≡ false
not_zero true h = absurd (false≢true h)
not_zero false h = refl

-- the code points of a cell
goes-points : (ps : List ℕ) → is_text ps ≡ true → Goes false (map Print ps) (is_doubtful_text ps)
unfolding is_doubtful_text
goes-points [] h = λ rest s. s
goes-points (c ∷ []) h =
    let wide = (and_parts (not (width_of c == 0)) true (and_parts (not (width_of c == 0) && true) true h).0).0 in
    one false (Print c) (is_modifier c || is_regional c) refl (ap (λ b. b || (is_modifier c || is_regional c)) (not_zero (width_of c == 0) wide))
goes-points (c ∷ j ∷ js) h =
    let first = and_parts (not (width_of c == 0) && are_joiners (j ∷ js)) (nat_le (length (j ∷ js)) 2) h in
    let second = and_parts (not (width_of c == 0)) (are_joiners (j ∷ js)) first.0 in
    goes-append false (is_doubtful_point c) true (Print c ∷ []) (map Print (j ∷ js)) (one false (Print c) (is_doubtful_point c) refl refl)
    (joiners (is_doubtful_point c) j js second.1)

-- ---- a row

or_parts : (a b : Bool) → (a || b) ≡ false → (a ≡ false) × (b ≡ false)
or_parts true b h = absurd (false≢true (sym h))
or_parts false b h = (refl, h)

module _ (prows pcols : ℕ) (new : Places) (whole : IsWhole pcols new)
    (texts : (r c : ℕ) → r < prows → c < pcols → is_text (new r c).points ≡ true) where
  module _ (m : ℕ → ℕ → Bool) (r : ℕ) where
    -- whether a cell is drawn before a column
    abbrev drawn_any : ℕ → Bool
    drawn_any zero = false
    drawn_any (suc c) = is_drawn m new r c || drawn_any c

    -- a right half is marked alone with the cell before it
    half_by : (j : ℕ) → is_right_half (new r (suc j)) ≡ true → is_drawn m new r j ≡ false → (b : Bool) → m r (suc j) ≡ b → b ≡ false
    half_by j h undrawn false e = refl
    half_by j h undrawn true e =
        let back : suc j - 1 ≡ j = omega arith in
        let wide : is_wide (new r j) ≡ true = sym (ap (λ x. is_wide (new r x)) back) ∙ (whole.half r (suc j) h).1 in
        let drawn = drawn_second (is_right_half (new r j)) (m r j) (is_wide (new r j)) (m r (j + 1)) (wide_text-some (new r j).points wide) wide
        (ap (m r) (add-one j) ∙ e) in
        absurd (false≢true (sym undrawn ∙ drawn))

    none : (k : ℕ) → drawn_any (suc k) ≡ false → m r k ≡ false
    none zero h =
        let parts = or_parts (is_drawn m new r 0) false h in
        elim (cases_Bool (is_right_half (new r 0))) [
          | inl e ↦ let low = (whole.half r 0 e).0 in absurd (omega (arith, low))
          | inr e ↦ undrawn_first (is_right_half (new r 0)) (m r 0) (is_wide (new r 0)) (m r (0 + 1)) parts.0 e
        ]
    none (suc j) h =
        let parts = or_parts (is_drawn m new r (suc j)) (drawn_any (suc j)) h in
        elim (cases_Bool (is_right_half (new r (suc j)))) [
          | inl e ↦ half_by j e (or_parts (is_drawn m new r j) (drawn_any j) parts.1).0 (m r (suc j)) refl
          | inr e ↦ undrawn_first (is_right_half (new r (suc j))) (m r (suc j)) (is_wide (new r (suc j))) (m r (suc j + 1)) parts.0 e
        ]

    -- no text before a column ends there if none is drawn
    ends_nowhere : (k : ℕ) → drawn_any k ≡ false → ends_at m r k ≡ false
    ends_nowhere zero h = refl
    ends_nowhere (suc j) h =
        let back : suc j - 1 ≡ j = omega arith in
        ap (λ b. b && m r (suc j - 1)) (lt-ltb 0 (suc j) (omega arith)) ∙ ap (m r) back ∙ none j h

    goes_by : (a b c : Bool) → (a && b) ≡ false → (a && (b && c)) ≡ false
    goes_by true true c h = absurd (false≢true (sym h))
    goes_by true false c h = refl
    goes_by false b c h = refl

    goes_nowhere : (k : ℕ) → drawn_any k ≡ false → goes_on m r k ≡ false
    goes_nowhere k h = goes_by (nat_lt 0 k) (m r (k - 1)) (m r k) (ends_nowhere k h)

    -- at the beginning of a row terminals may disagree
    abbrev state : ℕ → Bool
    state k = not (drawn_any k) || doubt_in m new r k

    place_by : (a goes b : Bool) (k : ℕ) → (a ≡ false → goes ≡ false) → Goes (not a || b) (if (goes && not b) then [] else placing_at r k ∷ []) false
    place_by a false b k h = goes-placing (not a || b) r k
    place_by true true true k h = goes-placing true r k
    place_by true true false k h = λ rest s. s
    place_by false true b k h = absurd (false≢true (sym (h refl)))

    cell_by : (drawn : Bool) (k : ℕ) (g : Style) → k < pcols → r < prows
        → Goes (state k) (if drawn then placed_in m r k (doubt_in m new r k) ++ (styled_from g (new r k).style ++ map Print (new r k).points) else [])
        (not (drawn || drawn_any k) || (if drawn then is_doubtful (new r k) else doubt_in m new r k))
    cell_by false k g p q = λ rest s. s
    cell_by true k g p q =
        let x = (new r k).style in
        let chars = map Print (new r k).points in
        goes-append (state k) false (is_doubtful (new r k)) (placed_in m r k (doubt_in m new r k)) (styled_from g x ++ chars)
        (place_by (drawn_any k) (goes_on m r k) (doubt_in m new r k) k (goes_nowhere k))
        (goes-append false false (is_doubtful (new r k)) (styled_from g x) chars (goes-styled false g x) (goes-points (new r k).points (texts r k q p)))

    goes-row : (k : ℕ) (g : Style) → k ≤ pcols → r < prows → Goes true (written_row m new r g k) (state k)
    unfolding written_row written_cell doubt_in doubt_after
    goes-row zero g p q = λ rest s. s
    goes-row (suc k) g p q =
        goes-append true (state k) (state (suc k)) (written_row m new r g k) (written_cell m new r k (style_in m new r g k) (doubt_in m new r k))
        (goes-row k g (omega (arith, p)) q) (cell_by (is_drawn m new r k) k (style_in m new r g k) (omega (arith, p)) q)

    end_by : (inside : Bool) (end : ℕ) (g : Style)
        → Goes (state end) (if inside then (if (ends_at m r end && not (doubt_in m new r end)) then [] else placing_at r end ∷ []) ++ (styled_from g default_style ++ erase_line ∷ []) else []) true
    end_by false end g = to_any (state end) (state end) [] (λ rest s. s)
    end_by true end g =
        let to = if (ends_at m r end && not (doubt_in m new r end)) then [] else placing_at r end ∷ [] in
        let tail = styled_from g default_style ++ erase_line ∷ [] in
        to_any (state end) false (to ++ tail)
        (goes-append (state end) false false to tail (place_by (drawn_any end) (ends_at m r end) (doubt_in m new r end) end (ends_nowhere end))
        (goes-append false false false (styled_from g default_style) (erase_line ∷ []) (goes-styled false g default_style) (one false erase_line false refl refl)))

  goes-whole_row : (marks : Marks) (r end : ℕ) (g : Style) → end ≤ pcols → r < prows → Goes true (row_functions marks new pcols r end g) true
  unfolding row_functions erasing_from
  goes-whole_row marks r end g p q =
      let m = is_marked marks in
      let s = style_in m new r g end in
      goes-append true (state m r end) true (written_row m new r g end) (erasing_from m r end pcols s (doubt_in m new r end))
      (goes-row m r end g p q) (end_by m r (nat_lt end pcols) end s)

  pub goes-rows : {over : Places} {n : ℕ} {g : Style} {fs : List Function} → AreDrawn over new pcols n g fs → n ≤ prows → Goes true fs true
  goes-rows nothing n_in = λ rest s. s
  goes-rows (stays r g fs drawn same_row) n_in = goes-rows drawn (omega (arith, n_in))
  goes-rows (written r end g fs marks drawn plan) n_in =
      goes-append true true true fs (row_functions marks new pcols r end g) (goes-rows drawn (omega (arith, n_in)))
      (goes-whole_row marks r end g plan.inside (omega (arith, n_in)))

-- ---- before the rows, and behind them

goes-replicate : (n : ℕ) (f : Function) → Goes false (f ∷ []) false → Goes false (replicate n f) false
goes-replicate zero f h = λ rest s. s
goes-replicate (suc n) f h = goes-append false false false (f ∷ []) (replicate n f) h (goes-replicate n f h)

steps_by : (b : Bool) (n : ℕ) → Goes false (if b then replicate n line_feed else replicate n reverse_index) false
steps_by true n = goes-replicate n line_feed (one false line_feed false refl refl)
steps_by false n = goes-replicate n reverse_index (one false reverse_index false refl refl)

goes-band : (b : Band) → Goes false (moves_band b) false
unfolding moves_band
goes-band b =
    let margins = set_margins (b.top + 1) b.bottom in
    goes-append false false false (margins ∷ to_row (edge_row b) ∷ []) (steps b ++ reset_margins ∷ [])
    (goes-append false false false (margins ∷ []) (to_row (edge_row b) ∷ []) (one false margins false refl refl) (one false (to_row (edge_row b)) false refl refl))
    (goes-append false false false (steps b) (reset_margins ∷ []) (steps_by b.up b.count) (one false reset_margins false refl refl))

pub goes-preparing : (same : Bool) (band : Option Band) → Goes false (preparing same band) false
goes-preparing true None = λ rest s. s
goes-preparing true (Some b) = goes-band b
goes-preparing false band = one false erase_all false refl refl

pub goes-hiding : (b : Bool) → Goes false (hiding b) false
goes-hiding true = one false hide_cursor false refl refl
goes-hiding false = λ rest s. s

pub goes-revealing : (b visible : Bool) → Goes false (revealing b visible) false
goes-revealing true true = one false show_cursor false refl refl
goes-revealing true false = λ rest s. s
goes-revealing false visible = λ rest s. s

pub all_steady : (first prepared rows : List Function) (g : Style) (r c : ℕ) (last : List Function) → Goes false first false → Goes false prepared false
    → Goes true rows true → Goes false last false
    → ArePlacedBehind (first ++ (prepared ++ (rows ++ ((styled_from g default_style ++ placing_at r c ∷ []) ++ last))))
all_steady first prepared rows g r c last h k l e =
    let settle = styled_from g default_style ++ placing_at r c ∷ [] in
    let fs = first ++ (prepared ++ (rows ++ (settle ++ last))) in
    let ends : Goes true settle false = goes-append true true false (styled_from g default_style) (placing_at r c ∷ []) (goes-styled true g default_style) (goes-placing true r c) in
    let tail : Goes true (rows ++ (settle ++ last)) false = goes-append true true false rows (settle ++ last) l (goes-append true false false settle last ends e) in
    let all : Goes false fs false =
    goes-append false false false first (prepared ++ (rows ++ (settle ++ last))) h
    (goes-append false false false prepared (rows ++ (settle ++ last)) k (from_any false false (rows ++ (settle ++ last)) tail)) in
    placed_behind fs (ap (steady false) (sym (append-nil fs)) ∙ all [] refl)
