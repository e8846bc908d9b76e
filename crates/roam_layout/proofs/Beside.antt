-- Rows of whole characters put side by side are one, and the signs and the status text are such rows.
use Rattle.std.proofs.Common.{◌≡◌, ℕ, ◌+◌, ◌-◌, ◌*◌, ◌<◌, ◌≤◌, true, false, eqb, inl, inr, List, [], ◌∷◌, ◌++◌, map, replicate, length, get_or, refl, sym, ap, ◌∙◌, arith, length-append}
use Rattle.std.specs.List.{All}
use Rattle.std.proofs.lemmas.Bool.{cases_lt, false≢true}
use Rattle.std.proofs.lemmas.List.{get_or_default, get_or_append_left, get_or-append_right}
use Rattle.std.proofs.lemmas.List.Elements.{All-nil, All-append, All-replicate, All-map}
use Rattle.std.proofs.lemmas.List.Edits.{get_or-between, length-between}
use Rattle.unicode_width.proofs.Computing.{unicode_width}
use Rattle.roam_cells.specs.Glyph.{Glyph, blank, is_wide, is_right_half, right_of, is_cell_text}
use Rattle.roam_cells.specs.Place.{glyph_at, cell_at, IsWholeAt, IsWholeRow, row_of}
use Rattle.roam_screens.specs.Screenshot.{Screenshot, IsScreenshot}
use Rattle.roam_cells.proofs.Ascii.{ascii_width}
use Rattle.roam_cells.proofs.Places.{row_from, place_below}
use Rattle.roam_layout.specs.Status.{IsPrintable}
use Rattle.roam_layout.specs.Faces.{character, sign, reverse_style}
use Rattle.roam_layout.specs.declared.rects.Way.{Way}
use Rattle.roam_layout.specs.declared.rects.Way.TheVariants.{Right, Down}

-- a row of whole characters with no guarded cell
pub record IsSound (row : List Glyph) : Type 0 where
  pub whole : IsWholeRow row
  pub unguarded : All (λ (g : Glyph). g.guarded ≡ false) row

pub sound_nil : IsSound []
sound_nil = record { whole = λ c h. absurd (omega (arith, h)); unguarded = All-nil (λ (g : Glyph). g.guarded ≡ false) }

-- ---- side by side

module _ (xs ys : List Glyph) (wx : IsWholeRow xs) (wy : IsWholeRow ys) where
  left_at : (c : ℕ) → c < length xs → glyph_at (xs ++ ys) c ≡ glyph_at xs c
  left_at c h = get_or_append_left xs ys blank c h

  right_at : (c : ℕ) → length xs ≤ c → glyph_at (xs ++ ys) c ≡ glyph_at ys (c - length xs)
  right_at c h = get_or-append_right xs ys (length xs) c blank refl h

  whole_left : (c : ℕ) → c < length xs → IsWholeAt (length (xs ++ ys)) (glyph_at (xs ++ ys)) c
  whole_left c h =
      let was = wx c h in
      record {
        wide = λ w.
            let next = was.wide (ap is_wide (sym (left_at c h)) ∙ w) in (
              omega (arith, next.0, length-append xs ys),
              left_at (c + 1) next.0 ∙ next.1 ∙ ap right_of (sym (left_at c h)),
            );
        half = λ w.
            let before = was.half (ap is_right_half (sym (left_at c h)) ∙ w) in
            (before.0, ap is_wide (left_at (c - 1) (omega (arith, h))) ∙ before.1);
      }

  whole_right : (c : ℕ) → length xs ≤ c → c < length (xs ++ ys) → IsWholeAt (length (xs ++ ys)) (glyph_at (xs ++ ys)) c
  whole_right c low high =
      let was = wy (c - length xs) (omega (arith, low, high, length-append xs ys)) in
      record {
        wide = λ w.
            let next = was.wide (ap is_wide (sym (right_at c low)) ∙ w) in
            let place : c + 1 - length xs ≡ c - length xs + 1 = omega (arith, low) in (
              omega (arith, next.0, low, length-append xs ys),
              right_at (c + 1) (omega (arith, low)) ∙ ap (glyph_at ys) place ∙ next.1 ∙ ap right_of (sym (right_at c low)),
            );
        half = λ w.
            let before = was.half (ap is_right_half (sym (right_at c low)) ∙ w) in
            let place : c - 1 - length xs ≡ c - length xs - 1 = omega arith in (
              omega (arith, before.0),
              ap is_wide (right_at (c - 1) (omega (arith, before.0)) ∙ ap (glyph_at ys) place) ∙ before.1,
            );
      }

  -- rows of whole characters put side by side
  pub whole_beside : IsWholeRow (xs ++ ys)
  whole_beside c h = elim (cases_lt c (length xs)) [ inl l ↦ whole_left c l | inr l ↦ whole_right c l h ]

pub sound_beside : (xs ys : List Glyph) → IsSound xs → IsSound ys → IsSound (xs ++ ys)
sound_beside xs ys s t =
    record {
      whole = whole_beside xs ys s.whole t.whole;
      unguarded = All-append (λ (g : Glyph). g.guarded ≡ false) xs ys s.unguarded t.unguarded;
    }

-- ---- cells of one column

pub record IsNarrow (g : Glyph) : Type 0 where
  pub wide : is_wide g ≡ false
  pub half : is_right_half g ≡ false
  pub free : g.guarded ≡ false

pub sound_narrow : (xs : List Glyph) → All IsNarrow xs → IsSound xs
sound_narrow xs all =
    record {
      whole = λ c h. record {
        wide = λ w. absurd (false≢true (sym (all c blank h).wide ∙ w));
        half = λ w. absurd (false≢true (sym (all c blank h).half ∙ w));
      };
      unguarded = λ k d h. (all k d h).free;
    }

-- the signs are cells of one column
pub right_text : is_cell_text (0x2502 ∷ []) ≡ true
unfolding unicode_width
right_text = refl

pub down_text : is_cell_text (0x2500 ∷ []) ≡ true
unfolding unicode_width
down_text = refl

sign_narrow : (w : Way) → IsNarrow (sign w)
unfolding unicode_width
sign_narrow Right = record { wide = refl; half = refl; free = refl }
sign_narrow Down = record { wide = refl; half = refl; free = refl }

pub sound_signs : (n : ℕ) (w : Way) → IsSound (replicate n (sign w))
sound_signs n w = sound_narrow (replicate n (sign w)) (All-replicate IsNarrow n (sign w) (sign_narrow w))

printable_narrow : (b : ℕ) → IsPrintable b → IsNarrow (character b reverse_style)
printable_narrow b p = record { wide = ap (λ w. eqb w 2) (ascii_width b p.0 p.1); half = refl; free = refl }

pub sound_text : (text : List ℕ) → All IsPrintable text → IsSound (map (λ b. character b reverse_style) text)
sound_text text p =
    sound_narrow (map (λ b. character b reverse_style) text)
    (All-map IsNarrow (λ b. character b reverse_style) text (λ k d h. printable_narrow (get_or text k d) (p k d h)))

-- ---- a row of a picture

pub sound_row : (s : Screenshot) → IsScreenshot s → (i : ℕ) → i < s.rows → IsSound (row_of s.cols s.cells i)
sound_row s is i i_in =
    let row = row_of s.cols s.cells i in
    let one : (i + 1) * s.cols ≡ i * s.cols + s.cols = omega arith in
    let next = row_from s.cols (i + 1) s.rows 0 (omega (arith, i_in)) in
    let inner : (i + 1) * s.cols ≤ length s.cells = omega (arith, next, is.count) in
    let size : length row ≡ s.cols = length-between s.cells (i * s.cols) ((i + 1) * s.cols) inner ∙ omega (arith, one) in
    let at : (c : ℕ) → c < s.cols → glyph_at row c ≡ cell_at s.cols s.cells i c = λ c h.
    get_or-between s.cells (i * s.cols) ((i + 1) * s.cols) c blank (omega (arith, one, h)) in
    record {
      whole = λ c h.
          let c_in : c < s.cols = omega (arith, h, size) in
          let was = is.whole i i_in c c_in in
          record {
            wide = λ w.
                let n = was.wide (ap is_wide (sym (at c c_in)) ∙ w) in
                (omega (arith, n.0, size), at (c + 1) n.0 ∙ n.1 ∙ ap right_of (sym (at c c_in)));
            half = λ w.
                let n = was.half (ap is_right_half (sym (at c c_in)) ∙ w) in
                (n.0, ap is_wide (at (c - 1) (omega (arith, c_in))) ∙ n.1);
          };
      unguarded = λ k d h.
          let k_in : k < s.cols = omega (arith, h, size) in
          let in_cells : i * s.cols + k < length s.cells = omega (arith, place_below s.rows s.cols i k i_in k_in, is.count) in
          ap (λ (g : Glyph). g.guarded) (get_or_default row k d blank h ∙ at k k_in) ∙ is.unguarded (i * s.cols + k) in_cells;
    }
