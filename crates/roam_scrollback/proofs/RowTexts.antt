-- Rows as text.
use Rattle.std.proofs.Common.{◌≡◌, ℕ, zero, suc, ◌+◌, ◌<◌, ◌≤◌, Bool, true, false, ◌&&◌, cond, eqb, List, [], ◌∷◌, ◌++◌, map, length, take, get_or, replicate, refl, sym, ap, ◌∙◌, arith, append_assoc}
use Rattle.std.specs.List.{flat_map}
use Rattle.std.specs.Char.{encode_utf8}
use Rattle.std.proofs.lemmas.List.{take_more, length-take-le, append-nil, take-append-le}
use Rattle.std.proofs.lemmas.List.Concat.{flat_map-append}
use Rattle.std.proofs.lemmas.Bool.{ne_eqb}
use Rattle.roam_cells.specs.Glyph.{Glyph, is_right_half, blank}
use Rattle.roam_cells.specs.Same.{same}
use Rattle.roam_cells.specs.declared.styles.Style.{Style}
use Rattle.roam_cells.proofs.SameCells.{glyph_same}
use Rattle.roam_paint.specs.Painting.{styling}
use Rattle.roam_paint.specs.Sequences.{spelling_of}
use Rattle.roam_text.specs.declared.functions.Function.TheVariants.{Print}
use Rattle.roam_scrollback.specs.RowText.{used, cell_words, line_text, row_text, text_cells, text_of, without_blank}
use Rattle.roam_scrollback.specs.Wraps.{is_on}
use Rattle.roam_scrollback.specs.declared.wraps.Wrap.{Wrap}
use Rattle.roam_scrollback.specs.declared.wraps.Wrap.TheVariants.{Ends, Full, Early}

-- a blank cell at the end isn't in use
used-blank : (xs : List Glyph) → used (xs ++ blank ∷ []) ≡ used xs
used-blank [] = refl
used-blank (x ∷ xs) = ap (λ n. cond (eqb n 0 && same x blank) 0 (n + 1)) (used-blank xs)

-- and any other is
used-other : (xs : List Glyph) (x : Glyph) → same x blank ≡ false → used (xs ++ x ∷ []) ≡ length xs + 1
used-other [] x other = ap (λ b. cond b 0 1) other
used-other (y ∷ ys) x other =
    let n = length ys in
    ap (λ k. cond (eqb k 0 && same y blank) 0 (k + 1)) (used-other ys x other)
    ∙ ap (λ b. cond (b && same y blank) 0 (n + 1 + 1)) (ne_eqb (n + 1) 0 (λ e. absurd (omega (arith, e)))) ∙ omega arith

pub used-fewer : (xs : List Glyph) (n m : ℕ) → m ≡ n + 1 → n < length xs → same (get_or xs n blank) blank ≡ true → used (take n xs) ≡ used (take m xs)
used-fewer xs n m e low is =
    sym (ap (λ k. used (take k xs)) e
    ∙ ap used (take_more xs n blank low ∙ ap (λ x. take n xs ++ x ∷ []) (glyph_same (get_or xs n blank) blank is)) ∙ used-blank (take n xs))

pub used-here : (xs : List Glyph) (n m : ℕ) → m ≡ n + 1 → n < length xs → same (get_or xs n blank) blank ≡ false → used (take m xs) ≡ m
used-here xs n m e low other =
    ap (λ k. used (take k xs)) e ∙ ap used (take_more xs n blank low) ∙ used-other (take n xs) (get_or xs n blank) other
    ∙ ap (λ k. k + 1) (length-take-le n xs (omega (arith, low))) ∙ sym e

pub points_text : (ps : List ℕ) → flat_map spelling_of (map Print ps) ≡ flat_map encode_utf8 ps
points_text [] = refl
points_text (p ∷ ps) = ap (λ l. encode_utf8 p ++ l) (points_text ps)

pub cell_text : (set : Style) (x : Glyph) (a b c : List ℕ) → is_right_half x ≡ false → b ≡ a ++ flat_map spelling_of (styling x.style set)
    → c ≡ b ++ flat_map encode_utf8 x.points → c ≡ a ++ flat_map spelling_of (cell_words set x)
cell_text set x a b c some p q =
    q ∙ ap (λ l. l ++ flat_map encode_utf8 x.points) p ∙ append_assoc a (flat_map spelling_of (styling x.style set)) (flat_map encode_utf8 x.points)
    ∙ ap (λ l. a ++ (flat_map spelling_of (styling x.style set) ++ l)) (sym (points_text x.points))
    ∙ ap (λ l. a ++ l) (sym (flat_map-append spelling_of (styling x.style set) (map Print x.points)))
    ∙ ap (λ k. a ++ flat_map spelling_of (cond k [] (styling x.style set ++ map Print x.points))) (sym some)

pub used-blanks : (xs : List Glyph) (n : ℕ) → used (xs ++ replicate n blank) ≡ used xs
used-blanks xs zero = ap used (append-nil xs)
used-blanks xs (suc n) =
    ap used (sym (append_assoc xs (blank ∷ []) (replicate n blank))) ∙ used-blanks (xs ++ blank ∷ []) n ∙ used-blank xs

counted : (b : Bool) (n m : ℕ) → n ≤ m → cond b 0 (n + 1) ≤ suc m
counted true n m h = omega arith
counted false n m h = omega (arith, h)

pub used-few : (xs : List Glyph) → used xs ≤ length xs
used-few [] = omega arith
used-few (x ∷ xs) = counted (eqb (used xs) 0 && same x blank) (used xs) (length xs) (used-few xs)

-- blanks at the end of a row that ends are no text
pub text-blanks : (wrap : Wrap) (xs : List Glyph) (n : ℕ) → (is_on wrap ≡ true → n ≡ 0) → text_cells wrap (xs ++ replicate n blank) ≡ text_cells wrap xs
text-blanks Ends xs n none =
    ap (λ k. take k (xs ++ replicate n blank)) (used-blanks xs n) ∙ take-append-le (used xs) xs (replicate n blank) (used-few xs)
text-blanks Full xs n none = ap (λ k. xs ++ replicate k blank) (none refl) ∙ append-nil xs
text-blanks Early xs n none = ap (λ k. without_blank (xs ++ replicate k blank)) (none refl) ∙ ap without_blank (append-nil xs)

row-blanks : (wrap : Wrap) (xs : List Glyph) (n : ℕ) → (is_on wrap ≡ true → n ≡ 0) → row_text wrap (xs ++ replicate n blank) ≡ row_text wrap xs
unfolding row_text
row-blanks wrap xs n none = ap text_of (text-blanks wrap xs n none)

pub line-blanks : (wrap : Wrap) (xs : List Glyph) (n : ℕ) → (is_on wrap ≡ true → n ≡ 0) → line_text wrap (xs ++ replicate n blank) ≡ line_text wrap xs
line-blanks wrap xs n none = ap (λ l. cond (is_on wrap) 0x2B 0x20 ∷ (l ++ 0x0A ∷ [])) (row-blanks wrap xs n none)
