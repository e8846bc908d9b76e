-- Cells of a row, one behind the other.
use Rattle.std.proofs.Common.{◌≡◌, ℕ, zero, suc, ◌+◌, ◌-◌, List, [], ◌∷◌, ◌++◌, refl, sym, ap, ◌∙◌, arith}
use Rattle.std.specs.List.{flat_map, range_with_len}
use Rattle.std.proofs.lemmas.List.{append-nil, append_assoc}
use Rattle.std.proofs.lemmas.List.Concat.{flat_map-append}
use Rattle.roam_cells.specs.Glyph.{Glyph}
use Rattle.roam_cells.specs.Place.{glyph_at}
use Rattle.roam_display_records.specs.Looks.{style_before}

pub before : (row : List Glyph) (c : ℕ) → ¬ (c ≡ 0) → style_before row c ≡ (glyph_at row (c - 1)).style
before row zero other = absurd (other refl)
before row (suc c) other = let same : suc c - 1 ≡ c = omega arith in ap (λ (k : ℕ). (glyph_at row k).style) (sym same)

range_more : (a n : ℕ) → range_with_len a (suc n) ≡ range_with_len a n ++ (a + n) ∷ []
range_more a zero = let same : a ≡ a + 0 = omega arith in ap (λ (k : ℕ). k ∷ []) same
range_more a (suc n) =
    let same : a + 1 + n ≡ a + suc n = omega arith in
    ap (λ (t : List ℕ). a ∷ t) (range_more (a + 1) n ∙ ap (λ (k : ℕ). range_with_len (a + 1) n ++ k ∷ []) same)

-- the addition of one more number
pub one_more : (f : ℕ → List ℕ) (n : ℕ) → flat_map f (range_with_len 0 (n + 1)) ≡ flat_map f (range_with_len 0 n) ++ f n
one_more f n =
    let one : n + 1 ≡ suc n = omega arith in
    let at : 0 + n ≡ n = omega arith in
    ap (λ (k : ℕ). flat_map f (range_with_len 0 k)) one
    ∙ ap (flat_map f) (range_more 0 n)
    ∙ flat_map-append f (range_with_len 0 n) ((0 + n) ∷ [])
    ∙ ap (λ (k : ℕ). flat_map f (range_with_len 0 n) ++ (f k ++ [])) at
    ∙ ap (λ (t : List ℕ). flat_map f (range_with_len 0 n) ++ t) (append-nil (f n))

-- a text with one part more
pub more : (t : List ℕ) (f : ℕ → List ℕ) (n : ℕ) → (t ++ flat_map f (range_with_len 0 n)) ++ f n ≡ t ++ flat_map f (range_with_len 0 (n + 1))
more t f n = append_assoc t (flat_map f (range_with_len 0 n)) (f n) ∙ ap (λ (x : List ℕ). t ++ x) (sym (one_more f n))

-- a text with none
pub none : (t : List ℕ) (f : ℕ → List ℕ) → t ≡ t ++ flat_map f (range_with_len 0 0)
none t f = sym (append-nil t)
