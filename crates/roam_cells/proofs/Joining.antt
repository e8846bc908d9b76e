-- A code point that joins a cell.
use Rattle.std.proofs.Common.{◌≡◌, ℕ, ◌+◌, ◌-◌, ◌<◌, ◌≤◌, inl, inr, Bool, true, false, not, ◌&&◌, cond, eqb, leb, List, [], ◌∷◌, ◌++◌, take, drop, set, length, get_or, Some, None, refl, sym, ap, ◌∙◌, arith, length-append, length-take, length-drop, length-set, get_or-set_same, get_or-set_other}
use Rattle.std.proofs.lemmas.Bool.{false≢true, cases_eq}
use Rattle.std.proofs.lemmas.Grind.{common_steps}
use Rattle.std.proofs.lemmas.List.{same_lists, get_or-take, get_or_append_left, get_or-append_right}
use Rattle.roam_cells.specs.Glyph.{Glyph, is_wide, is_right_half, is_wide_text, is_empty_text, is_cell_text, is_text, are_joiners, right_of, with_point}
use Rattle.roam_cells.specs.declared.styles.Style.{Style}
use Rattle.roam_cells.specs.Width.{width_of}

pub at_end : (xs zs : List ℕ) (n c : ℕ) → n ≡ length xs → 0 < length zs → take (n + 1) (set (xs ++ zs) n c) ≡ xs ++ c ∷ []
at_end xs zs n c e pos =
    let room : n < length (xs ++ zs) = simp length-append (omega (arith, e, pos)) in
    let one : length (take (n + 1) (set (xs ++ zs) n c)) ≡ n + 1 = simp (length-take, length-set) (omega (arith, room)) in
    let two : length (xs ++ c ∷ []) ≡ n + 1 = simp length-append (omega (arith, e)) in
    same_lists (take (n + 1) (set (xs ++ zs) n c)) (xs ++ c ∷ []) (one ∙ sym two) (λ k d h.
    let k_in : k < n + 1 = omega (arith, one) in
    get_or-take (n + 1) (set (xs ++ zs) n c) k d k_in
    ∙ elim (cases_eq k n) [
      | inl a ↦
          let z : k - n ≡ 0 = omega (arith, a) in
          ap (λ j. get_or (set (xs ++ zs) n c) j d) a ∙ get_or-set_same (xs ++ zs) n c d room
          ∙ sym (get_or-append_right xs (c ∷ []) n k d (sym e) (omega (arith, a)) ∙ ap (λ j. get_or (c ∷ []) j d) z)
      | inr a ↦
          let low : k < length xs = omega (arith, e) in
          get_or-set_other (xs ++ zs) n k c d a ∙ get_or_append_left xs zs d k low ∙ sym (get_or_append_left xs (c ∷ []) d k low)
    ])

pub from_some : (b : Bool) (g j x : Glyph) → cond b (Some g) None ≡ Some j → j ≡ cond b g x
from_some true g j x h = cc
from_some false g j x h = cc

pub from_none : (b : Bool) (g x : Glyph) → cond b (Some g) None ≡ None → x ≡ cond b g x
from_none true g x h = cc
from_none false g x h = refl

more_wide : (ps : List ℕ) (c : ℕ) → is_empty_text ps ≡ false → is_wide_text (ps ++ c ∷ []) ≡ is_wide_text ps
more_wide [] c h = absurd (false≢true (sym h))
more_wide (p ∷ ps) c h = refl

more_text : (ps : List ℕ) (c : ℕ) → is_empty_text (ps ++ c ∷ []) ≡ false
more_text [] c = refl
more_text (p ∷ ps) c = refl

-- a cell that was joined is as wide as it was
like : (b : Bool) (c : ℕ) (x : Glyph) → is_right_half x ≡ false
    → (is_wide (cond b (record x { points = x.points ++ c ∷ [] }) x) ≡ is_wide x) × (is_right_half (cond b (record x { points = x.points ++ c ∷ [] }) x) ≡ false)
    × (right_of (cond b (record x { points = x.points ++ c ∷ [] }) x) ≡ right_of x)
like true c x h = (more_wide x.points c h, more_text x.points c, refl)
like false c x h = (refl, h, refl)

pub with_point_like : (c : ℕ) (x : Glyph) → is_right_half x ≡ false → (is_wide (with_point c x) ≡ is_wide x) × (is_right_half (with_point c x) ≡ false) × (right_of (with_point c x) ≡ right_of x)
with_point_like c x h = like (is_cell_text (x.points ++ c ∷ [])) c x h

-- the cell of other points in the same style and guard
pub joined_of : (given wanted : List ℕ) (style : Style) (guard : Bool) (x : Glyph) → given ≡ wanted → style ≡ x.style → guard ≡ x.guarded
    → cond (is_cell_text wanted) (Some (record x { points = wanted })) None ≡ cond (is_cell_text given) (Some (record { points = given; style = style; guarded = guard })) None
joined_of given wanted style guard x p q r =
    ap (λ (l : List ℕ). cond (is_cell_text l) (Some (record x { points = l })) None) (sym p)
    ∙ ap (λ (s : Style). cond (is_cell_text given) (Some (record x { points = given; style = s })) None) (sym q)
    ∙ ap (λ (g : Bool). cond (is_cell_text given) (Some (record { points = given; style = style; guarded = g })) None) (sym r)

and_right : (a b : Bool) → (a && b) ≡ true → b ≡ true
and_right true b h = h
and_right false b h = absurd (false≢true h)

leb-means : (a b : ℕ) → leb a b ≡ true → a ≤ b
leb-means a b h = grind (arith, common_steps)

pub text_few : (ps : List ℕ) → is_text ps ≡ true → length ps ≤ 3
text_few [] h = omega arith
text_few (p ∷ ps) h = let few : length ps ≤ 2 = leb-means (length ps) 2 (and_right (not (eqb (width_of p) 0) && are_joiners ps) (leb (length ps) 2) h) in omega arith

-- there is room for one more
pub room_for_one : (ps zs : List ℕ) → is_text ps ≡ true → length zs ≡ 4 → 0 < length (drop (length ps) zs)
room_for_one ps zs h e = simp length-drop (omega (arith, e, text_few ps h))
