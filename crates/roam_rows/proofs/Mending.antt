-- The cells that a repair leaves, and those that it changes.
use Rattle.std.proofs.Common.{◌≡◌, ℕ, ◌<◌, Bool, true, false, not, ◌&&◌, cond, eqb, ltb, List, [], ◌∷◌, refl, sym, ap, ◌∙◌, arith}
use Rattle.std.proofs.lemmas.Bool.{false≢true}
use Rattle.std.proofs.lemmas.Grind.{common_steps}
use Rattle.roam_cells.specs.Width.{width-space}
use Rattle.roam_cells.specs.Glyph.{Glyph, is_wide, is_right_half, is_wide_text, is_empty_text, space_in, blank}
use Rattle.roam_rows.specs.Row.{mended_glyph}

kept : {X : Type 0} (w z a b : Bool) (s x : X) → (w ≡ true → a ≡ true) → (z ≡ true → b ≡ true) → cond (w && not a) s (cond (z && not b) s x) ≡ x
kept false false a b s x h k = refl
kept true false true b s x h k = refl
kept true false false b s x h k = absurd (false≢true (h refl))
kept false true a true s x h k = refl
kept false true a false s x h k = absurd (false≢true (k refl))
kept true true true true s x h k = refl
kept true true true false s x h k = absurd (false≢true (k refl))
kept true true false b s x h k = absurd (false≢true (h refl))

-- a cell stays if a wide one has its right half and a right half its wide cell
pub mended_same : (x : Glyph) (a b : Bool) → (is_wide x ≡ true → a ≡ true) → (is_right_half x ≡ true → b ≡ true) → mended_glyph x a b ≡ x
mended_same x a b h k = kept (is_wide x) (is_right_half x) a b (space_in x) x h k

pub is_wide-blank : is_wide blank ≡ false
is_wide-blank = ap (λ w. eqb w 2) width-space

pub mended-blank : (a b : Bool) → mended_glyph blank a b ≡ blank
mended-blank a b = mended_same blank a b (λ h. absurd (false≢true (sym is_wide-blank ∙ h))) (λ h. absurd (false≢true h))

pub is_wide-space_in : (x : Glyph) → is_wide (space_in x) ≡ false
is_wide-space_in x = ap (λ w. eqb w 2) width-space

wide_text_not_empty : (ps : List ℕ) → is_wide_text ps ≡ true → is_empty_text ps ≡ false
wide_text_not_empty [] h = absurd (false≢true h)
wide_text_not_empty (p ∷ ps) h = refl

-- a cell is not both a wide cell and a right half
pub wide_not_half : (x : Glyph) → is_wide x ≡ true → is_right_half x ≡ false
wide_not_half x h = wide_text_not_empty x.points h

picked : {X : Type 0} (f : X → Bool) (w z a b : Bool) (s x : X) → f s ≡ false → f (cond (w && not a) s (cond (z && not b) s x)) ≡ true
    → (cond (w && not a) s (cond (z && not b) s x) ≡ x) × (w ≡ true → a ≡ true) × (z ≡ true → b ≡ true)
picked f true true true true s x h k = (refl, λ p. refl, λ p. refl)
picked f true true true false s x h k = absurd (false≢true (sym h ∙ k))
picked f true z false b s x h k = absurd (false≢true (sym h ∙ k))
picked f true false true b s x h k = (refl, λ p. refl, λ p. absurd (false≢true p))
picked f false true a true s x h k = (refl, λ p. absurd (false≢true p), λ p. refl)
picked f false true a false s x h k = absurd (false≢true (sym h ∙ k))
picked f false false a b s x h k = (refl, λ p. absurd (false≢true p), λ p. absurd (false≢true p))

-- a half of a wide character was one before, and has its other half
pub still_wide : (x : Glyph) (a b : Bool) → is_wide (mended_glyph x a b) ≡ true → (mended_glyph x a b ≡ x) × (is_wide x ≡ true → a ≡ true) × (is_right_half x ≡ true → b ≡ true)
still_wide x a b h = picked is_wide (is_wide x) (is_right_half x) a b (space_in x) x (is_wide-space_in x) h

pub still_half : (x : Glyph) (a b : Bool) → is_right_half (mended_glyph x a b) ≡ true → (mended_glyph x a b ≡ x) × (is_wide x ≡ true → a ≡ true) × (is_right_half x ≡ true → b ≡ true)
still_half x a b h = picked is_right_half (is_wide x) (is_right_half x) a b (space_in x) x refl h

pub and_left : (a b : Bool) → (a && b) ≡ true → a ≡ true
and_left true b h = refl
and_left false b h = absurd (false≢true h)

pub and_right : (a b : Bool) → (a && b) ≡ true → b ≡ true
and_right true b h = h
and_right false b h = absurd (false≢true h)

pub ltb-means : (a b : ℕ) → ltb a b ≡ true → a < b
ltb-means a b h = grind (arith, common_steps)

pub means-ltb : (a b : ℕ) → a < b → ltb a b ≡ true
means-ltb a b h = grind (arith, common_steps)

pub both : (a b : Bool) → a ≡ true → b ≡ true → (a && b) ≡ true
both a b h k = ap (λ x. x && b) h ∙ k

pub mended_space : (x : Glyph) (d e : Bool) → mended_glyph (space_in x) d e ≡ space_in x
mended_space x d e = mended_same (space_in x) d e (λ h. absurd (false≢true (sym (is_wide-space_in x) ∙ h))) (λ h. absurd (false≢true h))

by_tests : (x : Glyph) (w z d e : Bool) → is_wide x ≡ w → is_right_half x ≡ z → mended_glyph x d e ≡ cond (w && not d) (space_in x) (cond (z && not e) (space_in x) x)
by_tests x w z d e p q =
    ap (λ v. cond (v && not d) (space_in x) (cond (is_right_half x && not e) (space_in x) x)) p ∙ ap (λ v. cond (w && not d) (space_in x) (cond (v && not e) (space_in x) x)) q

compose : (x : Glyph) (w z a b d e : Bool) → is_wide x ≡ w → is_right_half x ≡ z
    → mended_glyph (cond (w && not a) (space_in x) (cond (z && not b) (space_in x) x)) d e ≡ cond (w && not (a && d)) (space_in x) (cond (z && not (b && e)) (space_in x) x)
compose x true z false b d e p q = mended_space x d e
compose x true false true b d e p q = by_tests x true false d e p q
compose x true true true b d e p q = absurd (false≢true (sym (wide_not_half x p) ∙ q))
compose x false true a false d e p q = mended_space x d e
compose x false true a true d e p q = by_tests x false true d e p q
compose x false false a b d e p q = by_tests x false false d e p q

-- a second mending adds to the first
pub mended-mended : (x : Glyph) (a b d e : Bool) → mended_glyph (mended_glyph x a b) d e ≡ mended_glyph x (a && d) (b && e)
mended-mended x a b d e = compose x (is_wide x) (is_right_half x) a b d e refl refl

agree : {X : Type 0} (w z a b d e : Bool) (s x : X) → (w ≡ true → a ≡ d) → (z ≡ true → b ≡ e)
    → cond (w && not a) s (cond (z && not b) s x) ≡ cond (w && not d) s (cond (z && not e) s x)
agree true true a b d e s x h k = ap (λ v. cond (not v) s (cond (not b) s x)) (h refl) ∙ ap (λ v. cond (not d) s (cond (not v) s x)) (k refl)
agree true false a b d e s x h k = ap (λ v. cond (not v) s x) (h refl)
agree false true a b d e s x h k = ap (λ v. cond (not v) s x) (k refl)
agree false false a b d e s x h k = refl

-- mending asks of a wide cell for its right side alone, and of a right half for its left
pub mended_agree : (x : Glyph) (a b d e : Bool) → (is_wide x ≡ true → a ≡ d) → (is_right_half x ≡ true → b ≡ e) → mended_glyph x a b ≡ mended_glyph x d e
mended_agree x a b d e h k = agree (is_wide x) (is_right_half x) a b d e (space_in x) x h k

not_wide : (b : Bool) → (b ≡ true → b ≡ false) → b ≡ false
not_wide true h = h refl
not_wide false h = refl

pub by_right : (x : Glyph) (a : Bool) → is_right_half x ≡ true → mended_glyph x a false ≡ space_in x
by_right x a h =
    let narrow : is_wide x ≡ false = not_wide (is_wide x) (λ w. absurd (false≢true (sym (wide_not_half x w) ∙ h))) in
    ap (λ w. cond (w && not a) (space_in x) (cond (is_right_half x && true) (space_in x) x)) narrow ∙ ap (λ w. cond (w && true) (space_in x) x) h

pub by_left : (x : Glyph) (b : Bool) → is_wide x ≡ true → mended_glyph x false b ≡ space_in x
by_left x b h = ap (λ w. cond (w && true) (space_in x) (cond (is_right_half x && not b) (space_in x) x)) h
