-- One to three code points in three places, with zeros after them.
use Rattle.std.proofs.Common.{◌≡◌, ℕ, ◌-◌, ◌<◌, ◌≤◌, Bool, true, false, refl, ap, ◌∙◌, arith}
use Rattle.std.proofs.Common.{List, [], ◌∷◌, ◌++◌, length, take, drop, replicate, get_or}
use Rattle.std.specs.Prelude.{Some, None, ◌==◌, if◌then◌else◌}
use Rattle.std.proofs.lemmas.Bool.{false≢true}
use Rattle.roam_cells.specs.Glyph.{Glyph, is_cell_text, is_text, is_wide_text}
use Rattle.roam_cells.specs.Width.{width_of}

abbrev pub spread : List ℕ → List ℕ
spread ps = take 3 (ps ++ 0 ∷ 0 ∷ 0 ∷ [])

pub laid : (ps : List ℕ) → length ps ≤ 3
    → (length (spread ps) ≡ 3) × (take (length ps) (spread ps) ≡ ps) × (drop (length ps) (spread ps) ≡ replicate (3 - length ps) 0)
laid [] few = (refl, refl, refl)
laid (x ∷ []) few = (refl, refl, refl)
laid (x ∷ (y ∷ [])) few = (refl, refl, refl)
laid (x ∷ (y ∷ (z ∷ []))) few = (refl, refl, refl)
laid (x ∷ (y ∷ (z ∷ (u ∷ us)))) few = absurd (omega arith)

-- one, two or three that are read
pub one : (ps : List ℕ) (p : ℕ) → ¬ (length ps ≡ 0) → length ps ≤ 1 → p ≡ get_or ps 0 p → p ∷ 0 ∷ 0 ∷ [] ≡ spread ps
one [] p some few p_is = absurd (some refl)
one (x ∷ []) p some few p_is = λ i. p_is i ∷ (0 ∷ (0 ∷ []))
one (x ∷ (y ∷ ys)) p some few p_is = absurd (omega arith)

pub two : (ps : List ℕ) (p q : ℕ) → 1 < length ps → length ps ≤ 2 → p ≡ get_or ps 0 p → q ≡ get_or ps 1 q → p ∷ q ∷ 0 ∷ [] ≡ spread ps
two [] p q some few p_is q_is = absurd (omega arith)
two (x ∷ []) p q some few p_is q_is = absurd (omega arith)
two (x ∷ (y ∷ [])) p q some few p_is q_is = λ i. p_is i ∷ (q_is i ∷ (0 ∷ []))
two (x ∷ (y ∷ (z ∷ zs))) p q some few p_is q_is = absurd (omega arith)

pub three : (ps : List ℕ) (p q r : ℕ) → 2 < length ps → length ps ≤ 3 → p ≡ get_or ps 0 p → q ≡ get_or ps 1 q → r ≡ get_or ps 2 r
    → p ∷ q ∷ r ∷ [] ≡ spread ps
three [] p q r some few p_is q_is r_is = absurd (omega arith)
three (x ∷ []) p q r some few p_is q_is r_is = absurd (omega arith)
three (x ∷ (y ∷ [])) p q r some few p_is q_is r_is = absurd (omega arith)
three (x ∷ (y ∷ (z ∷ []))) p q r some few p_is q_is r_is = λ i. p_is i ∷ (q_is i ∷ (r_is i ∷ []))
three (x ∷ (y ∷ (z ∷ (u ∷ us)))) p q r some few p_is q_is r_is = absurd (omega arith)

-- whether the first is wide, from its columns
pub wide_is : (ps : List ℕ) (a w : ℕ) → ¬ (length ps ≡ 0) → a ≡ get_or ps 0 a → w ≡ width_of a → (w == 2) ≡ is_wide_text ps
wide_is [] a w some a_is w_is = absurd (some refl)
wide_is (x ∷ xs) a w some a_is w_is = ap (λ k. k == 2) (w_is ∙ ap width_of a_is)

pub text_is_cell : (ps : List ℕ) → ¬ (length ps ≡ 0) → is_text ps ≡ true → is_cell_text ps ≡ true
text_is_cell [] some h = absurd (some refl)
text_is_cell (x ∷ xs) some h = h

pub accepted : (b : Bool) (x g : Glyph) → b ≡ true → x ≡ g → Some x ≡ (if b then Some g else None)
accepted true x g e same = ap (λ y. Some y) same
accepted false x g e same = absurd (false≢true e)
