-- Styles by their places.
use Rattle.std.proofs.Common.{◌≡◌, ℕ, zero, suc, ◌<◌, ◌≤◌, List, [], ◌∷◌, length, get_or, Some, None, refl, arith}
use Rattle.std.specs.Prelude.{slice_get}
use Rattle.std.proofs.lemmas.Bool.{le-leb, lt-leb}
use Rattle.roam_cells.specs.declared.styles.Style.{Style}
use Rattle.roam_update.specs.Styles.{style_in}

gets : (table : List Style) (k : ℕ) (d : Style) → k < length table → slice_get table k ≡ Some (get_or table k d)
gets [] k d h = absurd (omega (arith, h))
gets (t ∷ table) zero d h = refl
gets (t ∷ table) (suc k) d h = gets table k d (omega (arith, h))

gets_none : (table : List Style) (k : ℕ) → length table ≤ k → slice_get table k ≡ None
gets_none [] k h = refl
gets_none (t ∷ table) zero h = absurd (omega (arith, h))
gets_none (t ∷ table) (suc k) h = gets_none table k (omega (arith, h))

pub unused : (table : List Style) (used number : ℕ) → used < number → style_in table used number ≡ None
unused table used number h = rw (lt-leb number used h) refl

pub past_end : (table : List Style) (used number : ℕ) → number ≤ used → length table ≤ number → style_in table used number ≡ None
past_end table used number h k = rw (le-leb number used h) (gets_none table number k)

pub there : (table : List Style) (used number : ℕ) (d : Style) → number ≤ used → number < length table → style_in table used number ≡ Some (get_or table number d)
there table used number d h k = rw (le-leb number used h) (gets table number d k)

pub ruleset style_steps = (unused, past_end, there)
