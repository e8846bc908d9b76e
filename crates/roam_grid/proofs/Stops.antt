-- Steps from tab stop to tab stop.
use Rattle.std.proofs.Common.{◌≡◌, ℕ, zero, suc, ◌+◌, ◌-◌, ◌<◌, ◌≤◌, Bool, true, false, cond, ltb, List, get_or, refl, sym, ap, ◌∙◌, arith}
use Rattle.std.proofs.lemmas.Grind.{common_steps}
use Rattle.roam_grid.specs.Tabs.{stop_from, next_stop, stop_before, stops_on, stops_back}

pub from_step : (n c : ℕ) (stops : List Bool) → 0 < n → stop_from n c stops ≡ cond (get_or stops c false) c (stop_from (n - 1) (c + 1) stops)
unfolding stop_from
from_step zero c stops h = absurd (omega arith)
from_step (suc n) c stops h = ap (λ k. cond (get_or stops c false) c (stop_from k (c + 1) stops)) (omega arith)

pub from_none : (n c : ℕ) (stops : List Bool) → n ≡ 0 → stop_from n c stops ≡ c
unfolding stop_from
from_none n c stops e = ap (λ k. stop_from k c stops) e

pub next_inside : (last c : ℕ) (stops : List Bool) → c < last → next_stop last stops c ≡ stop_from (last - (c + 1)) (c + 1) stops
next_inside last c stops h = let e : ltb c last ≡ true = grind (arith, common_steps) in ap (λ b. cond b (stop_from (last - (c + 1)) (c + 1) stops) c) e

pub next_last : (last c : ℕ) (stops : List Bool) → last ≤ c → next_stop last stops c ≡ c
next_last last c stops h = let e : ltb c last ≡ false = grind (arith, common_steps) in ap (λ b. cond b (stop_from (last - (c + 1)) (c + 1) stops) c) e

pub before_step : (c : ℕ) (stops : List Bool) → 0 < c → stop_before c stops ≡ cond (get_or stops (c - 1) false) (c - 1) (stop_before (c - 1) stops)
unfolding stop_before
before_step zero stops h = absurd (omega arith)
before_step (suc c) stops h = ap (λ k. cond (get_or stops k false) k (stop_before k stops)) (omega arith)

pub before_first : (c : ℕ) (stops : List Bool) → c ≡ 0 → stop_before c stops ≡ 0
unfolding stop_before
before_first c stops e = ap (λ k. stop_before k stops) e

pub on_step : (n last c : ℕ) (stops : List Bool) → 0 < n → stops_on n last stops c ≡ stops_on (n - 1) last stops (next_stop last stops c)
unfolding stops_on
on_step zero last c stops h = absurd (omega arith)
on_step (suc n) last c stops h = let e : n ≡ suc n - 1 = omega arith in ap (λ k. stops_on k last stops (next_stop last stops c)) e

pub on_none : (n last c : ℕ) (stops : List Bool) → n ≡ 0 → stops_on n last stops c ≡ c
unfolding stops_on
on_none n last c stops e = ap (λ k. stops_on k last stops c) e

-- the last column stays
pub on_last : (n last c : ℕ) (stops : List Bool) → last ≤ c → stops_on n last stops c ≡ c
unfolding stops_on
on_last zero last c stops h = refl
on_last (suc n) last c stops h = ap (stops_on n last stops) (next_last last c stops h) ∙ on_last n last c stops h

pub back_step : (n c : ℕ) (stops : List Bool) → 0 < n → stops_back n stops c ≡ stops_back (n - 1) stops (stop_before c stops)
unfolding stops_back
back_step zero c stops h = absurd (omega arith)
back_step (suc n) c stops h = let e : n ≡ suc n - 1 = omega arith in ap (λ k. stops_back k stops (stop_before c stops)) e

pub back_none : (n c : ℕ) (stops : List Bool) → n ≡ 0 → stops_back n stops c ≡ c
unfolding stops_back
back_none n c stops e = ap (λ k. stops_back k stops c) e

back_zero : (n : ℕ) (stops : List Bool) → stops_back n stops 0 ≡ 0
unfolding stops_back stop_before
back_zero zero stops = refl
back_zero (suc n) stops = back_zero n stops

-- the first column stays
pub back_first : (n c : ℕ) (stops : List Bool) → c ≡ 0 → stops_back n stops c ≡ c
back_first n c stops e = ap (stops_back n stops) e ∙ back_zero n stops ∙ sym e
