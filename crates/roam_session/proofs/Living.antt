-- Generations: the panes that an entry adds to those ever made.
use Rattle.std.proofs.Common.{◌≡◌, ℕ, zero, suc, ◌+◌, ◌%◌, ◌^◌, ◌<◌, inl, inr, false, cond, eqb, List, [], ◌∷◌, ◌++◌, length, get_or, Option, Some, None, refl, sym, ap, ◌∙◌, arith, add_assoc, add-zero, zero-add}
use Rattle.std.specs.List.{fold}
use Rattle.std.specs.Option.{option_map}
use Rattle.std.proofs.Math.Nat.{mod-add-mod}
use Rattle.std.proofs.lemmas.Bool.{cases_lt, ne_eqb}
use Rattle.std.proofs.lemmas.List.{get_or_past, get_or-replicate}
use Rattle.roam_layout.specs.Rects.{rect_in}
use Rattle.roam_layout.specs.Layouts.{Plan, area, panes}
use Rattle.roam_layout.specs.declared.rects.Rect.{Rect}
use Rattle.roam_term.specs.Stands.{TermView}
use Rattle.roam_session.specs.Panes.{Pane}
use Rattle.roam_session.specs.Sessions.{Entry, SessionSize, SessionState, after_entry, first_state, session}
use Rattle.roam_session.specs.Generations.{is_made, made_between, made_by, made_through, ever_made, generation_of, AreCounted, CountsGenerations}
use Rattle.roam_session.specs.Stands.{SessionView, Stands, Agrees, generation_at, term_at}
use Rattle.roam_session.proofs.Logs.{session-append}

-- ---- one entry more

made_more : (s : SessionState) (log : List Entry) (entry : Entry) (p : ℕ)
    → made_through s (log ++ entry ∷ []) p ≡ made_through s log p + made_by (fold after_entry s log) entry p
unfolding made_through
made_more s [] entry p = add-zero (made_by s entry p) ∙ sym (zero-add (made_by s entry p))
made_more s (x ∷ log) entry p =
    let next = after_entry s x in
    ap (λ n. made_by s x p + n) (made_more next log entry p)
    ∙ sym (add_assoc (made_by s x p) (made_through next log p) (made_by (fold after_entry next log) entry p))

pub ever_more : (size : SessionSize) (log : List Entry) (entry : Entry) (p : ℕ)
    → ever_made size (log ++ entry ∷ []) p ≡ ever_made size log p + made_by (session size log) entry p
unfolding session
ever_more size log entry p =
    let first = made_between [] (panes (first_state size).plan) p in
    ap (λ n. first + n) (made_more (first_state size) log entry p)
    ∙ sym (add_assoc first (made_through (first_state size) log p) (made_by (fold after_entry (first_state size) log) entry p))

-- ---- the counts

-- counts of the panes made between two layouts are those that an entry makes
pub counted_more : (s t : SessionView) (size : SessionSize) (log : List Entry) (entry : Entry) → Stands s size log
    → t.plan ≡ (session size (log ++ entry ∷ [])).plan → CountsGenerations s.plan t.plan s.generations t.generations
    → AreCounted t.generations size (log ++ entry ∷ [])
unfolding AreCounted
counted_more s t size log entry h plan counts k low =
    let d = session size log in
    let ever = ever_made size log k in
    let after : t.plan ≡ (after_entry d entry).plan = plan ∙ ap (λ (x : SessionState). x.plan) (session-append size log entry) in
    counts k low ∙ ap (λ n. (n + made_between (panes s.plan) (panes t.plan) k) % 2 ^ 64) (h.generations k low)
    ∙ mod-add-mod ever (2 ^ 64) (made_between (panes s.plan) (panes t.plan) k)
    ∙ (λ i. (ever + made_between (panes (h.plan i)) (panes (after i)) k) % 2 ^ 64)
    ∙ ap (λ n. n % 2 ^ 64) (sym (ever_more size log entry k))

same_makes_none : (r : Option Rect) → is_made r r ≡ false
same_makes_none None = refl
same_makes_none (Some r) = refl

-- a layout that stays makes none
pub counts_kept : (s t : SessionView) (size : SessionSize) (log : List Entry) → Stands s size log → t.plan ≡ s.plan → t.generations ≡ s.generations
    → CountsGenerations s.plan t.plan s.generations t.generations
unfolding AreCounted
counts_kept s t size log h plan generations k low =
    let ever = ever_made size log k in
    let made = made_between (panes s.plan) (panes t.plan) k in
    let none : made ≡ 0 =
    ap (λ (x : Plan). made_between (panes s.plan) (panes x) k) plan ∙ ap (λ b. cond b 1 0) (same_makes_none (rect_in k (panes s.plan))) in
    ap (λ (ls : List ℕ). get_or ls k 0) generations ∙ h.generations k low
    ∙ sym (ap (λ n. (n + made) % 2 ^ 64) (h.generations k low) ∙ mod-add-mod ever (2 ^ 64) made ∙ ap (λ n. (ever + n) % 2 ^ 64) none
    ∙ ap (λ n. n % 2 ^ 64) (add-zero ever))

-- ---- the instance

-- pane 1 was made once
abbrev pub first_generations : List ℕ
first_generations = 0 ∷ 1 ∷ 0 ∷ 0 ∷ 0 ∷ 0 ∷ 0 ∷ 0 ∷ 0 ∷ 0 ∷ []

pub counted_first : (s : SessionView) (size : SessionSize) → s.generations ≡ first_generations → AreCounted s.generations size []
unfolding made_through AreCounted
counted_first s size generations k low = ap (λ (ls : List ℕ). get_or ls k 0) generations ∙ by_number k low
  where
    by_number : (k : ℕ) → k < 10 → get_or first_generations k 0 ≡ ever_made size [] k % 2 ^ 64
    by_number zero low = refl
    by_number (suc zero) low = refl
    by_number (suc (suc k)) low =
        let other : eqb 1 (suc (suc k)) ≡ false = ne_eqb 1 (suc (suc k)) (λ e. omega (arith, e)) in
        get_or-replicate 8 k 0 0 (omega (arith, low))
        ∙ sym (ap (λ b. (cond (is_made None (cond b (Some (area size.rows size.cols)) None)) 1 0 + 0) % 2 ^ 64) other)

-- ---- the generation of a pane

generations_alike : (t : Option TermView) (pane : Option Pane) (m n : ℕ) → Agrees t pane → m ≡ n
    → option_map (λ (x : TermView). m) t ≡ option_map (λ (x : Pane). n) pane
generations_alike None None m n of e = refl
generations_alike None (Some p) m n of e = absurd of
generations_alike (Some t) None m n of e = absurd of
generations_alike (Some t) (Some p) m n of e = ap Some e

none_generations : (t : Option TermView) (pane : Option Pane) (m n : ℕ) → t ≡ None → Agrees t pane
    → option_map (λ (x : TermView). m) t ≡ option_map (λ (x : Pane). n) pane
none_generations None None m n e of = refl
none_generations None (Some p) m n e of = absurd of
none_generations (Some t) pane m n e of = absurd cc

-- the generation of a pane is that of the log
pub generation_is : (s : SessionView) (p : ℕ) (size : SessionSize) (log : List Entry) → length s.terms ≡ 10 → Stands s size log
    → generation_at s p ≡ generation_of size log p
unfolding generation_of AreCounted
generation_is s p size log ten h =
    let t = term_at s.terms p in
    let pane = (session size log).pane p in
    let generation = get_or s.generations p 0 in
    let ever = ever_made size log p % 2 ^ 64 in
    elim (cases_lt p 10) [
      | inl low ↦ generations_alike t pane generation ever (h.panes p) (h.generations p low)
      | inr high ↦ none_generations t pane generation ever (get_or_past s.terms p None (omega (arith, ten, high))) (h.panes p)
    ]
