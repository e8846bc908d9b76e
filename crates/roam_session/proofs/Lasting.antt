-- Generations: a pane is there exactly if the layout has a rectangle, so it begins when its number is made.
use Rattle.std.proofs.Common.{◌≡◌, ℕ, ◌+◌, ◌%◌, ◌^◌, true, not, ◌&&◌, cond, eqb, List, [], ◌∷◌, ◌++◌, Option, Some, None, refl, sym, ap, ◌∙◌, add-zero}
use Rattle.std.specs.Prelude.{is_some}
use Rattle.std.specs.List.{fold}
use Rattle.std.specs.Option.{option_map}
use Rattle.std.proofs.lemmas.Bool.{cond_both}
use Rattle.roam_acts.specs.declared.acts.Act.{Act}
use Rattle.roam_keys.specs.declared.keys.Key.{Key}
use Rattle.roam_layout.specs.Rects.{rect_in}
use Rattle.roam_layout.specs.Layouts.{Outcome, Laid, Refused, outcome_of, panes}
use Rattle.roam_layout.specs.declared.rects.Rect.{Rect}
use Rattle.roam_session.specs.Panes.{Pane, pane_after_act, after_feed, after_key, after_drain}
use Rattle.roam_session.specs.Sessions.{Entry, Given, Did, Drained, SessionSize, SessionState, at_pane, laid_out, key_in, after_act, after_entry, first_state, session}
use Rattle.roam_session.specs.Generations.{is_made, begins, ever_made, generation_of, GenerationsAreCounted, GenerationsLast}
use Rattle.roam_session.proofs.Logs.{session-append}
use Rattle.roam_session.proofs.Living.{ever_more}

-- ---- a pane is there exactly if the layout has a rectangle

abbrev IsThere : Option Rect → Option Pane → Type 0
IsThere r pane = is_some r ≡ is_some pane

given_there : (from to : Option Rect) (pane : Option Pane) → IsThere from pane → IsThere to (pane_after_act from to pane)
given_there from None pane is = refl
given_there None (Some to) pane is = refl
given_there (Some from) (Some to) None is = is
given_there (Some from) (Some to) (Some p) is = refl

changed_there : (change : Pane → Pane) (r : Option Rect) (pane : Option Pane) → IsThere r pane → IsThere r (option_map change pane)
changed_there change r None is = is
changed_there change r (Some p) is = is

abbrev AreThere : SessionState → Type 0
AreThere s = (k : ℕ) → IsThere (rect_in k (panes s.plan)) (s.pane k)

at_pane_there : (n : ℕ) (change : Pane → Pane) (s : SessionState) → AreThere s → AreThere (at_pane n change s)
at_pane_there n change s are k =
    cond_both (eqb k n) (option_map change (s.pane k)) (s.pane k) (IsThere (rect_in k (panes s.plan)))
    (λ e. changed_there change (rect_in k (panes s.plan)) (s.pane k) (are k)) (λ e. are k)

laid_there : (o : Outcome) (s : SessionState) → AreThere s → AreThere (laid_out o s)
laid_there (Refused fault) s are k = are k
laid_there (Laid plan) s are k = given_there (rect_in k (panes s.plan)) (rect_in k (panes plan)) (s.pane k) (are k)

acted_there : (o : Option Key) (act : Act) (s : SessionState) → AreThere s → AreThere (after_act o act s)
acted_there (Some key) act s are = at_pane_there s.plan.focus (after_key key) s are
acted_there None act s are = laid_there (outcome_of s.plan act) s are

entry_there : (entry : Entry) (s : SessionState) → AreThere s → AreThere (after_entry s entry)
entry_there (Given n bytes) s are = at_pane_there n (after_feed bytes) s are
entry_there (Did client act) s are = acted_there (key_in act) act s are
entry_there (Drained n count) s are = at_pane_there n (after_drain count) s are

entries_there : (log : List Entry) (s : SessionState) → AreThere s → AreThere (fold after_entry s log)
entries_there [] s are = are
entries_there (entry ∷ log) s are = entries_there log (after_entry s entry) (entry_there entry s are)

session_there : (size : SessionSize) (log : List Entry) → AreThere (session size log)
unfolding session
session_there size log =
    entries_there log (first_state size) (λ k. given_there None (rect_in k (panes (first_state size).plan)) None refl)

-- ---- counts

made_where : (before after : Option Rect) → is_made before after ≡ (not (is_some before) && is_some after)
made_where None None = refl
made_where None (Some r) = refl
made_where (Some r) after = refl

pub generations_are_counted : GenerationsAreCounted
generations_are_counted size log entry p =
    let old = session size log in
    let new = after_entry old entry in
    let before = session_there size log in
    let after = entry_there entry old before in
    ever_more size log entry p
    ∙ ap (λ b. ever_made size log p + cond b 1 0) (made_where (rect_in p (panes old.plan)) (rect_in p (panes new.plan)))
    ∙ (λ i. ever_made size log p + cond (not (before p i) && after p i) 1 0)
    ∙ ap (λ (s : SessionState). ever_made size log p + cond (begins (old.pane p) (s.pane p)) 1 0) (sym (session-append size log entry))

-- ---- a pane that stays

lived : (pane : Option Pane) (c n : ℕ) → option_map (λ (x : Pane). c) pane ≡ Some n → (is_some pane ≡ true) × (c ≡ n)
lived None c n e = absurd cc
lived (Some p) c n e = (refl, cc)

pub generations_last : GenerationsLast
unfolding generation_of
generations_last size log entry p n m was is =
    let w : ℕ = 2 ^ 64 in
    let old = session size log in
    let new = session size (log ++ entry ∷ []) in
    let before = lived (old.pane p) (ever_made size log p % w) n was in
    let after = lived (new.pane p) (ever_made size (log ++ entry ∷ []) p % w) m is in
    sym after.1 ∙ ap (λ c. c % w) (generations_are_counted size log entry p)
    ∙ ap (λ b. (ever_made size log p + cond (not b && is_some (new.pane p)) 1 0) % w) before.0
    ∙ ap (λ c. c % w) (add-zero (ever_made size log p)) ∙ before.1
