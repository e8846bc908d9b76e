-- Each byte for a pane's program goes to it once, and in order.
use Rattle.std.proofs.Common.{◌≡◌, ℕ, List, [], ◌∷◌, ◌++◌, Option, Some, None, Bool, true, false, refl, sym, ap, ◌∙◌, subst, inl, inr, arith, cond, append_assoc, append-nil}
use Rattle.std.specs.Prelude.{is_some, nat_eq}
use Rattle.std.specs.Option.{option_map}
use Rattle.std.proofs.lemmas.Bool.{cases_Bool}
use Rattle.std.proofs.lemmas.Bool.Decides.{nat_tests}
use Rattle.std.proofs.lemmas.List.{take-append-drop}
use Rattle.roam_acts.specs.declared.acts.Act.{Act}
use Rattle.roam_keys.specs.declared.keys.Key.{Key}
use Rattle.roam_layout.specs.declared.rects.Rect.{Rect}
use Rattle.roam_layout.specs.Rects.{rect_in}
use Rattle.roam_layout.specs.Layouts.{Outcome, Laid, Refused, start, outcome_of, panes}
use Rattle.roam_session.specs.Panes.{Pane, is_same_size, after_move, pane_after_act, after_feed, after_key, after_drain}
use Rattle.roam_session.specs.Sessions.{Entry, Given, Did, Drained, SessionSize, SessionState, at_pane, laid_out, key_in, after_act, after_entry, first_state, session}
use Rattle.roam_session.specs.Refusals.{waiting_in, output_at}
use Rattle.roam_session.proofs.Logs.{session-append}
use Rattle.roam_model.specs.Outputs.{answers_in, key_bytes_in, put_by, taken_in, taken_by, all_put, all_taken, StaysThere, PassesEachByteOn, BeginsWithNoOutput}

-- ---- a pane is there if its layout has a rectangle for it

abbrev Agree : SessionState → Type 0
Agree s = (k : ℕ) → is_some (s.pane k) ≡ is_some (rect_in k (panes s.plan))

some_map : (f : Pane → Pane) (o : Option Pane) → is_some (option_map f o) ≡ is_some o
some_map f None = refl
some_map f (Some p) = refl

given_some : (old new : Option Rect) (pane : Option Pane) → is_some pane ≡ is_some old → is_some (pane_after_act old new pane) ≡ is_some new
given_some old None pane e = refl
given_some None (Some new) pane e = refl
given_some (Some old) (Some new) pane e = some_map (after_move old new) pane ∙ e

agree_first : (size : SessionSize) → Agree (first_state size)
agree_first size k = given_some None (rect_in k (panes (start size.rows size.cols))) None refl

agree_at : (s : SessionState) (p : ℕ) (f : Pane → Pane) → Agree s → Agree (at_pane p f s)
agree_at s p f a k = go (nat_eq k p)
  where
    go : (b : Bool) → is_some (cond b (option_map f (s.pane k)) (s.pane k)) ≡ is_some (rect_in k (panes s.plan))
    go true = some_map f (s.pane k) ∙ a k
    go false = a k

agree_laid : (s : SessionState) (o : Outcome) → Agree s → Agree (laid_out o s)
agree_laid s (Laid plan) a = λ k. given_some (rect_in k (panes s.plan)) (rect_in k (panes plan)) (s.pane k) (a k)
agree_laid s (Refused fault) a = a

agree_acted : (s : SessionState) (key : Option Key) (act : Act) → Agree s → Agree (after_act key act s)
agree_acted s (Some key) act a = agree_at s s.plan.focus (after_key key) a
agree_acted s None act a = agree_laid s (outcome_of s.plan act) a

agree_after : (s : SessionState) (e : Entry) → Agree s → Agree (after_entry s e)
agree_after s (Given p bytes) a = agree_at s p (after_feed bytes) a
agree_after s (Did client act) a = agree_acted s (key_in act) act a
agree_after s (Drained p n) a = agree_at s p (after_drain n) a

agree_from : (size : SessionSize) (log es : List Entry) → Agree (session size log) → Agree (session size (log ++ es))
agree_from size log [] a = subst (λ (l : List Entry). Agree (session size l)) (sym (append-nil log)) a
agree_from size log (e ∷ es) a =
    subst (λ (l : List Entry). Agree (session size l)) (append_assoc log (e ∷ []) es)
    (agree_from size (log ++ e ∷ []) es (subst Agree (sym (session-append size log e)) (agree_after (session size log) e a)))

agree : (size : SessionSize) (log : List Entry) → Agree (session size log)
unfolding session
agree size log = agree_from size [] log (agree_first size)

-- ---- one entry

-- the queued bytes of a pane that is there before and after
abbrev Passes : List ℕ → List ℕ → Option Pane → Option Pane → Type 0
Passes off on (Some old) (Some new) = off ++ new.waiting ≡ old.waiting ++ on
Passes off on _ _ = Unit {0}

passes_same : (o : Option Pane) → Passes [] [] o o
passes_same None = tt
passes_same (Some p) = sym (append-nil p.waiting)

passes_at : (s : SessionState) (q p : ℕ) (f : Pane → Pane) (off on : List ℕ) → Passes off on (s.pane p) (option_map f (s.pane p))
    → Passes (cond (nat_eq q p) off []) (cond (nat_eq q p) on []) (s.pane p) ((at_pane q f s).pane p)
passes_at s q p f off on here = go (nat_eq q p) refl (nat_eq p q) refl
  where
    go : (a : Bool) → nat_eq q p ≡ a → (b : Bool) → nat_eq p q ≡ b
        → Passes (cond a off []) (cond a on []) (s.pane p) (cond b (option_map f (s.pane p)) (s.pane p))
    go true e true f = here
    go false e false f = passes_same (s.pane p)
    go true e false f = absurd (grind (arith, nat_tests))
    go false e true f = absurd (grind (arith, nat_tests))

fed_passes : (o : Option Pane) (bytes : List ℕ) → Passes [] (answers_in o bytes) o (option_map (after_feed bytes) o)
fed_passes None bytes = tt
fed_passes (Some p) bytes = refl

keyed_passes : (o : Option Pane) (key : Key) → Passes [] (key_bytes_in o (Some key)) o (option_map (after_key key) o)
keyed_passes None key = tt
keyed_passes (Some p) key = refl

drained_passes : (o : Option Pane) (n : ℕ) → Passes (taken_in o n) [] o (option_map (after_drain n) o)
drained_passes None n = tt
drained_passes (Some p) n = take-append-drop n p.waiting ∙ sym (append-nil p.waiting)

moved_waits : (old new : Rect) (p : Pane) → (after_move old new p).waiting ≡ p.waiting
moved_waits old new p = elim (cases_Bool (is_same_size old new)) [ inl e ↦ rw e refl | inr e ↦ rw e refl ]

given_passes : (old new : Option Rect) (o : Option Pane) → is_some o ≡ is_some old → Passes [] [] o (pane_after_act old new o)
given_passes old None None e = tt
given_passes old None (Some p) e = tt
given_passes None (Some new) None e = tt
given_passes None (Some new) (Some p) e = absurd (let z : true ≡ false = e in cc)
given_passes (Some old) (Some new) None e = tt
given_passes (Some old) (Some new) (Some p) e = moved_waits old new p ∙ sym (append-nil p.waiting)

none_in : (b : Bool) (o : Option Pane) → cond b (key_bytes_in o None) [] ≡ []
none_in true None = refl
none_in true (Some p) = refl
none_in false o = refl

nothing_in : (b : Bool) → cond {A = List ℕ} b [] [] ≡ []
nothing_in true = refl
nothing_in false = refl

laid_passes : (s : SessionState) (p : ℕ) (o : Outcome) → Agree s → Passes [] [] (s.pane p) ((laid_out o s).pane p)
laid_passes s p (Laid plan) a = given_passes (rect_in p (panes s.plan)) (rect_in p (panes plan)) (s.pane p) (a p)
laid_passes s p (Refused fault) a = passes_same (s.pane p)

acted_passes : (s : SessionState) (p : ℕ) (key : Option Key) (act : Act) → Agree s
    → Passes [] (cond (nat_eq s.plan.focus p) (key_bytes_in (s.pane p) key) []) (s.pane p) ((after_act key act s).pane p)
acted_passes s p (Some key) act a =
    subst (λ (off : List ℕ). Passes off (cond (nat_eq s.plan.focus p) (key_bytes_in (s.pane p) (Some key)) []) (s.pane p)
    ((at_pane s.plan.focus (after_key key) s).pane p)) (nothing_in (nat_eq s.plan.focus p))
    (passes_at s s.plan.focus p (after_key key) [] (key_bytes_in (s.pane p) (Some key)) (keyed_passes (s.pane p) key))
acted_passes s p None act a =
    subst (λ (on : List ℕ). Passes [] on (s.pane p) ((laid_out (outcome_of s.plan act) s).pane p))
    (sym (none_in (nat_eq s.plan.focus p) (s.pane p))) (laid_passes s p (outcome_of s.plan act) a)

entry_passes : (s : SessionState) (e : Entry) (p : ℕ) → Agree s
    → Passes (taken_by s e p) (put_by s e p) (s.pane p) ((after_entry s e).pane p)
entry_passes s (Given q bytes) p a =
    subst (λ (off : List ℕ). Passes off (put_by s (Given q bytes) p) (s.pane p) ((at_pane q (after_feed bytes) s).pane p))
    (nothing_in (nat_eq q p))
    (passes_at s q p (after_feed bytes) [] (answers_in (s.pane p) bytes) (fed_passes (s.pane p) bytes))
entry_passes s (Did client act) p a = acted_passes s p (key_in act) act a
entry_passes s (Drained q n) p a =
    subst (λ (on : List ℕ). Passes (taken_by s (Drained q n) p) on (s.pane p) ((at_pane q (after_drain n) s).pane p)) (nothing_in (nat_eq q p))
    (passes_at s q p (after_drain n) (taken_in (s.pane p) n) [] (drained_passes (s.pane p) n))

-- ---- entries

there : (o : Option Pane) → is_some o ≡ true → (p : Pane) × (o ≡ Some p)
there None e = absurd (cc)
there (Some p) e = (p, refl)

begins : (size : SessionSize) (log es : List Entry) (p : ℕ) → StaysThere size log es p → is_some ((session size log).pane p) ≡ true
begins size log [] p stays = stays
begins size log (e ∷ es) p stays = stays.0

pass : (size : SessionSize) (log es : List Entry) (p : ℕ) (a b : Pane) → StaysThere size log es p → (session size log).pane p ≡ Some a
    → (session size (log ++ es)).pane p ≡ Some b
    → all_taken size log es p ++ b.waiting ≡ a.waiting ++ all_put size log es p
pass size log [] p a b stays x y =
    let same : Some b ≡ Some a = sym y ∙ ap (λ (l : List Entry). (session size l).pane p) (append-nil log) ∙ x in
    let pane : b ≡ a = cc in
    ap (λ (q : Pane). q.waiting) pane ∙ sym (append-nil a.waiting)
pass size log (e ∷ es) p a b stays x y =
    let m = there ((session size (log ++ e ∷ [])).pane p) (begins size (log ++ e ∷ []) es p stays.1) in
    let off = taken_by (session size log) e p in
    let on = put_by (session size log) e p in
    let one : taken_by (session size log) e p ++ m.0.waiting ≡ a.waiting ++ put_by (session size log) e p =
    subst (λ (o : Option Pane). Passes (taken_by (session size log) e p) (put_by (session size log) e p) (Some a) o) m.1
    (subst (λ (s : SessionState). Passes (taken_by (session size log) e p) (put_by (session size log) e p) (Some a) (s.pane p))
    (sym (session-append size log e))
    (subst (λ (o : Option Pane). Passes (taken_by (session size log) e p) (put_by (session size log) e p) o
    ((after_entry (session size log) e).pane p)) x (entry_passes (session size log) e p (agree size log)))) in
    let rest : all_taken size (log ++ e ∷ []) es p ++ b.waiting ≡ m.0.waiting ++ all_put size (log ++ e ∷ []) es p =
    pass size (log ++ e ∷ []) es p m.0 b stays.1 m.1 (ap (λ (l : List Entry). (session size l).pane p) (append_assoc log (e ∷ []) es) ∙ y)
    in
    append_assoc off (all_taken size (log ++ e ∷ []) es p) b.waiting
    ∙ ap (λ (xs : List ℕ). taken_by (session size log) e p ++ xs) rest
    ∙ sym (append_assoc off m.0.waiting (all_put size (log ++ e ∷ []) es p))
    ∙ ap (λ (xs : List ℕ). xs ++ all_put size (log ++ e ∷ []) es p) one
    ∙ append_assoc a.waiting on (all_put size (log ++ e ∷ []) es p)

-- ---- the laws

waits : (o : Option Pane) (output : List ℕ) → waiting_in o ≡ Some output → (p : Pane) × (o ≡ Some p) × (p.waiting ≡ output)
waits None output e = absurd (cc)
waits (Some p) output e = (p, refl, cc)

pub passes_on : PassesEachByteOn
unfolding output_at
passes_on size log es p first last stays x y =
    let a = waits ((session size log).pane p) first x in
    let b = waits ((session size (log ++ es)).pane p) last y in
    ap (λ (xs : List ℕ). all_taken size log es p ++ xs) (sym b.2) ∙ pass size log es p a.0 b.0 stays a.1 b.1
    ∙ ap (λ (xs : List ℕ). xs ++ all_put size log es p) a.2

given_new : (old new : Option Rect) (pane : Option Pane) (output : List ℕ) → is_some pane ≡ is_some old → pane ≡ None
    → waiting_in (pane_after_act old new pane) ≡ Some output → output ≡ []
given_new old None pane output a e f = absurd (cc)
given_new None (Some new) pane output a e f = cc
given_new (Some old) (Some new) pane output a e f = absurd (let z : false ≡ true = ap is_some (sym e) ∙ a in cc)

none_at : (s : SessionState) (q p : ℕ) (f : Pane → Pane) (output : List ℕ) → s.pane p ≡ None
    → waiting_in ((at_pane q f s).pane p) ≡ Some output → output ≡ []
none_at s q p f output e g = absurd (go (nat_eq p q) g)
  where
    go : (b : Bool) → waiting_in (cond b (option_map f (s.pane p)) (s.pane p)) ≡ Some output → ⊥
    go true h = let z : waiting_in (option_map f None) ≡ Some output =
        subst (λ (o : Option Pane). waiting_in (option_map f o) ≡ Some output) e h in cc
    go false h = let z : waiting_in None ≡ Some output = subst (λ (o : Option Pane). waiting_in o ≡ Some output) e h in cc

none_laid : (s : SessionState) (p : ℕ) (o : Outcome) (output : List ℕ) → Agree s → s.pane p ≡ None
    → waiting_in ((laid_out o s).pane p) ≡ Some output → output ≡ []
none_laid s p (Laid plan) output a e f = given_new (rect_in p (panes s.plan)) (rect_in p (panes plan)) (s.pane p) output (a p) e f
none_laid s p (Refused fault) output a e f = absurd
    (let z : waiting_in None ≡ Some output = subst (λ (o : Option Pane). waiting_in o ≡ Some output) e f in cc)

none_acted : (s : SessionState) (p : ℕ) (key : Option Key) (act : Act) (output : List ℕ) → Agree s → s.pane p ≡ None
    → waiting_in ((after_act key act s).pane p) ≡ Some output → output ≡ []
none_acted s p (Some key) act output a e f = none_at s s.plan.focus p (after_key key) output e f
none_acted s p None act output a e f = none_laid s p (outcome_of s.plan act) output a e f

none_after : (s : SessionState) (entry : Entry) (p : ℕ) (output : List ℕ) → Agree s → s.pane p ≡ None
    → waiting_in ((after_entry s entry).pane p) ≡ Some output → output ≡ []
none_after s (Given q bytes) p output a e f = none_at s q p (after_feed bytes) output e f
none_after s (Did client act) p output a e f = none_acted s p (key_in act) act output a e f
none_after s (Drained q n) p output a e f = none_at s q p (after_drain n) output e f

waits_none : (o : Option Pane) → waiting_in o ≡ None → o ≡ None
waits_none None e = refl
waits_none (Some p) e = absurd (cc)

pub begins_empty : BeginsWithNoOutput
unfolding output_at session
begins_empty =
    record {
      at_first = (λ size p output e. given_new None (rect_in p (panes (start size.rows size.cols))) None output refl refl e);
      later = (λ size log entry p output e f.
          none_after (session size log) entry p output (agree size log) (waits_none ((session size log).pane p) e)
          (subst (λ (s : SessionState). waiting_in (s.pane p) ≡ Some output) (session-append size log entry) f));
    }
