-- One entry more: the log that the session models afterwards.
use Rattle.std.proofs.Common.{◌≡◌, ℕ, ◌+◌, ◌<◌, Bool, true, false, cond, eqb, ltb, inl, inr, ◌⊎◌, Result, Ok, Err, List, [], ◌∷◌, ◌++◌, length, Option, Some, None, refl, sym, ap, ◌∙◌, subst, arith}
use Rattle.std.specs.Option.{option_map}
use Rattle.std.specs.Prelude.{OnOk, OnErr, IfErr}
use Rattle.std.proofs.lemmas.Bool.{eqb-true, eq-eqb, false≢true, cases_lt}
use Rattle.std.proofs.lemmas.List.{get_or_past}
use Rattle.roam_cells.specs.declared.faults.Fault.{Fault}
use Rattle.roam_cells.specs.declared.faults.Fault.TheVariants.{OutOfMemory, Busy}
use Rattle.roam_keys.specs.declared.keys.Key.{Key}
use Rattle.roam_acts.specs.declared.acts.Act.{Act}
use Rattle.roam_keys.specs.Sent.{bytes_of_key}
use Rattle.roam_term.specs.Keys.{key_modes}
use Rattle.roam_term.specs.Stands.{TermView}
use Rattle.roam_layout.specs.Rects.{rect_in}
use Rattle.roam_layout.specs.Layouts.{Plan, IsPlan, Laid, Refused, outcome_of, panes, start}
use Rattle.roam_layout.specs.declared.rects.Rect.{Rect}
use Rattle.roam_session.specs.Panes.{Pane, pane_after_act, after_feed, after_key, after_drain}
use Rattle.roam_session.specs.Sessions.{Entry, Given, Did, Drained, SessionSize, SessionState, session, after_act, laid_out, panes_given, at_pane, key_in}
use Rattle.roam_session.specs.Refusals.{waiting_in, output_at, stops, is_full_for, is_stopped, fault_of}
use Rattle.roam_session.specs.Stands.{SessionView, Stands, Agrees, ArePlaced, term_at, waiting_at}
use Rattle.roam_session.specs.Steps.{IsGiven, Prepares, Does, step_at}
use Rattle.roam_session.specs.declared.steps.Step.{Step}
use Rattle.roam_session.specs.Queues.{ChangesAt, Both, IsFed, IsKeyed, IsDrained, key_refused}
use Rattle.roam_session.proofs.Logs.{session-append}
use Rattle.roam_session.proofs.Agreeing.{agrees_given, placed_given, agrees_both, Does', does_fed, does_keyed, does_drained}
use Rattle.roam_session.specs.Generations.{CountsGenerations}
use Rattle.roam_session.proofs.Living.{counted_more, counts_kept, first_generations, counted_first}
use Rattle.roam_session.proofs.Rectangles.{none_above}
use Rattle.roam_session.proofs.Busyness.{never_busy}

-- a session models a log with one entry more if it agrees with the result of the entry
stands_after : (s t : SessionView) (size : SessionSize) (log : List Entry) (entry : Entry) (now : SessionState) → Stands s size log
    → session size (log ++ entry ∷ []) ≡ now → t.plan ≡ now.plan → ((k : ℕ) → Agrees (term_at t.terms k) (now.pane k))
    → CountsGenerations s.plan t.plan s.generations t.generations → Stands t size (log ++ entry ∷ [])
stands_after s t size log entry now h e plan panes generations =
    let after = plan ∙ ap (λ (x : SessionState). x.plan) (sym e) in
    record {
      plan = after;
      panes = λ k. subst (λ (x : SessionState). Agrees (term_at t.terms k) (x.pane k)) (sym e) (panes k);
      generations = counted_more s t size log entry h after generations;
    }

-- ---- layout commands

pub stands_laid : (s t : SessionView) (client : ℕ) (act : Act) → key_in act ≡ None → outcome_of s.plan act ≡ Laid t.plan
    → ((k : ℕ) → IsGiven (rect_in k (panes s.plan)) (rect_in k (panes t.plan)) (term_at s.terms k) (term_at t.terms k))
    → CountsGenerations s.plan t.plan s.generations t.generations
    → (size : SessionSize) (log : List Entry) → Stands s size log → Stands t size (log ++ Did client act ∷ [])
stands_laid s t client act no_key e are generations size log h =
    let d = session size log in
    let now : SessionState = record { plan = t.plan; pane = panes_given s.plan t.plan d.pane } in
    stands_after s t size log (Did client act) now h
    (session-append size log (Did client act) ∙ ap (λ o. after_act o act d) no_key ∙ ap (λ p. laid_out (outcome_of p act) d) (sym h.plan)
    ∙ ap (λ o. laid_out o d) e
    ∙ (λ i. record { plan = t.plan; pane = panes_given (sym h.plan i) t.plan d.pane }))
    refl
    (λ k. agrees_given (rect_in k (panes s.plan)) (rect_in k (panes t.plan)) (term_at s.terms k) (term_at t.terms k) (d.pane k) (are k)
    (h.panes k))
    generations

pub stands_refused : (s : SessionView) (client : ℕ) (act : Act) (fault : Fault) → key_in act ≡ None → outcome_of s.plan act ≡ Refused fault
    → (size : SessionSize) (log : List Entry) → Stands s size log → Stands s size (log ++ Did client act ∷ [])
stands_refused s client act fault no_key e size log h =
    let d = session size log in
    stands_after s s size log (Did client act) d h
    (session-append size log (Did client act) ∙ ap (λ o. after_act o act d) no_key ∙ ap (λ p. laid_out (outcome_of p act) d) (sym h.plan)
    ∙ ap (λ o. laid_out o d) e)
    h.plan h.panes (counts_kept s s size log h refl refl)

-- preparing and then doing gives each number the result that its rectangles ask for
pub brought : (before : List (ℕ × Rect)) (new : Plan) (xs ys : List (ℕ × Rect)) (ts zs us : List (Option TermView)) (steps : List Step)
    → IsPlan new
    → xs ≡ before → ys ≡ panes new → zs ≡ ts → length us ≡ 10
    → ((k : ℕ) → k < 10 → Prepares (step_at steps k) (rect_in k xs) (rect_in k ys) (term_at zs k))
    → ((k : ℕ) → k < 10 → Does (step_at steps k) (term_at ts k) (term_at us k))
    → (k : ℕ) → IsGiven (rect_in k before) (rect_in k (panes new)) (term_at ts k) (term_at us k)
brought before new xs ys ts zs us steps plan from to same ten prepared done k =
    elim (cases_lt k 10) [
      | inl low ↦
          let one : Prepares (step_at steps k) (rect_in k before) (rect_in k (panes new)) (term_at ts k) =
          subst (λ (l : List (ℕ × Rect)). Prepares (step_at steps k) (rect_in k l) (rect_in k (panes new)) (term_at ts k)) from
          (subst (λ (l : List (ℕ × Rect)). Prepares (step_at steps k) (rect_in k xs) (rect_in k l) (term_at ts k)) to
          (subst (λ (l : List (Option TermView)). Prepares (step_at steps k) (rect_in k xs) (rect_in k ys) (term_at l k)) same
          (prepared k low)))
          in one.does (term_at us k) (done k low)
      | inr high ↦
          subst (λ (r : Option Rect). IsGiven (rect_in k before) r (term_at ts k) (term_at us k)) (sym (none_above new plan k high))
          (subst (λ (t : Option TermView). IsGiven (rect_in k before) None (term_at ts k) t)
          (sym (get_or_past us k None (omega (arith, ten, high)))) tt)
    ]

pub placed_all : (old new : Plan) (ts us : List (Option TermView)) → ArePlaced old ts
    → ((k : ℕ) → IsGiven (rect_in k (panes old)) (rect_in k (panes new)) (term_at ts k) (term_at us k))
    → ArePlaced new us
placed_all old new ts us placed are k =
    placed_given (rect_in k (panes old)) (rect_in k (panes new)) (term_at ts k) (term_at us k) (are k) (placed k)

-- ---- the instance

none_agrees : (o : Option TermView) → o ≡ None → Agrees o None
none_agrees o e = subst (λ (t : Option TermView). Agrees t None) (sym e) tt

pub stands_first : (s : SessionView) (size : SessionSize) (ts : List (Option TermView)) → s.plan ≡ start size.rows size.cols
    → s.generations ≡ first_generations → ((k : ℕ) → term_at ts k ≡ None)
    → ((k : ℕ) → IsGiven None (rect_in k (panes s.plan)) (term_at ts k) (term_at s.terms k))
    → Stands s size []
unfolding session
stands_first s size ts plan generations none are =
    record {
      plan = plan;
      panes = λ k.
          subst (λ (x : Plan). Agrees (term_at s.terms k) (pane_after_act None (rect_in k (panes x)) None)) plan
          (agrees_given None (rect_in k (panes s.plan)) (term_at ts k) (term_at s.terms k) None (are k)
          (none_agrees (term_at ts k) (none k)));
      generations = counted_first s size generations;
    }

-- ---- calls on one pane

agrees_at : (p : ℕ) (rule : TermView → TermView → Type 0) (change : Pane → Pane) → Does' rule change → (ts us : List (Option TermView))
    → ChangesAt p rule ts us
    → (pane : ℕ → Option Pane) → ((k : ℕ) → Agrees (term_at ts k) (pane k))
    → (k : ℕ) → Agrees (term_at us k) (cond (eqb k p) (option_map change (pane k)) (pane k))
agrees_at p rule change does ts us changes pane of k = by_number (eqb k p) refl
  where
    by_number : (v : Bool) → eqb k p ≡ v → Agrees (term_at us k) (cond v (option_map change (pane k)) (pane k))
    by_number true e =
        let here = subst (λ (j : ℕ). Both rule (term_at ts j) (term_at us j)) (sym (eqb-true k p e)) changes.here in
        agrees_both rule change does (term_at ts k) (term_at us k) (pane k) here (of k)
    by_number false e =
        subst (λ (t : Option TermView). Agrees t (pane k)) (sym (changes.others k (λ same. false≢true (sym e ∙ eq-eqb k p same)))) (of k)

pub stands_fed : (s t : SessionView) (p : ℕ) (bytes : List ℕ) (plan : Plan) (before after : List Bool) → t.plan ≡ s.plan
    → t.generations ≡ s.generations → ChangesAt p (IsFed bytes plan p before after) s.terms t.terms
    → (size : SessionSize) (log : List Entry) → Stands s size log → Stands t size (log ++ Given p bytes ∷ [])
stands_fed s t p bytes layout before after plan generations changes size log h =
    let d = session size log in
    stands_after s t size log (Given p bytes) (at_pane p (after_feed bytes) d) h (session-append size log (Given p bytes)) (plan ∙ h.plan)
    (agrees_at p (IsFed bytes layout p before after) (after_feed bytes) (does_fed bytes layout p before after) s.terms t.terms changes d.pane h.panes)
    (counts_kept s t size log h plan generations)

pub stands_drained : (s t : SessionView) (p n : ℕ) → t.plan ≡ s.plan → t.generations ≡ s.generations → ChangesAt p (IsDrained n) s.terms t.terms
    → (size : SessionSize) (log : List Entry) → Stands s size log → Stands t size (log ++ Drained p n ∷ [])
stands_drained s t p n plan generations changes size log h =
    let d = session size log in
    stands_after s t size log (Drained p n) (at_pane p (after_drain n) d) h (session-append size log (Drained p n)) (plan ∙ h.plan)
    (agrees_at p (IsDrained n) (after_drain n) (does_drained n) s.terms t.terms changes d.pane h.panes) (counts_kept s t size log h plan generations)

pub stands_keyed : (s t : SessionView) (client : ℕ) (act : Act) (key : Key) → key_in act ≡ Some key → t.plan ≡ s.plan
    → t.generations ≡ s.generations → ChangesAt s.plan.focus (IsKeyed key) s.terms t.terms
    → (size : SessionSize) (log : List Entry) → Stands s size log → Stands t size (log ++ Did client act ∷ [])
stands_keyed s t client act key is plan generations changes size log h =
    let d = session size log in
    let f = s.plan.focus in
    stands_after s t size log (Did client act) (at_pane f (after_key key) d) h
    (session-append size log (Did client act) ∙ ap (λ o. after_act o act d) is ∙ ap (λ (x : Plan). at_pane x.focus (after_key key) d) (sym h.plan))
    (plan ∙ h.plan)
    (agrees_at f (IsKeyed key) (after_key key) (does_keyed key) s.terms t.terms changes d.pane h.panes) (counts_kept s t size log h plan generations)

-- ---- the queued bytes

waits : (t : Option TermView) (pane : Option Pane) → Agrees t pane → option_map (λ (x : TermView). x.waiting) t ≡ waiting_in pane
waits None None of = refl
waits None (Some p) of = absurd of
waits (Some t) None of = absurd of
waits (Some t) (Some p) of = ap Some of.waiting

pub waiting_is : (s : SessionView) (p : ℕ) (size : SessionSize) (log : List Entry) → Stands s size log
    → waiting_at s.terms p ≡ output_at size log p
unfolding output_at
waiting_is s p size log h = waits (term_at s.terms p) ((session size log).pane p) (h.panes p)

-- a queue is full for a key if the key is refused
abbrev pub fault_if : Bool → Option Fault
fault_if v = cond v (Some Busy) None

fulls : (key : Key) (t : Option TermView) (pane : Option Pane) → Agrees t pane → key_refused key t ≡ fault_if (is_full_for key pane)
fulls key None None of = refl
fulls key None (Some p) of = absurd of
fulls key (Some t) None of = absurd of
fulls key (Some t) (Some p) of = λ i. fault_if (ltb 65536 (length (of.waiting i) + length (bytes_of_key (key_modes (of.stands.live i).modes) key)))

pub stopped_is : (s : SessionView) (act : Act) (key : Key) → key_in act ≡ Some key → (size : SessionSize) (log : List Entry)
    → Stands s size log
    → key_refused key (term_at s.terms s.plan.focus) ≡ fault_if (stops size log act)
unfolding stops
stopped_is s act key is size log h =
    let d = session size log in
    fulls key (term_at s.terms s.plan.focus) (d.pane s.plan.focus) (h.panes s.plan.focus)
    ∙ ap (λ (x : Plan). fault_if (is_full_for key (d.pane x.focus))) h.plan
    ∙ ap (λ o. fault_if (is_stopped o d)) (sym is)

pub not_stopped : (act : Act) → key_in act ≡ None → (size : SessionSize) (log : List Entry) → stops size log act ≡ false
unfolding stops
not_stopped act no_key size log = ap (λ o. is_stopped o (session size log)) no_key

-- ---- answers

pub on_both : {A E : Type 0} (r : Result A E) (P Q R : Type 0) → (P → Q → R) → OnOk r P → OnOk r Q → OnOk r R
on_both (Ok x) P Q R f p q = f p q
on_both (Err e) P Q R f p q = tt

pub on_errors : {A E : Type 0} (r : Result A E) (P Q : E → Type 0) (R : Type 0) → ((e : E) → P e → R → Q e) → IfErr r P → OnErr r R
    → IfErr r Q
on_errors (Ok x) P Q R f p q = tt
on_errors (Err e) P Q R f p q = f e p q

pub on_three : {A E : Type 0} (r : Result A E) (P Q S R : Type 0) → (P → Q → S → R) → OnOk r P → OnOk r Q → OnOk r S → OnOk r R
on_three (Ok x) P Q S R f p q s = f p q s
on_three (Err e) P Q S R f p q s = tt

-- a fact is one about each answer
pub on_any : {A E : Type 0} (r : Result A E) (P : Type 0) → P → OnOk r P
on_any (Ok x) P p = p
on_any (Err e) P p = tt

-- a key is stopped exactly if it is refused
pub busy_if : (v : Bool) (o : Option Fault) → o ≡ fault_if v → (o ≡ Some Busy → v ≡ true) × (v ≡ true → o ≡ Some Busy)
busy_if true o e = (λ h. refl, λ h. e)
busy_if false o e = (λ h. let no : None ≡ Some Busy = sym e ∙ h in cc, λ h. cc)

-- and a layout command never
pub not_busy : {A : Type 0} (r : Result A Fault) (plan : Plan) (act : Act) → IfErr r (λ f. (f ≡ OutOfMemory) ⊎ (outcome_of plan act ≡ Refused f))
    → fault_of r ≡ Some Busy → ⊥
not_busy (Ok x) plan act why e = cc
not_busy (Err f) plan act why e =
    let busy : f ≡ Busy = cc in
    elim why [
      | inl memory ↦ let no : Busy ≡ OutOfMemory = sym busy ∙ memory in cc
      | inr refused ↦ never_busy plan act (refused ∙ ap Refused busy)
    ]

-- and no key finds no memory
pub never_wants : {A : Type 0} (r : Result A Fault) (key : Key) (t : Option TermView) → fault_of r ≡ key_refused key t
    → r ≡ Err OutOfMemory → ⊥
never_wants r key None is e = let no : None ≡ Some OutOfMemory = sym is ∙ ap fault_of e in cc
never_wants r key (Some t) is e =
    not_wanted (ltb 65536 (length t.waiting + length (bytes_of_key (key_modes t.live.modes) key))) (sym is ∙ ap fault_of e)
  where
    not_wanted : (v : Bool) → fault_if v ≡ Some OutOfMemory → ⊥
    not_wanted true h = let no : Busy ≡ OutOfMemory = cc in cc
    not_wanted false h = cc
