-- The marks after an entry, of the session that a log makes.
use Rattle.std.proofs.Common.{◌≡◌, ℕ, Bool, List, drop, length, Option, Some, None, sym, ap, ◌∙◌, subst}
use Rattle.roam_acts.specs.declared.acts.Act.{Act}
use Rattle.roam_keys.specs.declared.keys.Key.{Key}
use Rattle.roam_grid.specs.Marks.{all_off, also_marked}
use Rattle.roam_text.specs.Functions.{functions_of}
use Rattle.roam_term.specs.Marks.{marked_through}
use Rattle.roam_term.specs.Stands.{TermView}
use Rattle.roam_layout.specs.Rects.{rect_in}
use Rattle.roam_layout.specs.Layouts.{Plan, Laid, outcome_of, panes}
use Rattle.roam_session.specs.Marks.{view_in, touched_marks, functions_given, named_by, is_concerned, marks_laid, marks_acted, marks_after}
use Rattle.roam_session.specs.Panes.{Pane, live_of}
use Rattle.roam_session.specs.Refusals.{bytes_refused}
use Rattle.roam_session.specs.Sessions.{Entry, Given, Did, SessionSize, session, key_in}
use Rattle.roam_session.specs.Stands.{SessionView, Agrees, IsQuiet, IsQuietAt, MarksRows, term_at, waiting_at}
use Rattle.roam_session.specs.Queues.{Both, ChangesAt, IsFed}
use Rattle.roam_session.proofs.Agreeing.{drop-front}
use Rattle.roam_session.proofs.Standing.{taken, given_to}

-- ---- bytes

named_is : (bytes : List ℕ) (plan : Plan) (p : ℕ) (before after : List Bool) (t u : TermView) (pane : Option Pane)
    → (fed : IsFed bytes plan p before after t u) → IsQuiet t → Agrees (Some t) pane → fed.read.marks ≡ named_by bytes pane
named_is bytes plan p before after t u None fed quiet of = absurd of
named_is bytes plan p before after t u (Some pane) fed quiet of =
    let gains = fed.fed.marks pane.rows pane.cols 500 pane.log of.stands in
    let told = functions_of pane.log in
    let more : functions_given pane bytes ≡ gains.more = ap (drop (length told)) gains.functions ∙ drop-front told gains.more in
    gains.marks ∙ ap (marked_through t.live gains.more) quiet.marks ∙ ap (λ l. marked_through l gains.more all_off) of.stands.live
    ∙ ap (λ fs. marked_through (live_of pane) fs all_off) (sym more)

pub marks_fed : (plan : Plan) (ts us : List (Option TermView)) (before after : List Bool) (p : ℕ) (bytes : List ℕ) (size : SessionSize)
    (log : List Entry) → ((k : ℕ) → IsQuietAt (term_at ts k)) → None ≡ bytes_refused bytes (waiting_at ts p)
    → ChangesAt p (IsFed bytes plan p before after) ts us → plan ≡ (session size log).plan
    → ((k : ℕ) → Agrees (term_at ts k) ((session size log).pane k)) → after ≡ marks_after (session size log) (Given p bytes) before
marks_fed plan ts us before after p bytes size log quiet free changes same of =
    let d = session size log in
    let rule = IsFed bytes plan p before after in
    let old = taken bytes (term_at ts p) free in
    let new = given_to rule old.0 (term_at us p) (subst (λ (o : Option TermView). Both rule o (term_at us p)) old.1 changes.here) in
    let fed = new.2 in
    fed.marks
    ∙ ap (λ named. touched_marks (rect_in p (panes plan)) (view_in plan p) plan.rows named before)
    (named_is bytes plan p before after old.0 new.0 (d.pane p) fed (subst IsQuietAt old.1 (quiet p))
    (subst (λ (o : Option TermView). Agrees o (d.pane p)) old.1 (of p)))
    ∙ ap (λ (x : Plan). touched_marks (rect_in p (panes x)) (view_in x p) x.rows (named_by bytes (d.pane p)) before) same

-- ---- acts

pub marks_laid_out : (s t : SessionView) (client : ℕ) (act : Act) → key_in act ≡ None → outcome_of s.plan act ≡ Laid t.plan
    → t.marks ≡ also_marked (is_concerned act s.plan t.plan) s.marks → t.kept ≡ s.kept → MarksRows s t (Did client act)
marks_laid_out s t client act no_key e marks kept = record {
  kept = kept;
  marks = λ size log h.
      let d = session size log in
      marks ∙ sym (ap (λ o. marks_laid act s.plan o s.marks) e) ∙ ap (λ x. marks_laid act x (outcome_of x act) s.marks) h.plan
      ∙ sym (ap (λ o. marks_acted o act d s.marks) no_key);
}

pub marks_keyed : (s t : SessionView) (client : ℕ) (act : Act) (key : Key) → key_in act ≡ Some key → t.marks ≡ s.marks → t.kept ≡ s.kept
    → MarksRows s t (Did client act)
marks_keyed s t client act key is marks kept = record {
  kept = kept;
  marks = λ size log h. marks ∙ sym (ap (λ o. marks_acted o act (session size log) s.marks) is);
}
