-- The invariant of every session stays true after each call.
use Rattle.std.proofs.Common.{◌≡◌, ℕ, Bool, true, false, eqb, Result, Ok, Err, List, Option, Some, None, refl, sym, ap, ◌∙◌, subst}
use Rattle.std.specs.Prelude.{OnOk, OnErr, slice_index}
use Rattle.std.specs.Option.{option_map}
use Rattle.std.proofs.lemmas.Bool.{eqb-true, eq-eqb, false≢true}
use Rattle.roam_screens.specs.Screenshot.{Screenshot}
use Rattle.roam_cells.specs.declared.faults.Fault.{Fault}
use Rattle.roam_term.specs.Picture.{picture_of}
use Rattle.roam_term.specs.Stands.{TermView, HasSize}
use Rattle.roam_layout.specs.Faces.{KeepsRows}
use Rattle.roam_layout.specs.Rects.{rect_in}
use Rattle.roam_layout.specs.Layouts.{Plan, IsPlan, panes}
use Rattle.roam_layout.specs.declared.rects.Rect.{Rect}
use Rattle.roam_session.specs.Refusals.{bytes_refused, fault_of}
use Rattle.roam_session.specs.Stands.{IsSession, IsPlaced, ArePlaced, shown_at, shown_by, term_at, waiting_at}
use Rattle.roam_session.specs.Queues.{Both, ChangesAt, Keeps, IsFed}
use Rattle.roam_session.proofs.KeepingRows.{fed_keeps}
use Rattle.roam_session.proofs.Quiet.{quiet_at, kept_quiet, fed_quiet}

-- an answer is one of two
pub either_way : {A E : Type 0} (r : Result A E) (P Q R : Type 0) → (P → R) → (Q → R) → OnOk r P → OnErr r Q → R
either_way (Ok x) P Q R f g p q = f p
either_way (Err e) P Q R f g p q = g q

-- and bytes that aren't refused were taken
pub by_answer : {A : Type 0} (r : Result A Fault) (o : Option Fault) (P Q same R : Type 0) → fault_of r ≡ o → (None ≡ o → P → R)
    → (Q → same → R) → OnOk r P → OnErr r Q → OnErr r same → R
by_answer (Ok x) o P Q same R e f g p q s = f e p
by_answer (Err x) o P Q same R e f g p q s = g q s

pub on_taken : {A : Type 0} (r : Result A Fault) (o : Option Fault) (P Q : Type 0) → fault_of r ≡ o → (None ≡ o → P → Q) → OnOk r P
    → OnOk r Q
on_taken (Ok x) o P Q e f p = f e p
on_taken (Err x) o P Q e f p = tt

-- ---- calls that leave a terminal's picture

-- a rule keeps a terminal's size
abbrev pub KeepsSize : (TermView → TermView → Type 0) → Type 0
KeepsSize rule = (old new : TermView) → rule old new → HasSize new old.live.screen.rows old.live.screen.cols

both_placed : (rule : TermView → TermView → Type 0) → KeepsSize rule → (r : Option Rect) (old new : Option TermView) → Both rule old new
    → IsPlaced r old → IsPlaced r new
both_placed rule keeps r None None both is = is
both_placed rule keeps r None (Some new) both is = absurd both
both_placed rule keeps r (Some old) None both is = absurd both
both_placed rule keeps None (Some old) (Some new) both is = absurd is
both_placed rule keeps (Some r) (Some old) (Some new) both is =
    let size = keeps old new both in (size.0 ∙ is.0, size.1 ∙ is.1)

pub placed_at : (p : ℕ) (rule : TermView → TermView → Type 0) → KeepsSize rule → (plan : Plan) (ts us : List (Option TermView))
    → ChangesAt p rule ts us → ArePlaced plan ts → ArePlaced plan us
placed_at p rule keeps plan ts us changes is k = by_number (eqb k p) refl
  where
    by_number : (v : Bool) → eqb k p ≡ v → IsPlaced (rect_in k (panes plan)) (term_at us k)
    by_number true e =
        let same = eqb-true k p e in
        subst (λ (j : ℕ). IsPlaced (rect_in j (panes plan)) (term_at us j)) (sym same)
        (both_placed rule keeps (rect_in p (panes plan)) (term_at ts p) (term_at us p) changes.here (is p))
    by_number false e =
        subst (IsPlaced (rect_in k (panes plan))) (sym (changes.others k (λ same. false≢true (sym e ∙ eq-eqb k p same)))) (is k)

both_shown : (rule : TermView → TermView → Type 0) → ((old new : TermView) → rule old new → Keeps old new) → (view : ℕ)
    → (old new : Option TermView) → Both rule old new → shown_at view new ≡ shown_at view old
both_shown rule keeps view None None both = refl
both_shown rule keeps view None (Some new) both = absurd both
both_shown rule keeps view (Some old) None both = absurd both
both_shown rule keeps view (Some old) (Some new) both =
    let is = keeps old new both in (λ i. picture_of (is.live i) (is.history i) view)

module _ (p : ℕ) (rule : TermView → TermView → Type 0) (keeps : (old new : TermView) → rule old new → Keeps old new) (plan : Plan)
    (ts us : List (Option TermView)) (changes : ChangesAt p rule ts us) where
  shown_same : (k : ℕ) → shown_by plan us k ≡ shown_by plan ts k
  shown_same k = by_number (eqb k p) refl
    where
      by_number : (v : Bool) → eqb k p ≡ v → shown_by plan us k ≡ shown_by plan ts k
      by_number true e =
          subst (λ (j : ℕ). shown_by plan us j ≡ shown_by plan ts j) (sym (eqb-true k p e))
          (both_shown rule keeps (slice_index plan.views p) (term_at ts p) (term_at us p) changes.here)
      by_number false e =
          ap (shown_at (slice_index plan.views k)) (changes.others k (λ same. false≢true (sym e ∙ eq-eqb k p same)))

  pub kept_session : (marks : List Bool) (kept : Screenshot) (generations : List ℕ)
      → IsSession (record { plan = plan; terms = ts; marks = marks; kept = kept; generations = generations })
      → IsSession (record { plan = plan; terms = us; marks = marks; kept = kept; generations = generations })
  kept_session marks kept generations is = record {
    ten = changes.count ∙ is.ten;
    placed =
        placed_at p rule (λ old new h. let k = keeps old new h in (ap (λ l. l.screen.rows) k.live, ap (λ l. l.screen.cols) k.live)) plan ts us changes
        is.placed;
    quiet = quiet_at p rule (λ old new h q. kept_quiet old new (keeps old new h) q) ts us changes is.quiet;
    kept = subst (KeepsRows marks kept plan) (λ i k. sym (shown_same k) i) is.kept;
  }

-- ---- bytes

-- a terminal takes what isn't refused
pub taken : (bytes : List ℕ) (o : Option TermView) → None ≡ bytes_refused bytes (option_map (λ (t : TermView). t.waiting) o)
    → (t : TermView) × (o ≡ Some t)
taken bytes None e = absurd cc
taken bytes (Some t) e = (t, refl)

pub given_to : (rule : TermView → TermView → Type 0) (old : TermView) (o : Option TermView) → Both rule (Some old) o
    → (new : TermView) × (o ≡ Some new) × rule old new
given_to rule old None both = absurd both
given_to rule old (Some new) both = (new, refl, both)

fed_size : (bytes : List ℕ) (plan : Plan) (p : ℕ) (before after : List Bool) → KeepsSize (IsFed bytes plan p before after)
fed_size bytes plan p before after old new is =
    (ap (λ (t : TermView). t.live.screen.rows) is.quiet ∙ is.size.0, ap (λ (t : TermView). t.live.screen.cols) is.quiet ∙ is.size.1)

pub fed_session : (p : ℕ) (bytes : List ℕ) (plan : Plan) (before after : List Bool) (ts us : List (Option TermView)) (kept : Screenshot)
    (generations : List ℕ) → IsPlan plan → None ≡ bytes_refused bytes (waiting_at ts p) → ChangesAt p (IsFed bytes plan p before after) ts us
    → IsSession (record { plan = plan; terms = ts; marks = before; kept = kept; generations = generations })
    → IsSession (record { plan = plan; terms = us; marks = after; kept = kept; generations = generations })
fed_session p bytes plan before after ts us kept generations is_plan free changes is =
    let rule = IsFed bytes plan p before after in
    let old = taken bytes (term_at ts p) free in
    let new = given_to rule old.0 (term_at us p) (subst (λ (o : Option TermView). Both rule o (term_at us p)) old.1 changes.here) in
    record {
      ten = changes.count ∙ is.ten;
      placed = placed_at p rule (fed_size bytes plan p before after) plan ts us changes is.placed;
      quiet = quiet_at p rule (fed_quiet bytes plan p before after) ts us changes is.quiet;
      kept = fed_keeps plan is_plan p bytes before after ts us kept is.placed is.quiet changes is.kept old.0 new.0 old.1 new.1 new.2;
    }
