use Rattle.std.proofs.Common.{◌≡◌, ℕ, ◌≢◌, inl, inr, ◌⊎◌, Some, None, sym, ap, ◌∙◌, subst}
use Rattle.std.proofs.lemmas.Result.{IfOk-weaker}
use Rattle.std.proofs.lemmas.Bool.{false≢true}
use Rattle.roam_cells.specs.declared.faults.Fault.TheVariants.{OutOfMemory, Busy}
use Rattle.roam_grid.specs.Marks.{also_marked}
use Rattle.roam_layout.specs.Rects.{rect_in}
use Rattle.roam_layout.specs.Layouts.{Laid, Refused, outcome_of, panes}
use Rattle.roam_session.specs.Generations.{CountsGenerations}
use Rattle.roam_session.specs.Marks.{is_concerned}
use Rattle.roam_session.specs.Sessions.{Did, key_in}
use Rattle.roam_session.specs.Refusals.{stops, fault_of}
use Rattle.roam_session.specs.Stands.{SessionView, Appends, MarksRows, term_at}
use Rattle.roam_session.specs.Steps.{IsGiven}
use Rattle.roam_session.specs.Queues.{ChangesAt, IsKeyed}
use Rattle.roam_session.proofs.Entering.{stands_keyed, stands_laid, stands_refused, stopped_is, not_stopped, never_wants, on_any, on_both, on_three, on_errors, busy_if, not_busy}
use Rattle.roam_session.proofs.Busyness.{keys_are_laid}
use Rattle.roam_session.proofs.MarkingRows.{marks_laid_out, marks_keyed}
use Rattle.roam_session.proofs.sessions.Session.act.Goals as goal

pub returns-in-Some-clause-done : goal.returns-in-Some-clause-done
returns-in-Some-clause-done c =
    let old = c.args.self.now in
    let new = c.type_key.new.self in
    let act = c.args.act.now in
    let key = c.in-Some.key in
    let is : key_in act ≡ Some key = sym c.key_in.ensures.key ∙ c.in-Some.is in
    IfOk-weaker c.type_key.result (λ _. ChangesAt old.plan.focus (IsKeyed key) old.terms new.terms)
    (λ _. Appends old new (Did c.args.client act))
    (λ _ changes. stands_keyed old new c.args.client act key is c.type_key.ensures.plan c.type_key.ensures.lives changes)
    c.type_key.ensures.keyed

pub returns-in-Some-clause-laid : goal.returns-in-Some-clause-laid
returns-in-Some-clause-laid c =
    let old = c.args.self.now.plan in
    let new = c.type_key.new.self.plan in
    let act = c.args.act.now in
    let is : key_in act ≡ Some c.in-Some.key = sym c.key_in.ensures.key ∙ c.in-Some.is in
    on_any c.type_key.result (outcome_of old act ≡ Laid new)
    (keys_are_laid old act c.in-Some.key is ∙ ap Laid (sym c.type_key.ensures.plan))

pub returns-in-Some-clause-busy : goal.returns-in-Some-clause-busy
returns-in-Some-clause-busy c size log h =
    let act = c.args.act.now in
    let key = c.in-Some.key in
    let is : key_in act ≡ Some key = sym c.key_in.ensures.key ∙ c.in-Some.is in
    busy_if (stops size log act) (fault_of c.type_key.result) (c.type_key.ensures.fault ∙ stopped_is c.args.self.now act key is size log h)

pub returns-in-None-clause-done : goal.returns-in-None-clause-done
returns-in-None-clause-done c =
    let old = c.args.self.now in
    let new = c.lay_out.new.self in
    let act = c.args.act.now in
    let no_key : key_in act ≡ None = sym c.key_in.ensures.key ∙ c.in-None.is in
    on_three c.lay_out.result (outcome_of old.plan act ≡ Laid new.plan)
    ((k : ℕ) → IsGiven (rect_in k (panes old.plan)) (rect_in k (panes new.plan)) (term_at old.terms k) (term_at new.terms k))
    (CountsGenerations old.plan new.plan old.generations new.generations) (Appends old new (Did c.args.client act))
    (λ e are generations. stands_laid old new c.args.client act no_key e are generations) c.lay_out.ensures.laid c.lay_out.ensures.given
    c.lay_out.ensures.lives

pub returns-in-None-clause-refused : goal.returns-in-None-clause-refused
returns-in-None-clause-refused c =
    let old = c.args.self.now in
    let new = c.lay_out.new.self in
    let act = c.args.act.now in
    let no_key : key_in act ≡ None = sym c.key_in.ensures.key ∙ c.in-None.is in
    on_errors c.lay_out.result (λ fault. (fault ≡ OutOfMemory) ⊎ (outcome_of old.plan act ≡ Refused fault))
    (λ fault. fault ≢ OutOfMemory → fault ≢ Busy → Appends old new (Did c.args.client act)) (new ≡ old)
    (λ fault why same not_memory busy.
    subst (λ (s : SessionView). Appends old s (Did c.args.client act)) (sym same)
    (elim why [
      | inl memory ↦ absurd (not_memory memory)
      | inr refused ↦ stands_refused old c.args.client act fault no_key refused
    ])) c.lay_out.ensures.refused c.lay_out.ensures.err

pub returns-in-None-clause-busy : goal.returns-in-None-clause-busy
returns-in-None-clause-busy c size log h =
    let act = c.args.act.now in
    let no_key : key_in act ≡ None = sym c.key_in.ensures.key ∙ c.in-None.is in (
      λ busy. absurd (not_busy c.lay_out.result c.args.self.now.plan act c.lay_out.ensures.refused busy),
      λ stopped. absurd (false≢true (sym (not_stopped act no_key size log) ∙ stopped)),
    )

pub returns-in-Some-clause-marks : goal.returns-in-Some-clause-marks
returns-in-Some-clause-marks c =
    let old = c.args.self.now in
    let new = c.type_key.new.self in
    let act = c.args.act.now in
    let is : key_in act ≡ Some c.in-Some.key = sym c.key_in.ensures.key ∙ c.in-Some.is in
    on_any c.type_key.result (MarksRows old new (Did c.args.client act))
    (marks_keyed old new c.args.client act c.in-Some.key is c.type_key.ensures.marks c.type_key.ensures.kept)

pub returns-in-None-clause-marks : goal.returns-in-None-clause-marks
returns-in-None-clause-marks c =
    let old = c.args.self.now in
    let new = c.lay_out.new.self in
    let act = c.args.act.now in
    let no_key : key_in act ≡ None = sym c.key_in.ensures.key ∙ c.in-None.is in
    on_both c.lay_out.result (outcome_of old.plan act ≡ Laid new.plan)
    (new.marks ≡ also_marked (is_concerned act old.plan new.plan) old.marks) (MarksRows old new (Did c.args.client act))
    (λ e marks. marks_laid_out old new c.args.client act no_key e marks c.lay_out.ensures.kept) c.lay_out.ensures.laid c.lay_out.ensures.marks

pub returns-in-Some-clause-keys : goal.returns-in-Some-clause-keys
returns-in-Some-clause-keys c wants =
    let old = c.args.self.now in
    absurd (never_wants c.type_key.result c.in-Some.key (term_at old.terms old.plan.focus) c.type_key.ensures.fault wants)

pub returns-in-None-clause-keys : goal.returns-in-None-clause-keys
returns-in-None-clause-keys c wants = sym c.key_in.ensures.key ∙ c.in-None.is

pub returns-in-Some-clause-exact : goal.returns-in-Some-clause-exact
returns-in-Some-clause-exact c fault e =
    let old = c.args.self.now.plan in
    let act = c.args.act.now in
    let is : key_in act ≡ Some c.in-Some.key = sym c.key_in.ensures.key ∙ c.in-Some.is in
    let no : Laid old ≡ Refused fault = sym (keys_are_laid old act c.in-Some.key is) ∙ e in
    absurd cc
